use Rattle.design.specs.Views.{core}
use Rattle.explore.specs.Memory.{view}
use Rattle.explore.specs.Holding.{held_memory, SameHeld}
use Rattle.explore.specs.Moves.{Holds}
use Rattle.explore.proofs.Continued.{Continues}
use Rattle.explore.proofs.held.Held.take_all.Given as goal

-- what is taken from here on goes on from what was taken so far
abbrev pub invariant-loop-taken : goal.invariant-loop-taken
invariant-loop-taken g l =
    Continues (core l.initial.self.design.now) (g.R.Rule.meaning l.rule) l.initial.self.exploration.now l.budget l.taken
    (view (held_memory l.initial.self)) (view (held_memory l.self))
    × Holds (held_memory l.initial.self) (held_memory l.self)
    × SameHeld l.initial.self l.self
