use Rattle.design.specs.Views.{core}
use Rattle.explore.specs.Memory.{memory_of}
use Rattle.bounder.specs.Bound.{TakesStarts}
use Rattle.bounder.proofs.bounding.start_all.Given as goal

-- the starts so far are taken
abbrev pub invariant-loop-number : goal.invariant-loop-number
invariant-loop-number l =
    TakesStarts (core l.design) (memory_of l.initial.exploration l.initial.points l.initial.opened l.initial.kept l.initial.scratch) l.number
    (memory_of l.exploration l.points l.opened l.kept l.scratch)
