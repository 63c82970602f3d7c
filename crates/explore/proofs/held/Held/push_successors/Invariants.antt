use Rattle.std.proofs.Common.{◌≡◌}
use Rattle.design.specs.Views.{core}
use Rattle.explore.specs.Memory.{Adds}
use Rattle.explore.specs.Steps.{Pushed}
use Rattle.explore.specs.Holding.{SameHeld}
use Rattle.explore.specs.declared.exploration.Exploration.{Exploration}
use Rattle.explore.proofs.Successive.{points_so_far, open_so_far}
use Rattle.explore.proofs.held.Held.push_successors.Given as goal

-- the successors of the choices so far are written
abbrev pub invariant-loop-choice : goal.invariant-loop-choice
invariant-loop-choice l =
    let x : Exploration = l.initial.self.exploration.now in
    let d = core l.initial.self.design.now in
    let current = l.edge.current.now in
    Adds l.choice x l.self.exploration.now
    × Pushed x.places l.initial.self.points.now l.self.points.now l.initial.self.opened.now l.self.opened.now
    x.numbers l.self.exploration.now.numbers x.point_count x.open_count l.choice
    (points_so_far d current l.from x.point_count l.choice) (open_so_far d current l.from x.point_count l.choice)
    × (l.self.kept.now ≡ l.initial.self.kept.now) × SameHeld l.initial.self l.self
