use Rattle.std.proofs.Common.{◌≡◌, ◌≤◌}
use Rattle.design.specs.Views.{core}
use Rattle.model.specs.Core.{driver_at, inputs_below}
use Rattle.model.specs.Cycle.{edged, given_by}
use Rattle.engine.proofs.state.State.edge_nets.Given as goal
use Rattle.engine.proofs.MemoryLemmas.{Filled}

abbrev pub invariant-loop-i : goal.invariant-loop-i
invariant-loop-i g l =
    (l.inputs ≡ inputs_below (core l.self.design.now) l.i) × (l.inputs ≤ l.i)
    × Filled g.V.Level.kind
    (λ i. edged g.V.Level.kind (core l.self.design.now) l.self.levels.now (given_by g.V.Level.kind (core l.self.design.now) l.line) i (driver_at (core l.self.design.now) i))
    l.i l.after
