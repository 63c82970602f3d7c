use Rattle.std.proofs.Common.{◌≡◌, drop}
use Rattle.model.specs.Cycle.{settled_from}
use Rattle.design.specs.Views.{core}
use Rattle.engine.proofs.gates.settle_gates.Given as goal

abbrev pub invariant-loop-i : goal.invariant-loop-i
invariant-loop-i g l =
    settled_from g.V.Level.kind (core l.design) l.i (drop l.i (core l.design).nets) l.state
    ≡ settled_from g.V.Level.kind (core l.design) 0 (core l.design).nets l.initial.state
