use Rattle.std.proofs.Common.{◌≡◌, ◌+◌, ◌*◌}
use Rattle.model.specs.Core.{flops, flops_below}
use Rattle.design.specs.Views.{core}
use Rattle.engine.proofs.Starting.{Begun}
use Rattle.engine.proofs.starts.start_nets.Given as goal

abbrev pub invariant-loop-i : goal.invariant-loop-i
invariant-loop-i g l =
    (l.flop ≡ l.number * flops (core l.design) + flops_below (core l.design) l.i)
    × Begun g.V.Level.kind (core l.design) l.number l.i l.state
