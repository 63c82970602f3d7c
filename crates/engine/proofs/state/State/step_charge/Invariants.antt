use Rattle.std.proofs.Common.{◌≡◌, ◌+◌, ◌*◌, ◌≤◌, map, sum}
use Rattle.std.specs.List.{range_with_len}
use Rattle.model.specs.Energy.{net_charge, memory_charge}
use Rattle.design.specs.Views.{core}
use Rattle.engine.proofs.state.State.step_charge.Given as goal

abbrev pub invariant-loop-i : goal.invariant-loop-i
invariant-loop-i g l =
    (l.total ≡ sum (map (net_charge g.V.Level.kind (core l.self.design.now) l.self.levels.now l.after) (range_with_len 0 l.i))
    + memory_charge g.V.Level.kind (core l.self.design.now) l.self.levels.now)
    × (l.total ≤ 3 * 65535 + l.i * 131070)
