use Rattle.std.proofs.Common.{◌≡◌, ◌+◌, ◌*◌, ◌^◌, ◌<◌, drop}
use Rattle.model.specs.Cycle.{key_from}
use Rattle.design.specs.Views.{core}
use Rattle.engine.proofs.state.State.key.Given as goal

abbrev pub invariant-loop-i : goal.invariant-loop-i
invariant-loop-i g l =
    (l.key < 2 ^ l.i)
    × (l.key + 2 ^ l.i * key_from g.V.Level.kind (core l.self.design.now) (drop l.i (core l.self.design.now).pilots) l.self.levels.now
    ≡ key_from g.V.Level.kind (core l.self.design.now) (core l.self.design.now).pilots l.self.levels.now)
