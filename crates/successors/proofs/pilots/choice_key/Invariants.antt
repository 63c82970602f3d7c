use Rattle.std.proofs.Common.{◌≡◌, ◌+◌, ◌*◌, ◌^◌, ◌<◌, drop}
use Rattle.record.specs.Record.{choice_key}
use Rattle.successors.proofs.pilots.choice_key.Given as goal

abbrev pub invariant-loop-i : goal.invariant-loop-i
invariant-loop-i g l =
    (l.key < 2 ^ l.i)
    × (l.key + 2 ^ l.i * choice_key g.V.Level.kind (drop l.i l.pilots) l.state l.bits
    ≡ choice_key g.V.Level.kind l.pilots l.state l.choice)
