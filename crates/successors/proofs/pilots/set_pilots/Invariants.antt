use Rattle.std.proofs.Common.{◌≡◌, drop}
use Rattle.record.specs.Record.{keyed}
use Rattle.successors.proofs.pilots.set_pilots.Given as goal

abbrev pub invariant-loop-pilot : goal.invariant-loop-pilot
invariant-loop-pilot g l =
    keyed g.V.Level.kind (drop l.pilot-index l.pilots) l.bits l.state
    ≡ keyed g.V.Level.kind l.pilots l.key l.initial.state
