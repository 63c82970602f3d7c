use Rattle.std.proofs.Common.{◌≡◌, drop}
use Rattle.model.specs.Core.{Core}
use Rattle.record.specs.Record.{with_constants}
use Rattle.successors.proofs.restoring.set_constants.Given as goal

abbrev pub invariant-loop-i : goal.invariant-loop-i
invariant-loop-i g l =
    (d : Core) → with_constants g.V.Level.kind d l.i (drop l.i l.nets) l.state
    ≡ with_constants g.V.Level.kind d 0 l.nets l.initial.state
