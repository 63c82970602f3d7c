use Rattle.std.proofs.Common.{◌≡◌}
use Rattle.bundle.specs.declared.refusal.Fault.TheVariants as fault
use Rattle.bundle.specs.Format.{row_placed, part_end}
use Rattle.bundle.proofs.Asked.{Left}
use Rattle.bundle.proofs.questions.ask_bodies.Given as goal

abbrev pub invariant-loop-i : goal.invariant-loop-i
invariant-loop-i l = Left (row_placed l.bytes) fault.Bodies l.rows l.i × (l.part_end ≡ part_end l.bytes l.i)
