use Rattle.bundle.specs.declared.refusal.Fault.TheVariants as fault
use Rattle.bundle.specs.Format.{row_inside}
use Rattle.bundle.proofs.Asked.{Left}
use Rattle.bundle.proofs.questions.ask_rows.Given as goal

abbrev pub invariant-loop-i : goal.invariant-loop-i
invariant-loop-i l = Left (row_inside l.bytes) fault.Rows l.rows l.i
