use Rattle.bundle.specs.declared.refusal.Fault.TheVariants as fault
use Rattle.bundle.specs.Format.{row_right}
use Rattle.bundle.proofs.Asked.{Left}
use Rattle.bundle.proofs.questions.ask_kinds.Given as goal

abbrev pub invariant-loop-i : goal.invariant-loop-i
invariant-loop-i l = Left (row_right l.bytes) fault.Kinds l.rows l.i
