use Rattle.std.proofs.Common.{length}
use Rattle.bundle.specs.declared.refusal.Fault.TheVariants as fault
use Rattle.bundle.proofs.Asked.{Left}
use Rattle.figures.specs.Figures.{names_used}
use Rattle.figures.proofs.naming.ask_records.Given as goal

abbrev pub invariant-loop-place : goal.invariant-loop-place
invariant-loop-place l = Left (names_used l.points) fault.Damaged (length l.points) l.place
