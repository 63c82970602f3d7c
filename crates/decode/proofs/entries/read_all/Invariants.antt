use Rattle.std.proofs.Common.{ℕ, Option}
use Rattle.decode.specs.Entries.{Reads}
use Rattle.decode.proofs.Asking.{Reading}
use Rattle.decode.proofs.entries.read_all.Given as goal

abbrev pub invariant-loop-i : goal.invariant-loop-i
invariant-loop-i g l =
    (reads : ℕ → Option g.row.T.Denot) → Reads (goal.F-post g) l.read reads l.count → Reading reads l.fault l.count l.i l.value-items
