use Rattle.std.proofs.Common.{ℕ}
use Rattle.figures.specs.Figures.{Best}
use Rattle.figures.proofs.BestRows.{Counted}
use Rattle.figures.proofs.best.lengthen.Given as goal

abbrev pub invariant-loop-q : goal.invariant-loop-q
invariant-loop-q l = (w : ℕ) → Best l.points w l.best → Counted l.points w l.q l.longer
