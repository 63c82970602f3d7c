use Rattle.std.proofs.Common.{◌*◌}
use Rattle.figures.specs.Figures.{Best}
use Rattle.figures.proofs.best.best_row.Given as goal

abbrev pub invariant-loop-pair : goal.invariant-loop-pair
invariant-loop-pair l = Best l.points (2 * l._pair) l.row
