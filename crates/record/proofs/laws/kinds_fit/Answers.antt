use Rattle.record.proofs.Fit.{tri_wide, bit_definite}
use Rattle.record.proofs.laws.kinds_fit.Goals as goal

pub returns : goal.returns
returns c = (tri_wide, bit_definite)
