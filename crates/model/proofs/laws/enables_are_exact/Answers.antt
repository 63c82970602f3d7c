use Rattle.model.proofs.Exact.{enables_are_exact}
use Rattle.model.proofs.laws.enables_are_exact.Goals as goal

pub returns : goal.returns
returns g c = enables_are_exact g.V.Level.kind g.met.V.Level.means
