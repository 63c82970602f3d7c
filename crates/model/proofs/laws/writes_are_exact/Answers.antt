use Rattle.model.proofs.Exact.{writes_are_exact}
use Rattle.model.proofs.laws.writes_are_exact.Goals as goal

pub returns : goal.returns
returns g c = writes_are_exact g.V.Level.kind g.met.V.Level.means
