use Rattle.model.proofs.Exact.{gates_are_exact}
use Rattle.model.proofs.laws.gates_are_exact.Goals as goal

pub returns : goal.returns
returns g c = gates_are_exact g.V.Level.kind g.met.V.Level.means
