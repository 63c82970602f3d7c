use Rattle.model.proofs.Settle.{gates_settle}
use Rattle.model.proofs.laws.gates_settle.Goals as goal

pub returns : goal.returns
returns g c = gates_settle g.V.Level.kind
