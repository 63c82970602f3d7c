use Rattle.record.proofs.Covering.{covers_decides}
use Rattle.record.proofs.laws.covering_is_tested.Goals as goal

pub returns : goal.returns
returns g c = covers_decides g.V.Level.kind
