use Rattle.record.proofs.Keys.{pilots_are_split}
use Rattle.record.proofs.laws.pilots_are_split.Goals as goal

pub returns : goal.returns
returns g c = pilots_are_split g.V.Level.kind g.met.V.Level.means.some
