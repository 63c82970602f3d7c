use Rattle.record.proofs.Wait.{open_points_wait}
use Rattle.record.proofs.laws.open_points_wait.Goals as goal

pub returns : goal.returns
returns g c = open_points_wait g.V.Level.kind g.met.V.Level.means
