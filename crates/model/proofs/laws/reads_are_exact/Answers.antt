use Rattle.model.proofs.Exact.{reads_are_exact}
use Rattle.model.proofs.laws.reads_are_exact.Goals as goal

pub returns : goal.returns
returns g c = reads_are_exact g.V.Level.kind g.met.V.Level.means
