use Rattle.record.proofs.Held.{no_run_escapes}
use Rattle.record.proofs.laws.no_run_escapes.Goals as goal

pub returns : goal.returns
returns g c = no_run_escapes g.V.Level.kind g.B.Level.kind g.met.V.Level.means g.met.B.Level.means
