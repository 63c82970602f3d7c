use Rattle.record.proofs.Bound.{no_run_draws_more}
use Rattle.record.proofs.laws.no_run_draws_more.Goals as goal

pub returns : goal.returns
returns g c = no_run_draws_more g.V.Level.kind g.B.Level.kind g.met.V.Level.means g.met.B.Level.means
