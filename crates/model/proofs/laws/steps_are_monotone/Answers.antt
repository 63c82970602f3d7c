use Rattle.model.proofs.Charge.{steps_are_monotone}
use Rattle.model.proofs.laws.steps_are_monotone.Goals as goal

pub returns : goal.returns
returns g c = steps_are_monotone g.V.Level.kind g.W.Level.kind g.met.V.Level.means g.met.W.Level.means
