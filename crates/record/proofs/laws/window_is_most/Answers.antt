use Rattle.record.proofs.Bound.{window_is_most}
use Rattle.record.proofs.laws.window_is_most.Goals as goal

pub returns : goal.returns
returns c = window_is_most
