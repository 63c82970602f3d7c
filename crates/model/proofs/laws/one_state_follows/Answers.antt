use Rattle.model.proofs.Follow.{one_state_follows}
use Rattle.model.proofs.laws.one_state_follows.Goals as goal

pub returns : goal.returns
returns c = one_state_follows
