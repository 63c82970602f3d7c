use Rattle.rules.proofs.Exactly.{plain_least}
use Rattle.rules.proofs.laws.plain_is_least.Goals as goal

pub returns : goal.returns
returns c = plain_least
