use Rattle.rules.proofs.Exactly.{plain_exact, eager_exact}
use Rattle.rules.proofs.laws.named_rules_are_exact.Goals as goal

pub returns : goal.returns
returns c = record { plain = plain_exact; eager = eager_exact }
