use Rattle.rules.proofs.Exactly.{whole_exact}
use Rattle.rules.proofs.laws.whole_words_are_exact.Goals as goal

pub returns : goal.returns
returns c = whole_exact
