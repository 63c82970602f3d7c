use Rattle.rules.specs.States.{same_from_eq}
use Rattle.rules.proofs.plain.PlainRule.merge.Goals as goal

pub returns : goal.returns
returns c = same_from_eq _ _ c.join.ensures
