use Rattle.model.proofs.Tag.{bits_are_the_tag}
use Rattle.model.proofs.laws.bits_are_the_tag.Goals as goal

pub returns : goal.returns
returns c = bits_are_the_tag
