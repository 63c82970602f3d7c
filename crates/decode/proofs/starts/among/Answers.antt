use Rattle.std.proofs.Common.{◌∙◌}
use Rattle.decode.proofs.Chains.{any_among}
use Rattle.decode.proofs.starts.among.Goals as goal

pub returns : goal.returns
returns c = c.contains.ensures.value ∙ any_among c.args.x c.args.list.now
