use Rattle.std.proofs.Common.{ap, ◌∙◌}
use Rattle.std.proofs.lemmas.List.{get_or_default}
use Rattle.model.specs.declared.net.Net.{Net}
use Rattle.model.specs.Core.{is_flop}
use Rattle.decode.proofs.pilots.flop_at.Goals as goal

pub returns : goal.returns
returns c = c.is_flop.ensures ∙ ap (λ (n : Net). is_flop n.driver) (get_or_default c.args.nets.now c.args.i _ _ c.requires)
