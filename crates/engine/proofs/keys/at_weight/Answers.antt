use Rattle.std.proofs.Common.{ℕ, ◌*◌, ◌%◌, ◌^◌, ap, ◌∙◌}
use Rattle.engine.proofs.Keying.{weighed}
use Rattle.engine.proofs.keys.at_weight.Goals as goal

pub returns : goal.returns
returns c = ap (λ (n : ℕ). (n * 2 ^ c.args.i) % 65536) c.from.ensures ∙ weighed c.args.bit c.args.i c.requires
