use Rattle.std.proofs.Common.{refl, rules}
use Rattle.std.proofs.lemmas.List.Recursion.{and_is}
use Rattle.player.specs.Lines.{character, is_level, all_levels}
use Rattle.player.proofs.lines.are_levels.Goals as goal

pub returns : goal.returns
returns c =
    and_is all_levels (λ b. is_level (character b)) refl (λ _ _. refl) c.args.part.now 0 c.all.result
    (λ t i h. search rules) (λ f. search rules)
