use Rattle.std.proofs.Common.{eqb, ◌-◌, refl, ◌∙◌, rules, tests}
use Rattle.std.specs.List.{range_with_len}
use Rattle.std.proofs.lemmas.Iterator.{YieldsList-from_range}
use Rattle.std.proofs.lemmas.Iterator.Search.{any_from_yields_List}
use Rattle.decode.specs.Words.{word}
use Rattle.decode.proofs.Chains.{any_among_map}
use Rattle.decode.proofs.pilots.repeated.Goals as goal

pub returns : goal.returns
returns c =
    any_from_yields_List (λ j. eqb c.args.p (word c.args.bytes.now j)) _ _ c.any.result c.any.ensures.ran (YieldsList-from_range 1 c.args.i (c.args.i - 1) refl refl)
    (λ x b q k. search (rules, tests))
    ∙ any_among_map (word c.args.bytes.now) c.args.p (range_with_len 1 (c.args.i - 1))
