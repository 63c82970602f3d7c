use Rattle.std.proofs.Common.{◌+◌, ◌^◌, ◌*◌, ◌%◌, eqb, sym, refl, ◌∙◌, rules, tests, arith}
use Rattle.std.proofs.lemmas.Iterator.{YieldsList-from_range}
use Rattle.std.proofs.lemmas.Iterator.Adapters.{option_map_id}
use Rattle.std.proofs.lemmas.Iterator.Search.{find_from_yields_List}
use Rattle.decode.proofs.Chains.{find_bits}
use Rattle.decode.proofs.words.address_bits.Goals as goal

pub returns : goal.returns
returns c =
    sym (option_map_id c.find.result)
    ∙ (find_from_yields_List (λ b. eqb c.args.words ((1 * 2 ^ b) % 2 ^ 64)) _ _ c.find.result c.find.ensures.ran (YieldsList-from_range 0 (c.args.most + 1) (c.args.most + 1) refl (omega arith))
    (λ x b q k. search (rules, tests))
    ∙ find_bits c.args.words 0 (c.args.most + 1) (omega arith))
