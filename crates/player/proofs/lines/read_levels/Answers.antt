use Rattle.std.proofs.Common.{ℕ, List, [], ◌∷◌, ◌++◌, map, sym, ap, ◌∙◌, ap₂, arith, rules}
use Rattle.std.proofs.lemmas.List.{take_more_set, map_more, take_all}
use Rattle.levels.specs.declared.Bit.{Bit}
use Rattle.player.specs.Lines.{level_of, character}
use Rattle.player.proofs.lines.read_levels.Goals as goal

pub loop-i-preserved : goal.loop-i-preserved
loop-i-preserved c =
    take_more_set c.loop-i.levels c.loop-i.i _ (omega arith)
    ∙ ap₂ (λ (xs : List Bit) (x : Bit). xs ++ (x ∷ [])) c.loop-i.invariant (search rules)
    ∙ sym (map_more (λ (b : ℕ). level_of (character b)) c.args.line.now c.loop-i.i 0 (omega arith))

pub returns : goal.returns
returns c =
    sym (take_all c.loop-i.i c.loop-i.levels (omega arith))
    ∙ c.loop-i.invariant
    ∙ ap (map (λ (b : ℕ). level_of (character b))) (take_all c.loop-i.i c.args.line.now (omega arith))
