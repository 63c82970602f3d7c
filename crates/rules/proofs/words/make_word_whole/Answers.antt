use Rattle.std.proofs.Common.{Bool, cond, length, replicate, sym, ap, ◌∙◌}
use Rattle.levels.specs.declared.Tri.TheVariants.{X}
use Rattle.rules.specs.Places.{has_true, has_false}
use Rattle.rules.proofs.Levels.{told_same, told_other}
use Rattle.rules.proofs.words.make_word_whole.Goals as goal

pub returns-then-contains : goal.returns-then-contains
returns-then-contains c =
    let w = c.args.word.now in
    let f = c.if-contains.ensures.cases in
    c.fill.ensures.after (λ y h. h) ∙ sym (ap (λ (b : Bool). cond b (replicate (length w) X) w) (has_true w f.0 f.1 (λ d. told_same _ _ (f.2 d))))

pub returns-else-contains : goal.returns-else-contains
returns-else-contains c =
    let w = c.args.word.now in
    sym (ap (λ (b : Bool). cond b (replicate (length w) X) w) (has_false w (λ k d low high. told_other _ _ (c.if-contains.ensures.cases k d low high))))
