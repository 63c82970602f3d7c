use Rattle.std.proofs.Common.{◌<◌, length, get_or, sym, ap, ◌∙◌, arith}
use Rattle.std.proofs.lemmas.List.{get_or_default}
use Rattle.levels.specs.declared.Tri.TheVariants.{Zero, X}
use Rattle.rules.specs.Merges.{joined_level, plain_merge}
use Rattle.rules.specs.Places.{halfway_set, halfway_all, length_plain, plain_at, plain_past}
use Rattle.rules.proofs.plain.join.Goals as goal

pub loop-i-preserved : goal.loop-i-preserved
loop-i-preserved c =
    let kept = c.args.kept.now in
    let new = c.args.state.now in
    let state = c.loop-i.state in
    let i = c.loop-i.i in
    let inside : i < length state = omega arith in
    halfway_set (plain_merge kept new) new state i c.joined.result inside
    (c.joined.ensures
    ∙ ap (joined_level (get_or kept i Zero)) (get_or_default state i Zero X inside ∙ c.loop-i.invariant.1 i (omega arith))
    ∙ plain_at kept new i Zero X (omega arith) (omega arith))
    c.loop-i.invariant

pub returns : goal.returns
returns c =
    halfway_all (plain_merge c.args.kept.now c.args.state.now) c.args.state.now c.loop-i.state c.loop-i.i
    (c.loop-i.auto.state ∙ sym (length_plain c.args.kept.now c.args.state.now))
    (λ k b. plain_past c.args.kept.now c.args.state.now k (λ p q. omega arith))
    c.loop-i.invariant
