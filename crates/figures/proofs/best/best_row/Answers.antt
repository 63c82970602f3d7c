use Rattle.std.proofs.Common.{◌≡◌, ℕ, suc, ◌+◌, ◌*◌, sym, subst, arith}
use Rattle.figures.specs.Figures.{Best}
use Rattle.figures.proofs.best.best_row.Goals as goal

pub lengthen-requires-in-loop-pair-clause-small : goal.lengthen-requires-in-loop-pair-clause-small
lengthen-requires-in-loop-pair-clause-small c =
    let longer : Best c.args.points.now (suc (2 * c.loop-pair._pair)) c.lengthen.new.longer =
    c.lengthen.ensures (2 * c.loop-pair._pair) c.loop-pair.invariant in
    λ t l. omega (arith, longer.small t (omega (arith, longer.whole)))

pub loop-pair-preserved : goal.loop-pair-preserved
loop-pair-preserved c =
    let n : ℕ = 2 * c.loop-pair._pair in
    let two : suc (suc n) ≡ 2 * (c.loop-pair._pair + 1) = omega arith in
    subst (λ (w : ℕ). Best c.args.points.now w c.lengthen-in-loop-pair.new.longer) two
    (c.lengthen-in-loop-pair.ensures (suc n) (c.lengthen.ensures n c.loop-pair.invariant))

pub returns-then-width-eq1 : goal.returns-then-width-eq1
returns-then-width-eq1 c =
    let ps = c.args.points.now in
    let n : ℕ = 2 * c.loop-pair._pair in
    let end : suc n ≡ c.args.width = omega (arith, c.loop-pair-test.false, c.if-width-eq1.true) in
    subst (λ (w : ℕ). Best ps w c.copy_from_slice.new.self) end
    (subst (Best ps (suc n)) (sym c.copy_from_slice.ensures.after) (c.lengthen-then-width-eq1.ensures n c.loop-pair.invariant))
