use Rattle.std.proofs.Common.{◌≡◌, ◌+◌, length, sym, ap, ◌∙◌, subst, arith}
use Rattle.record.specs.Bounds.{best_among}
use Rattle.figures.proofs.BestRows.{Counted, counted_start, counted_from}
use Rattle.figures.proofs.best.lengthen.Goals as goal
use Rattle.figures.proofs.best.lengthen.Goals.{in-From, in_default}

pub loop-q-preserved : goal.loop-q-preserved
loop-q-preserved c w best =
    let ps = c.args.points.now in
    let q = c.loop-q.q in
    let longer = c.loop-q.longer in
    elim c.match-point.branch [
      | in-From v ↦ subst (Counted ps w (q + 1)) (sym v.longer-is)
          (counted_from ps c.requires.named w c.args.best.now best q v.in-From.from v.drawn.result v.max.result longer
          c.loop-q-test.true (omega arith) v.in-From.is v.drawn.ensures.value v.drawn.ensures.bound v.max.ensures
          (c.loop-q.invariant w best))
      | in_default v ↦ subst (Counted ps w (q + 1)) (sym v.longer-is) (counted_start ps w q longer v.in_default.not-From (c.loop-q.invariant w best))
    ]

pub returns : goal.returns
returns c w best =
    let ps = c.args.points.now in
    let end : c.loop-q.q ≡ length ps = omega arith in
    let all = c.loop-q.invariant w best in
    record {
      whole = omega arith;
      values = λ t l. (all t l).0 ∙ ap (best_among ps w t) end;
      small = λ t l. (all t l).1;
    }
