use Rattle.std.proofs.Common.{sym, refl, arith}
use Rattle.std.proofs.lemmas.Result.{err_from_is_err_and}
use Rattle.bundle.specs.declared.refusal.Fault.TheVariants as fault
use Rattle.bundle.specs.Format.{row_inside, row_placed}
use Rattle.bundle.proofs.Asked.{all_good, one_more, one_bad}
use Rattle.bundle.proofs.RowFacts.{placed_seen, next_start}
use Rattle.bundle.proofs.questions.ask_bodies.Goals as goal

pub at-row-requires : goal.at-row-requires
at-row-requires c = all_good (row_inside c.args.bytes.now) fault.Rows 0 c.args.rows c.requires.0 c.loop-i.i (omega arith) (omega arith)

pub returns-in_err-ask_at : goal.returns-in_err-ask_at
returns-in_err-ask_at c =
    let bs = c.args.bytes.now in
    let i = c.loop-i.i in
    let seen = sym (placed_seen bs i _ _ _ _ c.is_placed-placed.result c.at-row.ensures c.loop-i.invariant.1 c.requires.1 c.is_placed-placed.ensures refl) in
    let p = err_from_is_err_and c.from_residual.result c.from_residual.ensures.1 in
    rw (p.1, p.2) (one_bad (row_placed bs) fault.Bodies i c.args.rows c.loop-i-test.true
    c.is_placed-placed.result c.in_err-ask_at.field-0.0 seen c.in_err-ask_at.ensures c.loop-i.invariant.0)

pub loop-i-preserved : goal.loop-i-preserved
loop-i-preserved c =
    let bs = c.args.bytes.now in
    let i = c.loop-i.i in
    let seen = sym (placed_seen bs i _ _ _ _ c.is_placed-placed.result c.at-row.ensures c.loop-i.invariant.1 c.requires.1 c.is_placed-placed.ensures refl) in (
      one_more (row_placed bs) fault.Bodies i c.args.rows c.loop-i-test.true c.is_placed-placed.result seen c.in_ok-ask_at.ensures c.loop-i.invariant.0,
      next_start bs i _ _ c.at-row.ensures c.end-part_end.ensures,
    )
