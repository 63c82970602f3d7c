use Rattle.std.proofs.Common.{sym, refl, arith}
use Rattle.std.proofs.lemmas.Result.{err_from_is_err_and}
use Rattle.bundle.specs.declared.refusal.Fault.TheVariants as fault
use Rattle.bundle.specs.Format.{row_inside, row_right}
use Rattle.bundle.proofs.Asked.{all_good, one_more, one_bad}
use Rattle.bundle.proofs.RowFacts.{right_seen}
use Rattle.bundle.proofs.questions.ask_kinds.Goals as goal

pub at-requires : goal.at-requires
at-requires c = all_good (row_inside c.args.bytes.now) fault.Rows 0 c.args.rows c.requires c.loop-i.i (omega arith) (omega arith)

pub returns-in_err-ask_at : goal.returns-in_err-ask_at
returns-in_err-ask_at c =
    let bs = c.args.bytes.now in
    let seen = sym (right_seen bs c.loop-i.i _ _ c.is_right.result c.at.ensures c.is_right.ensures refl) in
    let p = err_from_is_err_and c.from_residual.result c.from_residual.ensures.1 in
    rw (p.1, p.2) (one_bad (row_right bs) fault.Kinds c.loop-i.i c.args.rows c.loop-i-test.true
    c.is_right.result c.in_err-ask_at.field-0.0 seen c.in_err-ask_at.ensures c.loop-i.invariant)

pub loop-i-preserved : goal.loop-i-preserved
loop-i-preserved c =
    let bs = c.args.bytes.now in
    let seen = sym (right_seen bs c.loop-i.i _ _ c.is_right.result c.at.ensures c.is_right.ensures refl) in
    one_more (row_right bs) fault.Kinds c.loop-i.i c.args.rows c.loop-i-test.true c.is_right.result seen c.in_ok-ask_at.ensures c.loop-i.invariant
