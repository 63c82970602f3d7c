use Rattle.std.proofs.Common.{sym}
use Rattle.bundle.specs.declared.refusal.Fault.TheVariants as fault
use Rattle.bundle.specs.Format.{row_inside}
use Rattle.bundle.proofs.Asked.{one_more}
use Rattle.bundle.proofs.RowFacts.{row_seen}
use Rattle.bundle.proofs.questions.ask_rows.Goals as goal

pub loop-i-preserved : goal.loop-i-preserved
loop-i-preserved c =
    let bs = c.args.bytes.now in
    let i = c.loop-i.i in
    let seen = sym (row_seen bs i _ c.is_some.result c.read.ensures (sym c.is_some.ensures)) in
    one_more (row_inside bs) fault.Rows i c.args.rows c.loop-i-test.true c.is_some.result seen c.in_ok-ask_at.ensures c.loop-i.invariant
