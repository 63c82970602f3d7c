use Rattle.std.proofs.Common.{length}
use Rattle.bundle.specs.declared.refusal.Fault.TheVariants as fault
use Rattle.bundle.proofs.Asked.{one_more}
use Rattle.figures.specs.Figures.{names_used}
use Rattle.figures.proofs.naming.ask_records.Goals as goal

pub loop-place-preserved : goal.loop-place-preserved
loop-place-preserved c =
    let ps = c.args.points.now in
    one_more (names_used ps) fault.Damaged c.loop-place.place (length ps) c.loop-place-test.true
    c.names_used.result c.names_used.ensures c.in_ok-ask_at.ensures c.loop-place.invariant
