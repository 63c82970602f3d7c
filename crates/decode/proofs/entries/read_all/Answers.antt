use Rattle.std.proofs.Common.{Some, sym, ap, ◌∙◌, arith}
use Rattle.std.proofs.lemmas.Result.{err_from_is_err_and}
use Rattle.bundle.specs.declared.refusal.Refusal.{Refusal}
use Rattle.decode.proofs.Asking.{reading_more, reading_stop, reading_all, reading_table}
use Rattle.decode.proofs.Refusing.{none_from_err, handed_on}
use Rattle.decode.proofs.entries.read_all.Goals as goal

pub returns-in_err-value-clause-refusal : goal.returns-in_err-value-clause-refusal
returns-in_err-value-clause-refusal g c reads h =
    let q = err_from_is_err_and c.from_residual.result c.from_residual.ensures.1 in
    let n = none_from_err c.read.result _ c.in_err-value.field-0.0 (sym c.in_err-value.ensures.value) in
    handed_on c.from_residual.result q.0 c.in_err-value.field-0.0 _ q.1 q.2
    (ap (λ (r : Refusal). Some r) n.1
    ∙ reading_stop reads c.args.fault c.args.count c.loop-i.i c.loop-i.value-items (omega arith) (sym (h.each c.loop-i.i (omega arith) _ c.read.ensures) ∙ n.0) (c.loop-i.invariant reads h))

pub loop-i-preserved : goal.loop-i-preserved
loop-i-preserved g c reads h =
    reading_more reads c.args.fault c.args.count c.loop-i.i c.loop-i.value-items c.in_ok-value.field-0 (omega arith) (omega arith)
    (sym (h.each c.loop-i.i (omega arith) _ c.read.ensures) ∙ c.in_ok-value.ensures.ok_part) (c.loop-i.invariant reads h)

pub returns : goal.returns
returns g c = record {
  refusal = λ reads h. reading_all reads c.args.fault c.args.count c.loop-i.i c.loop-i.value-items (omega arith) (c.loop-i.invariant reads h);
  items = λ reads d h. reading_table reads c.args.fault c.args.count c.loop-i.i c.loop-i.value-items _ (omega arith) (omega arith) (c.loop-i.invariant reads h) d;
}
