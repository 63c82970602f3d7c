use Rattle.std.proofs.Common.{List, set, sym, ap, ◌∙◌}
use Rattle.std.proofs.lemmas.List.{at_drop_all}
use Rattle.model.specs.declared.net.Net.{Net}
use Rattle.record.specs.Record.{constant_at, with_constants}
use Rattle.successors.proofs.ConstantLemmas.{no_constant, constants_more}
use Rattle.successors.proofs.restoring.set_constants.Goals as goal
use Rattle.successors.proofs.restoring.set_constants.Goals.{in-Constant, in_default}

pub loop-i-preserved : goal.loop-i-preserved
loop-i-preserved g c d =
    let k = g.V.Level.kind in
    let s = c.loop-i.state in
    let i = c.loop-i.i in
    elim c.match-net.branch [
      | in-Constant w ↦
          constants_more k d c.args.nets.now i _ s _ c.loop-i-test.true
          (w.state-is ∙ ap (set s i) w.of_bit.ensures ∙ ap (λ x. constant_at k d x s i) (sym w.in-Constant.is))
          ∙ c.loop-i.invariant d
      | in_default w ↦
          constants_more k d c.args.nets.now i _ s _ c.loop-i-test.true
          (w.state-is ∙ sym (no_constant k d _ s i w.in_default.not-Constant))
          ∙ c.loop-i.invariant d
    ]

pub returns : goal.returns
returns g c d =
    sym (at_drop_all (λ (ns : List Net). with_constants g.V.Level.kind d c.loop-i.i ns c.loop-i.state) c.args.nets.now c.loop-i.i
    c.loop-i-test.false)
    ∙ c.loop-i.invariant d
