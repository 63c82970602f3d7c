use Rattle.std.proofs.Common.{◌<◌, length, set, sym, ap, ◌∙◌, arith, rules}
use Rattle.std.proofs.lemmas.List.{at_drop_all}
use Rattle.model.specs.Cycle.{settled_from, settle_net}
use Rattle.design.specs.Views.{core}
use Rattle.engine.proofs.Settling.{still, settled_more, gate_wired}
use Rattle.engine.proofs.gates.settle_gates.Goals as goal
use Rattle.engine.proofs.gates.settle_gates.Goals.{in-Gate, in_default}

pub gate_level-requires : goal.gate_level-requires
gate_level-requires g c p =
    omega (arith, gate_wired (core c.args.design.now) c.args.design.now.sound _ c.nets-net-items.ensures c.loop-i.i _ c.loop-i-test.true c.in-Gate.gate c.in-Gate.is p)

pub offset_bounds-state-i : goal.offset_bounds-state-i
offset_bounds-state-i g c =
    let h : c.loop-i.i < length c.args.state.now = omega (arith, ap length c.nets-net-items.ensures) in search rules

pub loop-i-preserved : goal.loop-i-preserved
loop-i-preserved g c =
    let k = g.V.Level.kind in
    let d = core c.args.design.now in
    let s = c.loop-i.state in
    elim c.match-net.branch [
      | in-Gate w ↦
          settled_more k d c.nets-net-items.result.now c.nets-net-items.ensures c.loop-i.i _ s _ c.loop-i-test.true
          (w.state-is ∙ ap (set s c.loop-i.i) w.gate_level.ensures ∙ ap (settle_net k d s c.loop-i.i) (sym w.in-Gate.is))
          ∙ c.loop-i.invariant
      | in_default w ↦
          settled_more k d c.nets-net-items.result.now c.nets-net-items.ensures c.loop-i.i _ s _ c.loop-i-test.true
          (w.state-is ∙ sym (still k d s c.loop-i.i _ w.in_default.not-Gate))
          ∙ c.loop-i.invariant
    ]

pub returns : goal.returns
returns g c =
    sym (at_drop_all (λ ns. settled_from g.V.Level.kind (core c.args.design.now) c.loop-i.i ns c.loop-i.state) (core c.args.design.now).nets c.loop-i.i (omega (arith, ap length c.nets-net-items.ensures)))
    ∙ c.loop-i.invariant
