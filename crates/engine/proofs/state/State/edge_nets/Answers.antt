use Rattle.std.proofs.Common.{◌≡◌, ◌+◌, ◌<◌, cond, length, sym, ap, ◌∙◌, arith, rules}
use Rattle.design.specs.Views.{core}
use Rattle.model.specs.Core.{driver_at, is_input, net_sound}
use Rattle.model.specs.Cycle.{at, edged, given_by}
use Rattle.model.proofs.Sound.{sound_parts}
use Rattle.engine.proofs.MemoryLemmas.{filled_more}
use Rattle.engine.proofs.EdgeLemmas.{driver_is, inputs_more, counted_input, counted_rest, counted_once, edged_given}
use Rattle.engine.proofs.state.State.edge_nets.Goals.{in-Input, in_default}
use Rattle.engine.proofs.state.State.edge_nets.Goals as goal

pub edged_net-requires : goal.edged_net-requires
edged_net-requires g c =
    let d = core c.args.self.now.design.now in
    let i = c.loop-i.i in
    let h : i < length d.nets = omega (arith, ap length c.nets-net-items.ensures) in
    record {
      net = h;
      driver = ap (net_sound d i) (driver_is d _ i _ c.nets-net-items.ensures c.loop-i-test.true) ∙ (sound_parts d c.args.self.now.design.now.sound).net i h;
      leaves = omega arith;
    }

pub offset_bounds-after-i : goal.offset_bounds-after-i
offset_bounds-after-i g c =
    let h : c.loop-i.i < length c.args.after.now = omega (arith, ap length c.nets-net-items.ensures) in
    search rules

pub loop-i-preserved : goal.loop-i-preserved
loop-i-preserved g c =
    let k = g.V.Level.kind in
    let d = core c.args.self.now.design.now in
    let s = c.args.self.now.levels.now in
    let i = c.loop-i.i in
    let given = given_by k d c.args.line.now in
    let h : i < length d.nets = omega (arith, ap length c.nets-net-items.ensures) in
    let is = driver_is d c.nets-net-items.result.now i _ c.nets-net-items.ensures c.loop-i-test.true in
    let one = inputs_more d i h in
    let counted : c.match-net.inputs ≡ c.loop-i.inputs + cond (is_input (driver_at d i)) 1 0 =
    elim c.match-net.branch [
      | in-Input w ↦ counted_input _ _ (driver_at d i) (sym is ∙ w.in-Input.is) w.inputs-is
      | in_default w ↦ counted_rest _ _ (driver_at d i) (λ e. w.in_default.not-Input (is ∙ e)) w.inputs-is
    ] in (
      omega (arith, c.loop-i.invariant.0),
      omega (arith, counted_once (is_input (driver_at d i)), c.loop-i.invariant.1),
      filled_more k (λ j. edged k d s given j (driver_at d j)) c.loop-i.after i c.edged_net.result (omega arith) c.loop-i.invariant.2
          (c.edged_net.ensures ∙ edged_given k d s given c.given_at-given.result i _ (c.given_at-given.ensures ∙ ap (at k c.args.line.now) c.loop-i.invariant.0)
          ∙ ap (edged k d s given i) is),
    )

pub returns : goal.returns
returns g c i h = c.loop-i.invariant.2 i (omega (arith, ap length c.nets-net-items.ensures))
