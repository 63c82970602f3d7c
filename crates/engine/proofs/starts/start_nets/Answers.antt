use Rattle.std.proofs.Common.{◌≡◌, ℕ, ◌*◌, ◌<◌, Bool, cond, length, sym, ap, ◌∙◌, arith, rules}
use Rattle.model.specs.declared.net.Driver.{Driver}
use Rattle.model.specs.declared.net.Driver.TheVariants as driver
use Rattle.model.specs.Core.{driver_at, is_flop}
use Rattle.model.specs.Cycle.{begun, of_start}
use Rattle.design.specs.Views.{core}
use Rattle.engine.proofs.Starting.{flops_more, flop_place, begun_flop, begun_blank, begun_more, driver_here, flop_read, starts_room}
use Rattle.engine.proofs.starts.start_nets.Goals as goal
use Rattle.engine.proofs.starts.start_nets.Goals.{in-Flop, in-Constant, in_default}

pub overflow_mul-flop : goal.overflow_mul-flop
overflow_mul-flop g c =
    let d = c.args.design.now in
    record { fits = omega (arith, ap (λ (n : ℕ). c.args.number * n) c.flop_count.ensures, starts_room (core d) d.sound c.args.number c.requires.number_bound, d.starts_length) }

pub bounds-starts-flop : goal.bounds-starts-flop
bounds-starts-flop g c =
    let d = c.args.design.now in
    let place = flop_place (core d) d.sound c.nets-net-items.result.now c.nets-net-items.ensures c.loop-i.i _ c.loop-i-test.true c.args.number c.requires.number_bound c.in-Flop.is in
    omega (arith, place.1, c.loop-i.invariant.0, ap length c.starts-starts.ensures)

pub overflow_add-flop : goal.overflow_add-flop
overflow_add-flop g c =
    let d = c.args.design.now in
    let place = flop_place (core d) d.sound c.nets-net-items.result.now c.nets-net-items.ensures c.loop-i.i _ c.loop-i-test.true c.args.number c.requires.number_bound c.in-Flop.is in
    record { fits = omega (arith, place.1, c.loop-i.invariant.0, d.starts_length) }

pub offset_bounds-state-i : goal.offset_bounds-state-i
offset_bounds-state-i g c =
    let h : c.loop-i.i < length c.args.state.now = omega (arith, ap length c.nets-net-items.ensures) in search rules

pub loop-i-preserved : goal.loop-i-preserved
loop-i-preserved g c =
    let k = g.V.Level.kind in
    let d = core c.args.design.now in
    let s = c.loop-i.state in
    let i = c.loop-i.i in
    let number = c.args.number in
    let below : i < length d.nets = omega (arith, ap length c.nets-net-items.ensures) in
    let within : i < length s = omega arith in
    let more = flops_more d i below in
    elim c.match-net.branch [
      | in-Flop w ↦
          let place = flop_place d c.args.design.now.sound c.nets-net-items.result.now c.nets-net-items.ensures i _ c.loop-i-test.true number c.requires.number_bound w.in-Flop.is in
          let one : cond {A = ℕ} (is_flop (driver_at d i)) 1 0 ≡ 1 = ap (λ (b : Bool). cond {A = ℕ} b 1 0) place.0 in
          let read = flop_read d c.starts-starts.result.now c.starts-starts.ensures c.loop-i.flop _ _ c.loop-i.invariant.0 place.1 in
          let v : c.match-net.state ≡ begun k d number i (driver_at d i) =
          w.state-is ∙ (w.flop_level-level.ensures d ∙ (ap (of_start k d) read ∙ sym (begun_flop k d number i (driver_at d i) place.0))) in
          (omega (arith, w.flop-is, c.loop-i.invariant.0), begun_more k d number i s _ within v c.loop-i.invariant.1)
      | in-Constant w ↦
          let x : driver_at d i ≡ driver.Constant w.in-Constant.bit = driver_here d c.nets-net-items.result.now c.nets-net-items.ensures i _ c.loop-i-test.true ∙ w.in-Constant.is in
          let none : cond {A = ℕ} (is_flop (driver_at d i)) 1 0 ≡ 0 = ap (λ (y : Driver). cond {A = ℕ} (is_flop y) 1 0) x in
          let v : c.match-net.state ≡ begun k d number i (driver_at d i) =
          w.state-is ∙ (w.of_bit.ensures ∙ ap (begun k d number i) (sym x)) in
          (omega (arith, w.flop-is, c.loop-i.invariant.0), begun_more k d number i s _ within v c.loop-i.invariant.1)
      | in_default w ↦
          let x = driver_here d c.nets-net-items.result.now c.nets-net-items.ensures i _ c.loop-i-test.true in
          let none = begun_blank k d number i _ w.in_default.not-Flop w.in_default.not-EnabledFlop w.in_default.not-Constant in
          let zero : cond {A = ℕ} (is_flop (driver_at d i)) 1 0 ≡ 0 = ap (λ (b : Bool). cond {A = ℕ} b 1 0) (ap is_flop x ∙ none.1) in
          let v : c.match-net.state ≡ begun k d number i (driver_at d i) =
          w.state-is ∙ (w.blank.ensures ∙ sym (ap (begun k d number i) x ∙ none.0)) in
          (omega (arith, w.flop-is, c.loop-i.invariant.0), begun_more k d number i s _ within v c.loop-i.invariant.1)
    ]

pub returns : goal.returns
returns g c i h = c.loop-i.invariant.1 i (omega (arith, ap length c.nets-net-items.ensures))
