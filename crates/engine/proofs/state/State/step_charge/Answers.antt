use Rattle.std.proofs.Common.{◌≡◌, ℕ, ◌+◌, ◌*◌, ◌<◌, ◌≤◌, Bool, true, cond, map, length, get_or, sum, ap, ◌∙◌, arith}
use mir.Val.{bool_byte}
use Rattle.std.specs.List.{range_with_len}
use Rattle.std.proofs.lemmas.List.{get_or_read, get_or_default}
use Rattle.std.proofs.lemmas.List.FromFn.{sum_by-map-range_with_len_more}
use Rattle.model.specs.Cycle.{at}
use Rattle.model.specs.Energy.{net_charge, memory_charge}
use Rattle.model.proofs.Sound.{sound_parts}
use Rattle.design.specs.Views.{core}
use Rattle.engine.proofs.Charging.{flagged, net_drawn}
use Rattle.engine.proofs.state.State.step_charge.Goals as goal

pub at-enable-requires : goal.at-enable-requires
at-enable-requires g c = omega (arith, (sound_parts (core c.args.self.now.design.now) c.args.self.now.design.now.sound).enable_wire)

pub loop-i-init : goal.loop-i-init
loop-i-init g c =
    let k = g.V.Level.kind in
    let d = core c.args.self.now.design.now in
    let s = c.args.self.now.levels.now in
    let writes : Bool = k.allows (at k s d.write_enable) true in
    let flag : c.from.result ≡ bool_byte writes =
    c.from.ensures ∙ ap bool_byte (c.allows.ensures ∙ ap (λ v. k.allows v true) (c.at-enable.ensures ∙ ap (at k s) c.write_enable.ensures)) in
    let cost = flagged writes c.from-2.result in
    let made : c.from.result * c.from-2.result ≡ cond writes d.write_energy 0 =
    ap (λ (b : ℕ). b * c.from-2.result) flag ∙ (cost.0 ∙ ap (λ (x : ℕ). cond writes x 0) (c.from-2.ensures ∙ c.write_energy.ensures)) in
    let small : cond writes d.write_energy 0 ≤ d.write_energy = (flagged writes d.write_energy).1 in
    (omega arith, omega arith)

pub overflow_add-total-in-loop-i : goal.overflow_add-total-in-loop-i
overflow_add-total-in-loop-i g c =
    let few = (sound_parts (core c.args.self.now.design.now) c.args.self.now.design.now.sound).few_nets in
    record { fits = omega (arith, c.loop-i.invariant.1, c.net_charge-total.ensures.bound, ap length c.nets-net-items.ensures) }

pub loop-i-preserved : goal.loop-i-preserved
loop-i-preserved g c =
    let k = g.V.Level.kind in
    let d = core c.args.self.now.design.now in
    let s = c.args.self.now.levels.now in
    let t = c.args.after.now in
    let i = c.loop-i.i in
    let below : i < length d.nets = omega (arith, ap length c.nets-net-items.ensures) in
    let old : get_or s i c.index-self-i.result ≡ at k s i = get_or_default s i _ k.blank (omega arith) in
    let new : c.index-after-i.result ≡ at k t i = get_or_read t i _ (omega (arith, c.requires)) c.index-after-i.is k.blank in
    let here : c.net_charge-total.result ≡ net_charge k d s t i =
    c.net_charge-total.ensures.value ∙ net_drawn k d s t c.nets-net-items.result.now c.nets-net-items.ensures i _ c.loop-i-test.true _ _ old new in
    let more = sum_by-map-range_with_len_more (λ (x : ℕ). x) (net_charge k d c.args.self.now.levels.now c.args.after.now) 0 c.loop-i.i c.loop-i.i (omega arith) in
    (omega (arith, c.loop-i.invariant.0), omega (arith, c.loop-i.invariant.1, c.net_charge-total.ensures.bound))

pub returns : goal.returns
returns g c =
    let k = g.V.Level.kind in
    let d = core c.args.self.now.design.now in
    let end : c.loop-i.i ≡ length d.nets = omega (arith, ap length c.nets-net-items.ensures) in
    c.loop-i.invariant.0 ∙ ap (λ (n : ℕ). sum (map (net_charge k d c.args.self.now.levels.now c.args.after.now) (range_with_len 0 n)) + memory_charge k d c.args.self.now.levels.now) end
