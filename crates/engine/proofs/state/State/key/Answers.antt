use Rattle.std.proofs.Common.{◌≡◌, ℕ, ◌*◌, ◌^◌, Bool, cond, List, length, drop, ap, ◌∙◌, arith}
use Rattle.std.proofs.lemmas.List.{at_drop_all}
use Rattle.model.specs.Cycle.{key_from}
use Rattle.design.specs.Views.{core}
use Rattle.engine.proofs.Keying.{More, pilot_wired, key_more}
use Rattle.engine.proofs.state.State.key.Given as given
use Rattle.engine.proofs.state.State.key.Goals as goal

pub at-requires : goal.at-requires
at-requires g c =
    (pilot_wired (core c.args.self.now.design.now) c.args.self.now.design.now.sound _ c.pilots-pilot-items.ensures c.loop-i.i c.loop-i-test.true).0

pub at_weight-key-requires : goal.at_weight-key-requires
at_weight-key-requires g c =
    omega (arith, pilot_wired (core c.args.self.now.design.now) c.args.self.now.design.now.sound _ c.pilots-pilot-items.ensures c.loop-i.i c.loop-i-test.true)

-- one turn
turn : (g : given.Over) (c : goal.After-at_weight-key g) → More g.V.Level.kind (core c.args.self.now.design.now) c.args.self.now.levels.now c.loop-i.i c.loop-i.key c.at_weight-key.result
turn g c =
    let k = g.V.Level.kind in
    let d = core c.args.self.now.design.now in
    let s = c.args.self.now.levels.now in
    let pilots = c.pilots-pilot-items.result.now in
    let i = c.loop-i.i in
    let wired = pilot_wired d c.args.self.now.design.now.sound pilots c.pilots-pilot-items.ensures i c.loop-i-test.true in
    key_more k d s pilots c.pilots-pilot-items.ensures i c.loop-i-test.true wired.1 c.at.result c.at.ensures
    c.loop-i.key c.at_weight-key.result (c.at_weight-key.ensures ∙ ap (λ (b : Bool). cond b (2 ^ i) 0) c.allows.ensures) c.loop-i.invariant.0

pub overflow_add-key : goal.overflow_add-key
overflow_add-key g c = record { fits = (turn g c).0 }

pub loop-i-preserved : goal.loop-i-preserved
loop-i-preserved g c = ((turn g c).1, (turn g c).2 ∙ c.loop-i.invariant.1)

pub returns : goal.returns
returns g c =
    let k = g.V.Level.kind in
    let d = core c.args.self.now.design.now in
    let done : key_from k d (drop c.loop-i.i d.pilots) c.args.self.now.levels.now ≡ 0 =
    at_drop_all (λ (ps : List ℕ). key_from k d ps c.args.self.now.levels.now) d.pilots c.loop-i.i (omega (arith, ap length c.pilots-pilot-items.ensures)) in
    omega (arith, c.loop-i.invariant.1, ap (λ (n : ℕ). 2 ^ c.loop-i.i * n) done)
