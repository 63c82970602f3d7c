use Rattle.std.proofs.Common.{ℕ, ◌^◌, map, sym, ap, ◌∙◌, arith}
use lib.ListN.{length-map}
use Rattle.std.proofs.lemmas.List.{get_or-map}
use Rattle.model.specs.Cycle.{at}
use Rattle.engine.proofs.MemoryLemmas.{left_none, left_more, left_all}
use Rattle.engine.proofs.state.State.pick.Goals as goal

pub at-requires : goal.at-requires
at-requires g c = c.requires.wires c.loop-wire.wire-index c.loop-wire-test.true

pub loop-wire-init : goal.loop-wire-init
loop-wire-init g c =
    left_none g.V.Level.kind (map (at g.V.Level.kind c.args.self.now.levels.now) c.args.address.now) c.args.leaves.now
    (c.requires.whole ∙ ap (λ (n : ℕ). 2 ^ n) (sym (length-map c.args.address.now (at g.V.Level.kind c.args.self.now.levels.now))))

pub loop-wire-preserved : goal.loop-wire-preserved
loop-wire-preserved g c =
    let k = g.V.Level.kind in
    let i = c.loop-wire.wire-index in
    let wires = map (at k c.args.self.now.levels.now) c.args.address.now in
    let h = c.loop-wire-test.true in
    let long = length-map c.args.address.now (at k c.args.self.now.levels.now) in
    left_more k wires c.args.leaves.now i c.loop-wire.width _ c.loop-wire.leaves c.pair_up.new.leaves _
    c.at.result k.blank (omega arith)
    (c.at.ensures ∙ sym (get_or-map (at k c.args.self.now.levels.now) c.args.address.now i 0 k.blank h))
    (omega arith) c.pair_up.auto.leaves c.pair_up.ensures c.loop-wire.invariant

pub returns : goal.returns
returns g c =
    let k = g.V.Level.kind in
    let wires = map (at k c.args.self.now.levels.now) c.args.address.now in
    let long = length-map c.args.address.now (at k c.args.self.now.levels.now) in
    left_all k wires c.args.leaves.now c.loop-wire.wire-index c.loop-wire.width c.loop-wire.leaves
    c.index-leaves-0.result (omega arith) c.index-leaves-0.is c.loop-wire.invariant
