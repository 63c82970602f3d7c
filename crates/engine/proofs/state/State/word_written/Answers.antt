use Rattle.std.proofs.Common.{◌≡◌, ◌/◌, ◌^◌, cond, map, length, sym, ap, ◌∙◌, ap₂, arith}
use lib.ListN.{length-map}
use Rattle.std.proofs.Math.Nat.{div-one}
use Rattle.std.proofs.lemmas.List.{get_or-map}
use Rattle.std.proofs.lemmas.Bool.{cond-true, cond-false}
use Rattle.levels.specs.Kinds.{bit_at}
use Rattle.design.specs.Views.{core}
use Rattle.model.specs.Cycle.{at, written}
use Rattle.model.proofs.Sound.{sound_parts}
use Rattle.engine.proofs.MemoryLemmas.{wire_named, ram_fits, written_more, written_all}
use Rattle.engine.proofs.state.State.word_written.Goals.{then-bit_of, else-bit_of}
use Rattle.engine.proofs.state.State.word_written.Goals as goal

pub at-on-requires : goal.at-on-requires
at-on-requires g c =
    omega (arith, (sound_parts (core c.args.self.now.design.now) c.args.self.now.design.now.sound).enable_wire)

pub loop-bit-init : goal.loop-bit-init
loop-bit-init g c =
    let k = g.V.Level.kind in
    let s = c.args.self.now.levels.now in
    ap (written k c.at-on.result (map (at k s) c.ram_address-wire-items.result.now)) (div-one c.args.word)
    ∙ ap₂ (λ v ws. written k v (map (at k s) ws) c.args.word) (c.at-on.ensures ∙ ap (at k s) c.write_enable.ensures) c.ram_address-wire-items.ensures

pub bit_of-requires : goal.bit_of-requires
bit_of-requires g c =
    let p = sound_parts (core c.args.self.now.design.now) c.args.self.now.design.now.sound in
    omega (arith, p.ram_bits, ap length c.ram_address-wire-items.ensures)

pub overflow_cast-word : goal.overflow_cast-word
overflow_cast-word g c =
    record { fits = omega (arith, c.requires, ram_fits (core c.args.self.now.design.now) c.args.self.now.design.now.sound) }

pub at-requires : goal.at-requires
at-requires g c =
    let d = core c.args.self.now.design.now in
    wire_named d _ _ (sound_parts d c.args.self.now.design.now.sound).ram_wire c.ram_address-wire-items.ensures c.loop-bit.bit

pub loop-bit-preserved : goal.loop-bit-preserved
loop-bit-preserved g c =
    let k = g.V.Level.kind in
    let s = c.args.self.now.levels.now in
    let i = c.loop-bit.bit in
    let address = c.ram_address-wire-items.result.now in
    let long = length-map address (at k s) in
    let truth : c.if-bit_of.truth ≡ cond (bit_at c.args.word i) 8 2 =
    elim c.if-bit_of.branch [
      | then-bit_of w ↦ w.truth-is ∙ sym (cond-true _ 8 2 (sym c.bit_of.ensures ∙ w.if-bit_of.true))
      | else-bit_of w ↦ w.truth-is ∙ sym (cond-false _ 8 2 (sym c.bit_of.ensures ∙ w.if-bit_of.false))
    ] in
    written_more k (map (at k s) address) i c.args.word c.if-bit_of.truth c.loop-bit.on c.at.result k.blank
    c.of_bit-zero.result c.cell-on.result (omega arith)
    (c.at.ensures ∙ sym (get_or-map (at k s) address i 0 k.blank c.loop-bit-test.true))
    truth c.of_bit-zero.ensures c.cell-on.ensures
    ∙ c.loop-bit.invariant

pub returns : goal.returns
returns g c =
    let k = g.V.Level.kind in
    let s = c.args.self.now.levels.now in
    let address = c.ram_address-wire-items.result.now in
    let long = length-map address (at k s) in
    sym (written_all k (map (at k s) address) c.loop-bit.bit (c.args.word / 2 ^ c.loop-bit.bit) c.loop-bit.on (omega arith)) ∙ c.loop-bit.invariant
