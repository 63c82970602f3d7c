use Rattle.std.proofs.Common.{◌<◌, length, get_or, ap, ◌∙◌, arith, rules}
use Rattle.design.specs.Views.{core}
use Rattle.model.specs.Cycle.{at}
use Rattle.model.proofs.Sound.{sound_parts}
use Rattle.engine.proofs.MemoryLemmas.{wire_named}
use Rattle.engine.proofs.EdgeLemmas.{word_more}
use Rattle.engine.proofs.state.State.edge_word.Goals as goal

pub ram_place-place-requires : goal.ram_place-place-requires
ram_place-place-requires g c =
    let p = sound_parts (core c.args.self.now.design.now) c.args.self.now.design.now.sound in
    record { word = c.requires.word; bit = omega (arith, p.data_wires, ap length c.write_data-wire-items.ensures) }

pub at-requires : goal.at-requires
at-requires g c =
    let d = core c.args.self.now.design.now in
    wire_named d _ _ (sound_parts d c.args.self.now.design.now.sound).data_wire c.write_data-wire-items.ensures c.loop-bit.bit

pub offset_bounds-after-place : goal.offset_bounds-after-place
offset_bounds-after-place g c =
    let h : c.ram_place-place.result < length c.args.after.now = omega arith in
    search rules

pub ram_bit-requires : goal.ram_bit-requires
ram_bit-requires g c =
    let p = sound_parts (core c.args.self.now.design.now) c.args.self.now.design.now.sound in
    record { word = c.requires.word; bit = omega (arith, p.data_wires, ap length c.write_data-wire-items.ensures) }

pub loop-bit-preserved : goal.loop-bit-preserved
loop-bit-preserved g c =
    let k = g.V.Level.kind in
    let d = core c.args.self.now.design.now in
    let s = c.args.self.now.levels.now in
    let bit = c.loop-bit.bit in
    let new = c.at.ensures ∙ ap (λ ws. at k s (get_or ws bit 0)) c.write_data-wire-items.ensures in
    word_more k d s c.args.after.now c.loop-bit.after c.args.word bit c.ram_place-place.result c.next_level.result c.ram_place-place.ensures.place (omega arith)
    (c.next_level.ensures ∙ cc (c.word_written-on.ensures, c.ram_bit.ensures, new)) c.loop-bit.invariant

pub returns : goal.returns
returns g c =
    let p = sound_parts (core c.args.self.now.design.now) c.args.self.now.design.now.sound in
    record {
      below = c.loop-bit.invariant.below;
      bits = λ b h. c.loop-bit.invariant.bits b (omega (arith, p.data_wires, ap length c.write_data-wire-items.ensures));
    }
