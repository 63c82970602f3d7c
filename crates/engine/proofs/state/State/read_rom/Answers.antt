use Rattle.std.proofs.Common.{◌≡◌, map, length, get_or, ap, ◌∙◌, ap₂, arith, rules}
use Rattle.std.proofs.lemmas.List.FromFn.{fill_by_all}
use Rattle.levels.specs.Kinds.{bit_at}
use Rattle.design.specs.Views.{core}
use Rattle.model.specs.Cycle.{at, picked}
use Rattle.model.proofs.Sound.{sound_parts}
use Rattle.engine.proofs.MemoryLemmas.{wire_named, map_places}
use Rattle.engine.proofs.state.State.read_rom.Goals as goal

pub pick-requires-clause-wires : goal.pick-requires-clause-wires
pick-requires-clause-wires g c i h =
    let d = core c.args.self.now.design.now in
    wire_named d _ _ (sound_parts d c.args.self.now.design.now.sound).rom_wire c.rom_address.ensures i

pub returns : goal.returns
returns g c =
    let k = g.V.Level.kind in
    let words = c.rom-words.result.now in
    let leaves : c.load.new.leaves ≡ map (λ word. k.of_bit (bit_at word c.args.bit)) words =
    fill_by_all (λ i. k.of_bit (bit_at (get_or words i 0) c.args.bit)) c.load.new.leaves (length words) k.blank (omega arith)
    (λ i h. let e = c.load.ensures i (omega arith) in search rules)
    ∙ map_places (λ word. k.of_bit (bit_at word c.args.bit)) words 0 in
    c.pick.ensures ∙ ap₂ (λ ws ls. picked k (map (at k c.args.self.now.levels.now) ws) ls) c.rom_address.ensures (leaves ∙ ap (map _) c.rom-words.ensures)
