use Rattle.std.proofs.Common.{◌≡◌, ◌+◌, ◌*◌, ◌^◌, map, length, sym, ap, ◌∙◌, ap₂, arith, rules}
use Rattle.std.proofs.lemmas.List.FromFn.{fill_by_all}
use Rattle.design.specs.Views.{core}
use Rattle.model.specs.Cycle.{at, picked, ram_leaves}
use Rattle.model.proofs.Sound.{sound_parts}
use Rattle.engine.proofs.MemoryLemmas.{wire_named}
use Rattle.engine.proofs.state.State.read_ram.Goals as goal

pub pick-requires-clause-wires : goal.pick-requires-clause-wires
pick-requires-clause-wires g c i h =
    let d = core c.args.self.now.design.now in
    wire_named d _ _ (sound_parts d c.args.self.now.design.now.sound).ram_wire c.ram_address.ensures i

pub pick-requires-clause-whole : goal.pick-requires-clause-whole
pick-requires-clause-whole g c =
    let d = core c.args.self.now.design.now in
    let few = (sound_parts d c.args.self.now.design.now.sound).ram_words in
    omega (arith, ap length c.ram.ensures) ∙ few ∙ ap (λ ws. 2 ^ length ws) (sym c.ram_address.ensures)

pub returns : goal.returns
returns g c =
    let k = g.V.Level.kind in
    let d = core c.args.self.now.design.now in
    let s = c.args.self.now.levels.now in
    let leaves : c.load.new.leaves ≡ ram_leaves k d s c.args.bit =
    fill_by_all (λ word. at k s (length d.nets + (16 * word + c.args.bit))) c.load.new.leaves (length d.ram) k.blank (omega (arith, ap length c.ram.ensures))
    (λ i h. let e = c.load.ensures i (omega (arith, ap length c.ram.ensures)) in search rules) in
    c.pick.ensures ∙ ap₂ (λ ws ls. picked k (map (at k s) ws) ls) c.ram_address.ensures leaves
