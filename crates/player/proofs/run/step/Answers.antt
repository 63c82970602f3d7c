use Rattle.std.proofs.Common.{◌≡◌, ℕ, ◌≤◌, List, length, ap, ◌∙◌, ap₂, arith, rules}
use Rattle.levels.specs.declared.Bit.{Bit}
use Rattle.levels.specs.Bits.{bit_kind}
use Rattle.model.specs.Core.{is_input, places}
use Rattle.model.specs.Cycle.{given_by}
use Rattle.model.specs.Tag.{tag_cycle, tag_energy, IsTheTag}
use Rattle.model.proofs.Sound.{memories_from_sound}
use Rattle.model.proofs.Tag.{bits_are_the_tag}
use Rattle.design.specs.Views.{core}
use Rattle.player.specs.declared.run.Cycle.{Cycle}
use Rattle.model.proofs.Tallies.{tally_few}
use Rattle.player.proofs.run.step.Goals as goal

abbrev shows : ℕ → ℕ → Cycle
shows k n = record { key = k; energy = n }

pub slice_bounds-given-end : goal.slice_bounds-given-end
slice_bounds-given-end c =
    let d = core c.args.design.now in
    let few : length c.args.line.now ≤ places d = omega (arith, c.requires.line, tally_few is_input d.nets) in
    let front = c.split_at_mut-given.ensures.front_len in
    let is = c.places.ensures in
    search rules

pub returns : goal.returns
returns c =
    let d = core c.args.design.now in
    let tag : IsTheTag d = bits_are_the_tag d (memories_from_sound d c.args.design.now.sound) in
    let e = c.in_ok-energy.ensures.cases in
    let next : c.cycle.new.state ≡ tag_cycle d c.args.state.now (given_by bit_kind d c.read_levels.new.levels) = e.1 ∙ tag.of_cycle _ _ in
    let energy : c.in_ok-energy.energy ≡ tag_energy d c.args.state.now c.cycle.new.state = e.2 ∙ tag.of_charge c.args.state.now c.cycle.new.state in (
      next ∙ ap (λ (line : List Bit). tag_cycle d c.args.state.now (given_by bit_kind d line)) c.read_levels.ensures,
      ap₂ (λ (k n : ℕ). shows k n) c.in_ok-key.ensures.1 energy,
    )
