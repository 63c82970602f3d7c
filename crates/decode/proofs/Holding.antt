-- Tables that hold what a bundle stands for, where the bundle is not refused.
use Rattle.std.proofs.Common.{◌≡◌, ℕ, ◌+◌, ◌<◌, ◌≤◌, true, List, length, get_or, take, drop, Option, unwrap_or, sym, ap, ◌∙◌, ap₂, arith, pow_mono}
use Rattle.model.specs.Core.{Core, no_word, is_flop, tally, sound, flops}
use Rattle.design.specs.declared.tables.Tables.{Tables}
use Rattle.decode.specs.Words.{ram_count, ram_read}
use Rattle.decode.specs.Decode.{Parts, parts_refusal, rom_bits, ram_bits, all_nets, core_from}
use Rattle.design.specs.Table.{items}
use Rattle.design.specs.Tables.{core_of}
use Rattle.decode.specs.Holds.{Holds}
use Rattle.decode.proofs.Refusing.{Passed}
use Rattle.decode.proofs.Sound.{nets_few, long, few_ram, wires_long, all_pilots_long, starts_whole, starts_long, some_flop, sound_core}
use Rattle.decode.proofs.Asking.{length_entries}
use Rattle.model.proofs.Tallies.{tally_few}
use Rattle.decode.proofs.Steps.{starts_fit}

-- cores with the same parts are the same
core_same : (x y : Core) → x.clock ≡ y.clock → x.window ≡ y.window → x.rom_energy ≡ y.rom_energy → x.ram_energy ≡ y.ram_energy → x.write_energy ≡ y.write_energy → x.nets ≡ y.nets → x.rom ≡ y.rom → x.ram ≡ y.ram → x.rom_address ≡ y.rom_address → x.ram_address ≡ y.ram_address → x.write_enable ≡ y.write_enable → x.write_data ≡ y.write_data → x.mark ≡ y.mark → x.pilots ≡ y.pilots → x.starts ≡ y.starts → x ≡ y
core_same x y e0 e1 e2 e3 e4 e5 e6 e7 e8 e9 e10 e11 e12 e13 e14 =
    λ i. record { clock = e0 i; window = e1 i; rom_energy = e2 i; ram_energy = e3 i; write_energy = e4 i; nets = e5 i; rom = e6 i; ram = e7 i; rom_address = e8 i; ram_address = e9 i; write_enable = e10 i; write_data = e11 i; mark = e12 i; pilots = e13 i; starts = e14 i }

-- so are headers and bodies
pub parts_same : (x y : Parts) → x.header ≡ y.header → x.cells ≡ y.cells → x.nets ≡ y.nets → x.rom ≡ y.rom → x.ram ≡ y.ram → x.wires ≡ y.wires → x.pilots ≡ y.pilots → x.starts ≡ y.starts → x ≡ y
parts_same x y e0 e1 e2 e3 e4 e5 e6 e7 =
    λ i. record { header = e0 i; cells = e1 i; nets = e2 i; rom = e3 i; ram = e4 i; wires = e5 i; pilots = e6 i; starts = e7 i }

module _ (t : Tables) (p : Parts) (h : Holds t p) (taken : Passed (parts_refusal p)) where
  rom_is : t.rom_bits ≡ unwrap_or (rom_bits p.rom) 0
  rom_is = sym (ap (λ (o : Option ℕ). unwrap_or o 0) h.rom_wires)

  ram_is : t.ram_bits ≡ unwrap_or (ram_bits p.ram) 0
  ram_is = sym (ap (λ (o : Option ℕ). unwrap_or o 0) h.ram_wires)

  pub core_is : core_of t ≡ core_from p
  core_is =
      core_same (core_of t) (core_from p) h.clock h.window h.rom_energy h.ram_energy h.write_energy h.nets h.rom h.ram
      (ap₂ (λ (n : ℕ) (ws : List ℕ). take n ws) rom_is h.wires)
      (λ i. take (ram_is i) (drop (rom_is i) (h.wires i)))
      (λ i. get_or (h.wires i) (rom_is i + ram_is i) 0)
      (λ i. take 16 (drop (rom_is i + ram_is i + 1) (h.wires i)))
      (ap (λ (ps : List ℕ). get_or ps 0 0) h.pilots)
      (ap (drop 1) h.pilots)
      h.starts

  -- ---- the facts of a design

  pub nets_limit : length (core_of t).nets ≤ 4096
  nets_limit = omega (arith, ap (λ (c : Core). length c.nets) core_is, long p taken, nets_few p taken)

  pub ram_limit : length (core_of t).ram ≤ 256
  ram_limit =
      omega (arith, ap (λ (c : Core). length c.ram) core_is, length_entries (ram_read p.ram) (ram_count p.ram) no_word, (few_ram p taken).0, pow_mono (few_ram p taken).1)

  pub wires_counted : length (items t.wires) ≡ t.rom_bits + t.ram_bits + 17
  wires_counted = omega (arith, ap (λ (ws : List ℕ). length ws) h.wires, wires_long p taken, rom_is, ram_is)

  pub mark_there : 0 < length (items t.pilots)
  mark_there = omega (arith, ap (λ (ps : List ℕ). length ps) h.pilots, all_pilots_long p taken)

  pub starts_limit : length (core_of t).starts ≤ 32768
  starts_limit =
      let w = starts_whole p taken in
      omega (arith, ap (λ (c : Core). length c.starts) core_is, starts_long p taken, starts_fit (length p.starts) (tally is_flop (all_nets p)) w.0 w.2 (omega (arith, tally_few is_flop (all_nets p), long p taken, nets_few p taken)))

  pub flops_counted : t.flop_count ≡ flops (core_of t)
  flops_counted = h.flop_number ∙ ap flops (sym core_is)

  pub flops_there : 0 < t.flop_count
  flops_there = omega (arith, h.flop_number, some_flop p taken)

  pub tables_sound : sound (core_of t) ≡ true
  tables_sound = ap sound core_is ∙ sound_core p taken
