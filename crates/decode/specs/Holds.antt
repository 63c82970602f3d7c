-- When tables hold what the header and the bodies of a bundle stand for. Assumes nothing.
use Rattle.std.specs.Prelude.{◌≡◌, drop, Some}
use Rattle.model.specs.Core.{is_flop, tally}
use Rattle.bundle.specs.declared.header.Header.{Header}
use Rattle.decode.specs.declared.bodies.Bodies.{Bodies}
use Rattle.design.specs.Table.{items}
use Rattle.design.specs.declared.tables.Tables.{Tables}
use Rattle.decode.specs.Decode.{Parts, rom_bits, ram_bits, rom_of, ram_of, starts_of, all_nets, all_wires, all_pilots}

abbrev pub parts_in : Header → Bodies → Parts
parts_in h b = record {
  header = h;
  cells = b.cells.now;
  nets = b.nets.now;
  rom = b.rom.now;
  ram = b.ram.now;
  wires = b.wires.now;
  pilots = b.pilots.now;
  starts = b.starts.now;
}

-- each table holds its entries
pub record Holds (t : Tables) (p : Parts) : Type 0 where
  pub clock : t.clock ≡ p.header.clock
  pub window : t.window ≡ p.header.window
  pub rom_energy : t.rom_energy ≡ p.header.rom_energy
  pub ram_energy : t.ram_energy ≡ p.header.ram_energy
  pub write_energy : t.write_energy ≡ p.header.write_energy
  pub nets : items t.nets ≡ all_nets p
  pub rom : items t.rom ≡ rom_of p.rom
  pub ram : items t.ram ≡ ram_of p.ram
  pub rom_wires : rom_bits p.rom ≡ Some t.rom_bits
  pub ram_wires : ram_bits p.ram ≡ Some t.ram_bits
  pub wires : items t.wires ≡ all_wires p
  pub pilots : items t.pilots ≡ all_pilots p
  pub flop_number : t.flop_count ≡ tally is_flop (all_nets p)
  pub starts : items t.starts ≡ starts_of (all_nets p) (drop 1 (all_pilots p)) p.starts
