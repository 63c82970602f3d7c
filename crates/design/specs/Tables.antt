-- The core that a design's tables hold. Assumes nothing.
use Rattle.std.specs.Prelude.{◌+◌, take, drop, slice_index}
use Rattle.model.specs.Core.{Core}
use Rattle.design.specs.Table.{items}
use Rattle.design.specs.declared.tables.Tables.{Tables}

abbrev pub core_of : Tables → Core
core_of t = record {
  clock = t.clock;
  window = t.window;
  rom_energy = t.rom_energy;
  ram_energy = t.ram_energy;
  write_energy = t.write_energy;
  nets = items t.nets;
  rom = items t.rom;
  ram = items t.ram;
  rom_address = take t.rom_bits (items t.wires);
  ram_address = take t.ram_bits (drop t.rom_bits (items t.wires));
  write_enable = slice_index (items t.wires) (t.rom_bits + t.ram_bits);
  write_data = take 16 (drop (t.rom_bits + t.ram_bits + 1) (items t.wires));
  mark = slice_index (items t.pilots) 0;
  pilots = drop 1 (items t.pilots);
  starts = items t.starts;
}
