-- The core of a design, and the smallest core. Assumes nothing.
use Rattle.std.specs.Prelude.{[], ◌∷◌, replicate}
use Rattle.levels.specs.declared.Tri.TheVariants.{Zero}
use Rattle.model.specs.declared.net.Driver.TheVariants as driver
use Rattle.model.specs.Core.{Core, no_word}
use Rattle.design.specs.declared.design.Design.{Design}
use Rattle.design.specs.Tables.{core_of}

abbrev pub core : Design → Core
core d = core_of d.tables

-- one flop, which is the mark and the halt flop and holds 0; memories of one zero word, and one start
abbrev pub smallest : Core
smallest = record {
  clock = 1;
  window = 1;
  rom_energy = 0;
  ram_energy = 0;
  write_energy = 0;
  nets = record { driver = driver.Flop 0; rise = 0; fall = 0; idle = 0 } ∷ [];
  rom = 0 ∷ [];
  ram = no_word ∷ [];
  rom_address = [];
  ram_address = [];
  write_enable = 0;
  write_data = replicate 16 0;
  mark = 0;
  pilots = 0 ∷ [];
  starts = Zero ∷ [];
}
