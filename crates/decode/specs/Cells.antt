-- The cells of a bundle: ten bytes each. Assumes nothing.
use Rattle.std.specs.Prelude.{ℕ, ◌+◌, ◌*◌, ◌/◌, ◌^◌, Bool, true, false, cond, ◌&&◌, List, length, Some, None, Option, ◌==◌, nat_le, nat_lt}
use Rattle.bundle.specs.Format.{byte, two_bytes}
use Rattle.decode.specs.Entries.{only_if}
use Rattle.decode.specs.declared.cells.Use.{Use}
use Rattle.decode.specs.declared.cells.Use.TheVariants as usage
use Rattle.decode.specs.declared.cells.Cell.{Cell}

-- the use that a number stands for
abbrev pub use_of : ℕ → Option Use
use_of n =
    cond (n == 0) (Some usage.Gate)
    (cond (n == 1) (Some usage.Flop)
    (cond (n == 2) (Some usage.EnabledFlop)
    (cond (n == 3) (Some usage.Input)
    (cond (n == 4) (Some usage.MemoryBit)
    (cond (n == 5) (Some (usage.Constant false))
    (cond (n == 6) (Some (usage.Constant true)) None))))))

-- A gate has one to four pins, and no truth bit past those that its pins can choose. A flop has a data pin, an enabled flop an
-- enable too, and the others none. Only a gate has a truth word.
abbrev pub cell_right : Use → ℕ → ℕ → Bool
cell_right usage.Gate pins truth = nat_lt 0 pins && nat_le pins 4 && nat_lt truth (2 ^ (2 ^ pins))
cell_right usage.Flop pins truth = pins == 1 && truth == 0
cell_right usage.EnabledFlop pins truth = pins == 2 && truth == 0
cell_right usage.Input pins truth = pins == 0 && truth == 0
cell_right usage.MemoryBit pins truth = pins == 0 && truth == 0
cell_right (usage.Constant bit) pins truth = pins == 0 && truth == 0

abbrev pub no_cell : Cell
no_cell = record { usage = usage.Constant false; pins = 0; truth = 0; rise = 0; fall = 0; idle = 0 }

-- pins and use, a byte each, then truth word, rise, fall and idle, two bytes each
abbrev pub cell_from : List ℕ → ℕ → Use → Cell
cell_from bs at u = record {
  usage = u;
  pins = byte bs at;
  truth = two_bytes bs (at + 2);
  rise = two_bytes bs (at + 4);
  fall = two_bytes bs (at + 6);
  idle = two_bytes bs (at + 8);
}

abbrev pub cell_of_use : List ℕ → ℕ → Option Use → Option Cell
cell_of_use bs at None = None
cell_of_use bs at (Some u) = only_if (cell_right u (byte bs at) (two_bytes bs (at + 2))) (cell_from bs at u)

abbrev pub cell_count : List ℕ → ℕ
cell_count bs = length bs / 10

abbrev pub cell_read : List ℕ → ℕ → Option Cell
cell_read bs i = cell_of_use bs (10 * i) (use_of (byte bs (10 * i + 1)))
