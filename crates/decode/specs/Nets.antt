-- The nets of a bundle: ten bytes each. Assumes nothing.
use Rattle.std.specs.Prelude.{ℕ, zero, suc, ◌+◌, ◌*◌, ◌/◌, Bool, true, false, cond, not, ◌&&◌, ◌||◌, List, [], ◌∷◌, length, Some, None, Option, ◌==◌, nat_le, nat_lt}
use Rattle.std.specs.List.{slice_get}
use Rattle.model.specs.declared.net.Driver.{Driver}
use Rattle.model.specs.declared.net.Driver.TheVariants as driver
use Rattle.model.specs.declared.net.Net.{Net}
use Rattle.bundle.specs.Format.{two_bytes}
use Rattle.decode.specs.Entries.{only_if}
use Rattle.decode.specs.declared.cells.Use.{Use}
use Rattle.decode.specs.declared.cells.Use.TheVariants as usage
use Rattle.decode.specs.declared.cells.Cell.{Cell}

abbrev pub gate_use : Use → Bool
gate_use usage.Gate = true
gate_use usage.Flop = false
gate_use usage.EnabledFlop = false
gate_use usage.Input = false
gate_use usage.MemoryBit = false
gate_use (usage.Constant bit) = false

abbrev pub gate_cell : Option Cell → Bool
gate_cell None = false
gate_cell (Some c) = gate_use c.usage

-- the first k fields pass a test, and the others are 0
abbrev pub fields_right : (ℕ → Bool) → ℕ → List ℕ → Bool
fields_right test k [] = true
fields_right test zero (x ∷ xs) = x == 0 && fields_right test zero xs
fields_right test (suc k) (x ∷ xs) = test x && fields_right test k xs

-- the driver of a memory bit, by its four fields: which memory, which bit of its word, and two that are 0
abbrev pub memory_bit : ℕ → ℕ → ℕ → ℕ → Option Driver
memory_bit memory bit x y =
    only_if (nat_le memory 1 && nat_le bit 15 && x == 0 && y == 0) (cond (memory == 0) (driver.RomBit bit) (driver.RamBit bit))

abbrev pub net_count : List ℕ → ℕ
net_count bs = length bs / 10

-- the number of a net's cell, then four pin fields, two bytes each
abbrev pub cell_number : List ℕ → ℕ → ℕ
cell_number bs i = two_bytes bs (10 * i)

abbrev pub pin_field : List ℕ → ℕ → ℕ → ℕ
pin_field bs i k = two_bytes bs (10 * i + 2 + 2 * k)

abbrev pub pin_fields : List ℕ → ℕ → List ℕ
pin_fields bs i = pin_field bs i 0 ∷ (pin_field bs i 1 ∷ (pin_field bs i 2 ∷ (pin_field bs i 3 ∷ [])))

module _ (cells : List Cell) (bs : List ℕ) where
  abbrev pub cell_of : ℕ → Option Cell
  cell_of i = slice_get cells (cell_number bs i)

  -- a pin of net i names a net, and a gate's pin names no gate of its own number or a higher one
  abbrev pub pin_right : Use → ℕ → ℕ → Bool
  pin_right u i p = nat_lt p (net_count bs) && (not (gate_use u) || (nat_lt p i || not (gate_cell (cell_of p))))

  -- net i's driver, by the use of its cell: a cell's pins name nets, and fields past them are 0; a memory bit has the memory and
  -- the bit in their place
  abbrev pub driver_read : ℕ → Cell → Use → Option Driver
  driver_read i c usage.Gate =
      only_if (fields_right (pin_right usage.Gate i) c.pins (pin_fields bs i))
      (driver.Gate (record { truth = c.truth; used = c.pins; pins = pin_fields bs i }))
  driver_read i c usage.Flop =
      only_if (fields_right (pin_right usage.Flop i) c.pins (pin_fields bs i)) (driver.Flop (pin_field bs i 0))
  driver_read i c usage.EnabledFlop =
      only_if (fields_right (pin_right usage.EnabledFlop i) c.pins (pin_fields bs i)) (driver.EnabledFlop (pin_field bs i 0) (pin_field bs i 1))
  driver_read i c usage.Input =
      only_if (fields_right (pin_right usage.Input i) c.pins (pin_fields bs i)) driver.Input
  driver_read i c usage.MemoryBit = memory_bit (pin_field bs i 0) (pin_field bs i 1) (pin_field bs i 2) (pin_field bs i 3)
  driver_read i c (usage.Constant bit) =
      only_if (fields_right (pin_right (usage.Constant bit) i) c.pins (pin_fields bs i)) (driver.Constant bit)

  abbrev pub net_of_driver : Cell → Option Driver → Option Net
  net_of_driver c None = None
  net_of_driver c (Some d) = Some (record { driver = d; rise = c.rise; fall = c.fall; idle = c.idle })

  abbrev pub net_of_cell : ℕ → Option Cell → Option Net
  net_of_cell i None = None
  net_of_cell i (Some c) = net_of_driver c (driver_read i c c.usage)

  abbrev pub net_read : ℕ → Option Net
  net_read i = net_of_cell i (cell_of i)
