-- What a bundle stands for, and the questions put to it in order. Assumes nothing.
use Rattle.std.specs.Prelude.{ℕ, ◌+◌, ◌/◌, ◌%◌, Bool, not, ◌&&◌, List, [], ◌∷◌, length, take, drop, is_some, Option, ◌==◌, nat_le, nat_lt, slice_index}
use Rattle.std.specs.Option.{unwrap_or}
use Rattle.levels.specs.declared.Tri.{Tri}
use Rattle.levels.specs.declared.Tri.TheVariants.{X}
use Rattle.model.specs.declared.net.Net.{Net}
use Rattle.model.specs.declared.net.RamWord.{RamWord}
use Rattle.model.specs.Core.{Core, no_net, no_word, is_flop, tally}
use Rattle.bundle.specs.declared.refusal.Fault.TheVariants as fault
use Rattle.bundle.specs.declared.refusal.Refusal.{Refusal}
use Rattle.bundle.specs.declared.header.Header.{Header}
use Rattle.bundle.specs.Contents.{the_header}
use Rattle.bundle.specs.Format.{ask, first_refusal, bundle_refusal, body}
use Rattle.decode.specs.declared.cells.Cell.{Cell}
use Rattle.decode.specs.Entries.{first_unread, counted, entries}
use Rattle.decode.specs.Cells.{no_cell, cell_count, cell_read}
use Rattle.decode.specs.Nets.{net_count, net_read}
use Rattle.decode.specs.Words.{word_count, rom_read, wire_read, ram_count, ram_read, address_bits}
use Rattle.decode.specs.Pilots.{pilot_read, flop_places, start_read}

-- The header and the seven bodies.
pub record Parts : Type 0 where
  pub header : Header
  pub cells : List ℕ
  pub nets : List ℕ
  pub rom : List ℕ
  pub ram : List ℕ
  pub wires : List ℕ
  pub pilots : List ℕ
  pub starts : List ℕ

abbrev pub parts_of : List ℕ → Parts
parts_of bs = record {
  header = the_header bs;
  cells = body bs 0;
  nets = body bs 1;
  rom = body bs 2;
  ram = body bs 3;
  wires = body bs 4;
  pilots = body bs 5;
  starts = body bs 6;
}

-- ---- what each body stands for

abbrev pub cells_of : List ℕ → List Cell
cells_of cells = entries (cell_read cells) no_cell (cell_count cells)

abbrev pub nets_of : List ℕ → List ℕ → List Net
nets_of cells nets = entries (net_read (cells_of cells) nets) no_net (net_count nets)

abbrev pub rom_of : List ℕ → List ℕ
rom_of rom = entries (rom_read rom) 0 (word_count rom)

abbrev pub ram_of : List ℕ → List RamWord
ram_of ram = entries (ram_read ram) no_word (ram_count ram)

-- the address bits: the ROM has at most ten, the RAM at most eight
abbrev pub rom_bits : List ℕ → Option ℕ
rom_bits rom = address_bits (word_count rom) 10

abbrev pub ram_bits : List ℕ → Option ℕ
ram_bits ram = address_bits (ram_count ram) 8

abbrev pub wires_of : ℕ → List ℕ → List ℕ
wires_of nets wires = entries (wire_read nets wires) 0 (word_count wires)

-- the mark, then the pilots
abbrev pub pilots_of : List Net → List ℕ → List ℕ
pilots_of nets pilots = entries (pilot_read nets pilots) 0 (word_count pilots)

abbrev pub starts_of : List Net → List ℕ → List ℕ → List Tri
starts_of nets pilots starts =
    entries (start_read (tally is_flop nets) (flop_places nets pilots) starts) X (length starts)

-- ---- the questions to each

abbrev pub figures_refusal : ℕ → ℕ → Option Refusal
figures_refusal clock window = ask (nat_le 1 clock && nat_le clock 200 && not (window == 0)) fault.Figures

abbrev pub cells_refusal : List ℕ → Option Refusal
cells_refusal cells = counted 1 64 (cell_read cells) fault.Cells (cell_count cells)

abbrev pub nets_refusal : List ℕ → List ℕ → Option Refusal
nets_refusal cells nets = counted 1 4096 (net_read (cells_of cells) nets) fault.Nets (net_count nets)

abbrev pub words_refusal : List ℕ → List ℕ → Option Refusal
words_refusal rom ram =
    first_refusal (
    ask (is_some (rom_bits rom) && is_some (ram_bits ram)) fault.Words
    ∷ (first_unread (ram_read ram) fault.Words (ram_count ram)
    ∷ []))

-- the address wires of both memories, the write enable and 16 data wires
abbrev pub wires_refusal : ℕ → ℕ → List ℕ → Option Refusal
wires_refusal nets bits wires = counted (bits + 17) (bits + 17) (wire_read nets wires) fault.Wires (word_count wires)

abbrev pub pilots_refusal : List Net → List ℕ → Option Refusal
pilots_refusal nets pilots = counted 2 17 (pilot_read nets pilots) fault.Pilots (word_count pilots)

-- one to eight whole starts, with a byte for each flop
abbrev pub whole_starts : ℕ → ℕ → Bool
whole_starts flops n = n % flops == 0 && nat_lt 0 n && nat_le (n / flops) 8

abbrev pub starts_refusal : List Net → List ℕ → List ℕ → Option Refusal
starts_refusal nets pilots starts =
    first_refusal (
    ask (whole_starts (tally is_flop nets) (length starts)) fault.Starts
    ∷ (first_unread (start_read (tally is_flop nets) (flop_places nets pilots) starts) fault.Starts (length starts)
    ∷ []))

-- ---- the whole

abbrev pub all_nets : Parts → List Net
all_nets p = nets_of p.cells p.nets

-- the address bits that both memories have together
abbrev pub all_bits : Parts → ℕ
all_bits p = unwrap_or (rom_bits p.rom) 0 + unwrap_or (ram_bits p.ram) 0

abbrev pub all_wires : Parts → List ℕ
all_wires p = wires_of (net_count p.nets) p.wires

abbrev pub all_pilots : Parts → List ℕ
all_pilots p = pilots_of (all_nets p) p.pilots

abbrev pub parts_refusal : Parts → Option Refusal
parts_refusal p =
    first_refusal (
    figures_refusal p.header.clock p.header.window
    ∷ (cells_refusal p.cells
    ∷ (nets_refusal p.cells p.nets
    ∷ (words_refusal p.rom p.ram
    ∷ (wires_refusal (net_count p.nets) (all_bits p) p.wires
    ∷ (pilots_refusal (all_nets p) p.pilots
    ∷ (starts_refusal (all_nets p) (drop 1 (all_pilots p)) p.starts
    ∷ [])))))))

abbrev pub core_from : Parts → Core
core_from p = record {
  clock = p.header.clock;
  window = p.header.window;
  rom_energy = p.header.rom_energy;
  ram_energy = p.header.ram_energy;
  write_energy = p.header.write_energy;
  nets = all_nets p;
  rom = rom_of p.rom;
  ram = ram_of p.ram;
  rom_address = take (unwrap_or (rom_bits p.rom) 0) (all_wires p);
  ram_address = take (unwrap_or (ram_bits p.ram) 0) (drop (unwrap_or (rom_bits p.rom) 0) (all_wires p));
  write_enable = slice_index (all_wires p) (all_bits p);
  write_data = take 16 (drop (all_bits p + 1) (all_wires p));
  mark = slice_index (all_pilots p) 0;
  pilots = drop 1 (all_pilots p);
  starts = starts_of (all_nets p) (drop 1 (all_pilots p)) p.starts;
}

-- the bundle's own faults first
abbrev pub design_refusal : List ℕ → Option Refusal
design_refusal bs = first_refusal (bundle_refusal bs ∷ (parts_refusal (parts_of bs) ∷ []))

abbrev pub decoded : List ℕ → Core
decoded bs = core_from (parts_of bs)
