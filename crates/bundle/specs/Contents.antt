-- A bundle's header and its contents rows, as values of their types. Assumes nothing.
use Rattle.std.specs.Prelude.{ℕ, cond, List, Some, None, Option}
use Rattle.bundle.specs.declared.header.Header.{Header}
use Rattle.bundle.specs.declared.row.Row.{Row}
use Rattle.bundle.specs.Format.{rows, clock, rom_energy, ram_energy, write_energy, window, total_length}
use Rattle.bundle.specs.Format.{row_kind, row_zero, row_count, row_offset, row_inside}

abbrev pub the_header : List ℕ → Header
the_header bs = record {
  rows = rows bs;
  clock = clock bs;
  rom_energy = rom_energy bs;
  ram_energy = ram_energy bs;
  write_energy = write_energy bs;
  window = window bs;
  length = total_length bs;
}

abbrev pub the_row : List ℕ → ℕ → Row
the_row bs i = record { kind = row_kind bs i; zero = row_zero bs i; count = row_count bs i; offset = row_offset bs i }

-- row i, if its eight bytes lie inside
abbrev pub row_at : List ℕ → ℕ → Option Row
row_at bs i = cond (row_inside bs i) (Some (the_row bs i)) None
