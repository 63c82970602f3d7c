-- Memory that no call has written yet, and rows for a window. Assumes nothing.
use Rattle.std.specs.Prelude.{◌≡◌, ℕ, ◌+◌, ◌-◌, ◌^◌, min, None, vec_len}
use Rattle.slow.specs.declared.record.Record.{Record}
use Rattle.beside.specs.declared.memory.Lengths.{Lengths}
use Rattle.beside.specs.declared.memory.Memory.{Memory}
use Rattle.beside.specs.declared.memory.Rows.{Rows}

-- each part has its length, and is lent whole
pub record Fresh (lengths : Lengths) (memory : Memory) : Type 0 where
  pub points : vec_len memory.points ≡ lengths.points
  pub opened : vec_len memory.opened ≡ lengths.opened
  pub kept : vec_len memory.kept ≡ lengths.kept
  pub scratch : vec_len memory.scratch ≡ lengths.scratch
  pub whole : memory.short ≡ None

-- each row has so many places more than the record has points
abbrev pub RowsOf : Record → ℕ → Rows → Type 0
RowsOf slow more rows =
    (vec_len rows.row ≡ min (vec_len slow.points + more) (2 ^ 64 - 1)) × (vec_len rows.other ≡ min (vec_len slow.points + more) (2 ^ 64 - 1))
