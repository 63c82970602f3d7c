-- The two rows that are lent for a window, before and after. Assumes nothing.
use Rattle.std.specs.Prelude.{◌≡◌, ℕ, List, Option, length}
use Rattle.bundle.specs.declared.refusal.Refusal.{Refusal}
use Rattle.record.specs.declared.point.Point.{Point}
use Rattle.figures.specs.declared.rows.Rows.{Rows}
use Rattle.figures.specs.Figures.{window_refusal}

-- the same two rows, as long as before
pub record SameRows (old new : Rows) : Type 0 where
  pub row : new.row.ghost_name ≡ old.row.ghost_name
  pub other : new.other.ghost_name ≡ old.other.ghost_name
  pub row_long : length new.row.now ≡ length old.row.now
  pub other_long : length new.other.now ≡ length old.other.now

-- what a window through these rows is refused with
abbrev pub refusal_with : List Point → ℕ → Rows → Option Refusal
refusal_with ps w rows = window_refusal ps w (length rows.row.now) (length rows.other.now)
