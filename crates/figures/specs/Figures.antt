-- What a window is refused for, and the rows from which it is figured. Assumes nothing.
use Rattle.std.specs.Prelude.{◌≡◌, ℕ, ◌*◌, ◌^◌, ◌<◌, ◌≤◌, Bool, true, not, ◌&&◌, List, [], ◌∷◌, length, Option, ◌==◌, nat_le, nat_lt, slice_index}
use Rattle.bundle.specs.declared.refusal.Fault.TheVariants as fault
use Rattle.bundle.specs.declared.refusal.Refusal.{Refusal}
use Rattle.bundle.specs.Format.{ask, ask_each, first_refusal}
use Rattle.record.specs.declared.point.Origin.{Origin}
use Rattle.record.specs.declared.point.Origin.TheVariants as origin
use Rattle.record.specs.declared.point.Fate.{Fate}
use Rattle.record.specs.declared.point.Fate.TheVariants as fate
use Rattle.record.specs.declared.point.Point.{Point}
use Rattle.record.specs.Runs.{point_at}
use Rattle.record.specs.Bounds.{best_from}

-- ---- refusals

-- whether an origin and a fate name only points below n
abbrev pub from_used : ℕ → Origin → Bool
from_used n origin.Start = true
from_used n (origin.From p) = nat_lt p n

abbrev pub to_used : ℕ → Fate → Bool
to_used n fate.Open = true
to_used n fate.Walked = true
to_used n (fate.Cut p) = nat_lt p n
to_used n fate.Halted = true

-- whether record i names only points of the list
abbrev pub names_used : List Point → ℕ → Bool
names_used ps i = from_used (length ps) (point_at ps i).origin && to_used (length ps) (point_at ps i).fate

-- two rows at least as long as the points, a width other than 0, and records that name only these points
abbrev pub window_refusal : List Point → ℕ → ℕ → ℕ → Option Refusal
window_refusal ps w row other =
    first_refusal (
    ask (nat_le (length ps) row && nat_le (length ps) other) fault.Memory
    ∷ (ask (not (w == 0)) fault.NoWindow
    ∷ (ask_each (names_used ps) fault.Damaged 0 (length ps)
    ∷ [])))

-- ---- rows

-- each record names only points of the list
abbrev pub AllNamed : List Point → Type 0
AllNamed ps = (i : ℕ) → i < length ps → names_used ps i ≡ true

-- A row that has for each point the most that w steps or fewer draw of which the first goes to a successor of it. A step draws
-- less than 2 ^ 32.
pub record Best (ps : List Point) (w : ℕ) (row : List ℕ) : Type 0 where
  pub whole : length row ≡ length ps
  pub values : (t : ℕ) → t < length ps → slice_index row t ≡ best_from ps w t
  pub small : (t : ℕ) → t < length ps → slice_index row t ≤ 2 ^ 32 * w
