-- The lent memory of an exploration, and the record that it holds. Assumes nothing.
use Rattle.std.specs.Prelude.{◌≡◌, ℕ, ◌+◌, ◌*◌, ◌/◌, ◌≤◌, min, Bool, ◌&&◌, List, map, reverse, length, take, drop, ◌==◌, slice_index, slice_index_or}
use Rattle.std.specs.List.{range_with_len}
use Rattle.levels.specs.declared.Tri.{Tri}
use Rattle.model.specs.Core.{Core, places}
use Rattle.record.specs.declared.point.Point.{Point}
use Rattle.record.specs.Record.{Record}
use Rattle.explore.specs.declared.exploration.Entry.{Entry}
use Rattle.explore.specs.declared.exploration.Exploration.{Exploration}

-- what a caller lends: points, the states of open points, kept states, scratch
pub record Lent : Type 0 where
  pub points : List Point
  pub opened : List Tri
  pub kept : List Tri
  pub scratch : List Tri

-- an exploration with its lent memory
pub record Memory : Type 0 where
  pub exploration : Exploration
  pub lent : Lent

abbrev pub lent_of : List Point → List Tri → List Tri → List Tri → Lent
lent_of points opened kept scratch = record { points = points; opened = opened; kept = kept; scratch = scratch }

abbrev pub memory_of : Exploration → List Point → List Tri → List Tri → List Tri → Memory
memory_of x points opened kept scratch = record { exploration = x; lent = lent_of points opened kept scratch }

-- stretch i of a list of stretches of n places
abbrev pub stretch : ℕ → List Tri → ℕ → List Tri
stretch n xs i = take n (drop (i * n) xs)

abbrev pub no_entry : Entry
no_entry = record { key = 0; point = 0; count = 0 }

-- The record: the points in use, the open points with their states, the highest number first, and the entries with theirs.
abbrev pub view : Memory → Record Tri
view m =
    let x : Exploration = m.exploration in
    record {
      points = take x.point_count m.lent.points;
      waiting = reverse (map
          (λ i. record { number = slice_index x.numbers i; state = stretch x.places m.lent.opened i })
          (range_with_len 0 x.open_count));
      entries = map
          (λ i. record {
            key = (slice_index_or x.entries i no_entry).key;
            point = (slice_index_or x.entries i no_entry).point;
            count = (slice_index_or x.entries i no_entry).count;
            state = stretch x.places m.lent.kept i;
          })
          (range_with_len 0 x.entry_count);
    }

-- the lengths that the exploration was made with, and states of its places
abbrev pub fits : Core → Memory → Bool
fits d m =
    let x : Exploration = m.exploration in
    (places d == x.places) && length m.lent.points == x.point_length && length m.lent.opened == x.open_length
    && length m.lent.kept == x.kept_length && length m.lent.scratch == x.scratch_length

-- how many points, open points and entries there is room for
abbrev pub point_room : Exploration → ℕ
point_room x = min 65535 x.point_length

abbrev pub open_room : Exploration → ℕ
open_room x = min 64 (x.open_length / x.places)

abbrev pub entry_room : Exploration → ℕ
entry_room x = min 256 (x.kept_length / x.places)

-- ---- what a call changes in an exploration

-- the lengths that it was made with stay
pub record SameLengths (before after : Exploration) : Type 0 where
  pub same_places : after.places ≡ before.places
  pub same_point_length : after.point_length ≡ before.point_length
  pub same_open_length : after.open_length ≡ before.open_length
  pub same_kept_length : after.kept_length ≡ before.kept_length
  pub same_scratch_length : after.scratch_length ≡ before.scratch_length

-- n more points, which are open; the entries stay
pub record Adds (n : ℕ) (before after : Exploration) : Type 0 where
  pub lengths : SameLengths before after
  pub same_entry_count : after.entry_count ≡ before.entry_count
  pub same_entries : after.entries ≡ before.entries
  pub more_points : after.point_count ≡ before.point_count + n
  pub more_open : after.open_count ≡ before.open_count + n

-- room for so many points more, all of them open
pub record HasRoom (count : ℕ) (x : Exploration) : Type 0 where
  pub few_points : x.point_count + count ≤ 65535
  pub points_inside : x.point_count + count ≤ x.point_length
  pub few_open : x.open_count + count ≤ 64
  pub open_inside : (x.open_count + count) * x.places ≤ x.open_length
