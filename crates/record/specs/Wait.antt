-- The open points of a record, and which of them is taken. Assumes nothing.
use Rattle.std.specs.Prelude.{◌≡◌, ℕ, ◌<◌, true, List, map, length, slice_index}
use Rattle.std.specs.List.{ContainsAt as Has}
use Rattle.levels.specs.Kinds.{Kind}
use Rattle.model.specs.Core.{Core, sound}
use Rattle.record.specs.declared.point.Fate.TheVariants as fate
use Rattle.record.specs.declared.point.Point.{Point}
use Rattle.record.specs.Record.{Record}
use Rattle.record.specs.Runs.{point_at}
use Rattle.record.specs.Escape.{Reached}

-- the numbers of the points that wait
abbrev pub numbers : {V : Type 0} → Record V → List ℕ
numbers r = map (λ w. w.number) r.waiting

-- they are just the open points, the highest number first
pub record Waits (ps : List Point) (numbers : List ℕ) : Type 0 where
  pub highest_first : (i j : ℕ) → i < j → j < length numbers → slice_index numbers j < slice_index numbers i
  pub are_open : (q : ℕ) → Has numbers q → (q < length ps) × ((point_at ps q).fate ≡ fate.Open)
  pub all_open : (q : ℕ) → q < length ps → (point_at ps q).fate ≡ fate.Open → Has numbers q

-- in every record that starts and takings lead to
abbrev pub OpenPointsWait : {V : Type 0} → Kind V → (Record V → List ℕ) → Type 0
OpenPointsWait {V} k numbers =
    (d : Core) → sound d ≡ true →
    (r : Record V) (taken : List (ℕ × ℕ)) → Reached k d r taken →
    Waits r.points (numbers r)
