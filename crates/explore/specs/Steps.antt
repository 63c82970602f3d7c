-- What one step writes: points and open points behind those in use, and one entry. Assumes nothing.
use Rattle.std.specs.Prelude.{◌≡◌, ℕ, ◌+◌, ◌*◌, ◌<◌, List, ◌++◌, take, drop}
use Rattle.levels.specs.declared.Tri.{Tri}
use Rattle.model.specs.Core.{Core}
use Rattle.record.specs.declared.point.Point.{Point}
use Rattle.record.specs.Record as recorded
use Rattle.explore.specs.declared.plan.Plan.{Plan}
use Rattle.explore.specs.declared.plan.Plan.TheVariants.{Halt, Cut, Pass, Add, Replace}
use Rattle.explore.specs.declared.exploration.Entry.{Entry}
use Rattle.explore.specs.Parts.{open_points, kept_entries}
use Rattle.explore.specs.Plans.{planned_entries}

-- So many points added behind the first of them, and as many open points behind those of the first slots.
pub record Pushed (n : ℕ) (points points' : List Point) (opened opened' : List Tri) (numbers numbers' : List ℕ) (first slot count : ℕ)
    (added : List Point) (waiting : List (recorded.Waiting Tri)) : Type 0 where
  pub points_added : take (first + count) points' ≡ take first points ++ added
  pub points_behind : drop (first + count) points' ≡ drop (first + count) points
  pub open_added : open_points n numbers' opened' (slot + count) ≡ waiting ++ open_points n numbers opened slot

-- how many entries a plan leaves
abbrev pub entries_after : Plan → ℕ → ℕ
entries_after Halt count = count
entries_after (Cut t) count = count
entries_after Pass count = count
entries_after Add count = count + 1
entries_after (Replace i replaced) count = count

-- how often the entry that a plan writes was replaced
abbrev pub replaced_by : Plan → ℕ
replaced_by Halt = 0
replaced_by (Cut t) = 0
replaced_by Pass = 0
replaced_by Add = 0
replaced_by (Replace i replaced) = replaced

-- a replaced entry is one of those in use
abbrev pub InUse : Plan → ℕ → Type 0
InUse Halt count = Unit {0}
InUse (Cut t) count = Unit {0}
InUse Pass count = Unit {0}
InUse Add count = Unit {0}
InUse (Replace i replaced) count = i < count

-- the entry of a plan written, for point p with this key in state s
pub record Kept (d : Core) (n : ℕ) (plan : Plan) (key p : ℕ) (s : List Tri) (entries entries' : List Entry) (kept kept' : List Tri) (count : ℕ) : Type 0 where
  pub entries_kept : kept_entries n entries' kept' (entries_after plan count) ≡ planned_entries d plan key p s (kept_entries n entries kept count)
  pub kept_behind : drop (entries_after plan count * n) kept' ≡ drop (entries_after plan count * n) kept
