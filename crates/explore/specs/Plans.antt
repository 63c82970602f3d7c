-- What is planned for an open point. Assumes nothing.
use Rattle.std.specs.Prelude.{◌≡◌, ℕ, ◌+◌, ◌%◌, ◌<◌, ◌≤◌, Bool, List, [], ◌∷◌, ◌++◌, Some, slice_set}
use Rattle.levels.specs.declared.Tri.{Tri}
use Rattle.levels.specs.Tris.{tri_kind}
use Rattle.model.specs.Core.{Core}
use Rattle.record.specs.Record.{Record, Entry, Meaning, Treatment, halt, cut, walk, Treated, key_of_point, entry_for, look_up, is_marked}
use Rattle.explore.specs.declared.plan.Plan.{Plan}
use Rattle.explore.specs.declared.plan.Plan.TheVariants.{Halt, Cut, Pass, Add, Replace}
use Rattle.explore.specs.declared.exploration.Exploration.{Exploration}
use Rattle.explore.specs.Parts.{kept_entries}

-- the entries that a plan leaves, the state of point p being s
abbrev pub planned_entries : (d : Core) → Plan → (key p : ℕ) → List Tri → List (Entry Tri) → List (Entry Tri)
planned_entries d Halt key p s es = es
planned_entries d (Cut t) key p s es = es
planned_entries d Pass key p s es = es
planned_entries d Add key p s es = es ++ (entry_for tri_kind d key p 0 s ∷ [])
planned_entries d (Replace i count) key p s es = slice_set es i (entry_for tri_kind d key p count s)

-- the treatment that a plan stands for
abbrev pub treatment_of : (d : Core) → Plan → (key p : ℕ) → List Tri → List (Entry Tri) → Treatment tri_kind d
treatment_of d Halt key p s es = halt
treatment_of d (Cut t) key p s es = cut t
treatment_of d Pass key p s es = walk s es
treatment_of d Add key p s es = walk s (planned_entries d Add key p s es)
treatment_of d (Replace i count) key p s es = walk s (planned_entries d (Replace i count) key p s es)

-- a replaced entry is in use, and was replaced less often than there are points taken
abbrev pub Within : Exploration → Plan → Type 0
Within x Halt = Unit {0}
Within x (Cut t) = Unit {0}
Within x Pass = Unit {0}
Within x Add = Unit {0}
Within x (Replace i count) = (i < x.entry_count) × (count + x.open_count ≤ x.point_count + 1)

-- a plan for a point with this key in state s, which leaves the state after
pub record Planned (d : Core) (m : Meaning Tri) (x : Exploration) (kept : List Tri) (key : ℕ) (s : List Tri) (plan : Plan) (after : List Tri) : Type 0 where
  pub treats : (r : Record Tri) (p : ℕ) → r.entries ≡ kept_entries x.places x.entries kept x.entry_count → key_of_point tri_kind d r p ≡ key →
      Treated tri_kind d m r p s (treatment_of d plan key p after r.entries)
  pub within : Within x plan

-- the same of a point whose key entry i has
pub record PlannedKnown (d : Core) (m : Meaning Tri) (x : Exploration) (kept : List Tri) (key i : ℕ) (marked : Bool) (s : List Tri) (plan : Plan) (after : List Tri) : Type 0 where
  pub treats : key % 2 ≡ 0 → marked ≡ is_marked tri_kind d s →
      look_up tri_kind d key 0 (kept_entries x.places x.entries kept x.entry_count) ≡ Some i →
      (r : Record Tri) (p : ℕ) → r.entries ≡ kept_entries x.places x.entries kept x.entry_count → key_of_point tri_kind d r p ≡ key →
      Treated tri_kind d m r p s (treatment_of d plan key p after r.entries)
  pub within : Within x plan
