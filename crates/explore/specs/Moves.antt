-- One open point taken, as a relation between memory before and after. Assumes nothing.
use Rattle.std.specs.Prelude.{◌≡◌, ℕ, ◌+◌, ◌-◌, ◌*◌, ◌≤◌, List, [], ◌∷◌, map, drop, Some, None, Option, Result, MatchResult, nat_le}
use Rattle.bundle.specs.declared.refusal.Fault.TheVariants as fault
use Rattle.bundle.specs.declared.refusal.Refusal.{Refusal}
use Rattle.bundle.specs.Format.{ask_at, first_refusal}
use Rattle.levels.specs.declared.Tri.{Tri}
use Rattle.levels.specs.Tris.{tri_kind}
use Rattle.model.specs.Core.{Core}
use Rattle.record.specs.declared.point.Fate.TheVariants as fate
use Rattle.record.specs.Record.{Waiting, Meaning, Treatment, Treated, treated, marked_as, successor_keys, successor_point, waiting_from}
use Rattle.explore.specs.declared.plan.Plan.{Plan}
use Rattle.explore.specs.declared.exploration.Exploration.{Exploration}
use Rattle.explore.specs.Memory.{Memory, SameLengths, view, point_room, open_room, entry_room}
use Rattle.explore.specs.Parts.{open_points}
use Rattle.explore.specs.Steps.{Pushed, Kept, entries_after}
use Rattle.explore.specs.Calls.{room_refusal}

-- the last open point is open no more
pub record Popped (x x' : Exploration) : Type 0 where
  pub lengths : SameLengths x x'
  pub same_points : x'.point_count ≡ x.point_count
  pub fewer_open : x'.open_count ≡ x.open_count - 1
  pub same_numbers : x'.numbers ≡ x.numbers
  pub same_entry_count : x'.entry_count ≡ x.entry_count
  pub same_entries : x'.entries ≡ x.entries

-- the entry of a plan is written, for point p with this key in state s
pub record Entered (d : Core) (plan : Plan) (key p : ℕ) (s : List Tri) (x x' : Exploration) (kept kept' : List Tri) : Type 0 where
  pub lengths : SameLengths x x'
  pub same_points : x'.point_count ≡ x.point_count
  pub same_open : x'.open_count ≡ x.open_count
  pub same_numbers : x'.numbers ≡ x.numbers
  pub more_entries : x'.entry_count ≡ entries_after plan x.entry_count
  pub written : Kept d x.places plan key p s x.entries x'.entries kept kept' x.entry_count

-- room for so many entries, points and open points
abbrev pub asked : Exploration → Plan → ℕ → ℕ → Option Refusal
asked x plan p count =
    first_refusal (
    ask_at (nat_le (entries_after plan x.entry_count) (entry_room x)) fault.NoEntry p
    ∷ (ask_at (nat_le (x.point_count + count) (point_room x)) fault.NoPoint p
    ∷ (ask_at (nat_le (x.open_count - 1 + count) (open_room x)) fault.NoSlot p
    ∷ [])))

-- point p walked from state s: its successors are added in place of it, and its plan's entry is written
pub record WalkedOn (d : Core) (plan : Plan) (p key : ℕ) (s : List Tri) (count : ℕ) (before after : Memory) : Type 0 where
  pub lengths : SameLengths before.exploration after.exploration
  pub more_points : after.exploration.point_count ≡ before.exploration.point_count + count
  pub more_open : after.exploration.open_count ≡ before.exploration.open_count - 1 + count
  pub more_entries : after.exploration.entry_count ≡ entries_after plan before.exploration.entry_count
  pub pushed : Pushed before.exploration.places (marked_as fate.Walked p before.lent.points) after.lent.points
      before.lent.opened after.lent.opened before.exploration.numbers after.exploration.numbers
      before.exploration.point_count (before.exploration.open_count - 1) count
      (map (successor_point tri_kind d p s) (successor_keys tri_kind d s)) (waiting_from tri_kind d before.exploration.point_count s)
  pub kept : Kept d before.exploration.places plan key p s before.exploration.entries after.exploration.entries
      before.lent.kept after.lent.kept before.exploration.entry_count

-- the open points but the last
abbrev pub others : Memory → List (Waiting Tri)
others m = open_points m.exploration.places m.exploration.numbers m.lent.opened (m.exploration.open_count - 1)

-- what a step keeps
pub record Holds (before after : Memory) : Type 0 where
  pub lengths : SameLengths before.exploration after.exploration
  pub more_points : before.exploration.point_count ≤ after.exploration.point_count
  pub more_entries : before.exploration.entry_count ≤ after.exploration.entry_count
  pub other_points : drop after.exploration.point_count after.lent.points ≡ drop after.exploration.point_count before.lent.points
  pub other_kept :
      drop (after.exploration.entry_count * after.exploration.places) after.lent.kept
      ≡ drop (after.exploration.entry_count * after.exploration.places) before.lent.kept

-- a treatment of point p, if there is room for it
abbrev pub Steps : (d : Core) → ℕ → Treatment tri_kind d → Memory → Memory → Result Unit Refusal → Type 0
Steps d p t before after answer =
    MatchResult answer
    (λ _. (room_refusal d before.exploration (view before) p (before.exploration.open_count - 1) t ≡ None)
    × (view after ≡ treated tri_kind d (view before) p (others before) t) × Holds before after)
    (λ e. (room_refusal d before.exploration (view before) p (before.exploration.open_count - 1) t ≡ Some e) × (after ≡ before))

-- the last open point taken under a rule
pub record TakesLast (d : Core) (m : Meaning Tri) (before after : Memory) (answer : Result Unit Refusal) : Type 0 where
  pub point : ℕ
  pub state : List Tri
  pub treatment : Treatment tri_kind d
  pub is_last : (view before).waiting ≡ record { number = point; state = state } ∷ others before
  pub treats : Treated tri_kind d m (view before) point state treatment
  pub steps : Steps d point treatment before after answer
