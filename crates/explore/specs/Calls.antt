-- The calls of an exploration, each as a relation between memory before, the call, its answer and memory after. Assumes nothing.
use Rattle.std.specs.Prelude.{◌≡◌, ℕ, suc, ◌+◌, ◌*◌, Bool, not, ◌&&◌, List, [], ◌∷◌, ◌++◌, length, drop, replicate, Some, None, Ok, Err, Option, Result, MatchResult, ◌==◌, nat_le, nat_lt, slice_index}
use Rattle.levels.specs.declared.Tri.{Tri}
use Rattle.levels.specs.declared.Tri.TheVariants.{X}
use Rattle.levels.specs.Tris.{tri_kind}
use Rattle.bundle.specs.declared.refusal.Fault.TheVariants as fault
use Rattle.bundle.specs.declared.refusal.Refusal.{Refusal}
use Rattle.bundle.specs.Faults.{fault_number}
use Rattle.bundle.specs.Format.{ask, ask_at, ask_each, first_refusal}
use Rattle.model.specs.Core.{Core, places}
use Rattle.record.specs.declared.point.Point.{Point}
use Rattle.record.specs.Record.{Record, Waiting, Meaning, Treatment, halt, cut, walk, Treated, treated, started, start_count, successor_keys}
use Rattle.record.specs.Bounds.{peak, window}
use Rattle.figures.specs.Figures.{names_used}
use Rattle.explore.specs.declared.answers.Ending.{Ending}
use Rattle.explore.specs.declared.answers.Ending.TheVariants as ending
use Rattle.explore.specs.declared.exploration.Exploration.{Exploration}
use Rattle.explore.specs.declared.answers.Figures.{Figures}
use Rattle.explore.specs.Memory.{Lent, Memory, SameLengths, view, fits, point_room, open_room, entry_room}

-- ---- what every call keeps

abbrev pub unknown : List Tri → List Tri
unknown s = replicate (length s) X

-- the memory as it was, with scratch all X
abbrev pub cleared : Memory → Memory
cleared m = record {
  exploration = m.exploration;
  lent = record { points = m.lent.points; opened = m.lent.opened; kept = m.lent.kept; scratch = unknown m.lent.scratch };
}

-- The lengths are those of the making, points and kept states that are not in use stay as they were, and scratch is all X.
pub record Keeps (before after : Memory) : Type 0 where
  pub lengths : SameLengths before.exploration after.exploration
  pub other_points : drop after.exploration.point_count after.lent.points ≡ drop after.exploration.point_count before.lent.points
  pub as_many_open : length after.lent.opened ≡ length before.lent.opened
  pub other_kept :
      drop (after.exploration.entry_count * after.exploration.places) after.lent.kept
      ≡ drop (after.exploration.entry_count * after.exploration.places) before.lent.kept
  pub scratch_unknown : after.lent.scratch ≡ unknown before.lent.scratch

-- ---- making

-- without points, open points or entries, over memory of these lengths
pub record Empty (places points opened kept scratch : ℕ) (x : Exploration) : Type 0 where
  pub of_places : x.places ≡ places
  pub of_points : x.point_length ≡ points
  pub of_opened : x.open_length ≡ opened
  pub of_kept : x.kept_length ≡ kept
  pub of_scratch : x.scratch_length ≡ scratch
  pub no_points : x.point_count ≡ 0
  pub no_open : x.open_count ≡ 0
  pub no_entries : x.entry_count ≡ 0

-- a point, a state's places open and kept, twice as many of scratch and 1,024 more
abbrev pub make_refusal : Core → Lent → Option Refusal
make_refusal d l =
    ask (nat_le 1 (length l.points) && nat_le (places d) (length l.opened) && nat_le (places d) (length l.kept)
    && nat_le (2 * places d + 1024) (length l.scratch)) fault.Memory

-- an exploration just made
abbrev pub New : Core → Lent → Exploration → Type 0
New d l x = Empty (places d) (length l.points) (length l.opened) (length l.kept) (length l.scratch) x

-- a refused making leaves the place as it was
abbrev pub Makes : Core → Lent → Exploration → Exploration → Result Unit Refusal → Type 0
Makes d l before after answer =
    MatchResult answer (λ _. (make_refusal d l ≡ None) × New d l after) (λ e. (make_refusal d l ≡ Some e) × (after ≡ before))

-- ---- a start

abbrev pub start_refusal : Core → ℕ → Memory → Option Refusal
start_refusal d n m =
    first_refusal (
    ask (fits d m) fault.Memory
    ∷ (ask (nat_lt n (start_count d)) fault.NoStart
    ∷ (ask (nat_lt m.exploration.point_count (point_room m.exploration)) fault.NoPoint
    ∷ (ask (nat_lt m.exploration.open_count (open_room m.exploration)) fault.NoSlot
    ∷ []))))

-- it adds one open point and answers its number
abbrev pub Starts : Core → ℕ → Memory → Memory → Result ℕ Refusal → Type 0
Starts d n before after answer =
    MatchResult answer
    (λ p. (start_refusal d n before ≡ None) × (p ≡ before.exploration.point_count)
    × (view after ≡ started tri_kind d (view before) n) × Keeps before after)
    (λ e. (start_refusal d n before ≡ Some e) × (after ≡ cleared before))

-- ---- a walk

-- Room for what the treatment of point p adds, the other open points being so many: an entry, then points, then open slots.
abbrev pub room_refusal : (d : Core) → Exploration → Record Tri → ℕ → ℕ → Treatment tri_kind d → Option Refusal
room_refusal d x r p others halt = None
room_refusal d x r p others (cut t) = None
room_refusal d x r p others (walk s es) =
    first_refusal (
    ask_at (nat_le (length es) (entry_room x)) fault.NoEntry p
    ∷ (ask_at (nat_le (length r.points + length (successor_keys tri_kind d s)) (point_room x)) fault.NoPoint p
    ∷ (ask_at (nat_le (others + length (successor_keys tri_kind d s)) (open_room x)) fault.NoSlot p
    ∷ [])))

-- the number of each ending; a refusal has its own
abbrev pub ending_number : Ending → ℕ
ending_number ending.Spent = 0
ending_number ending.Done = 255
ending_number (ending.Refused r) = fault_number r.fault

-- Points taken one by one under a rule, with room as exploration x has it: with none open it is done, with so many taken it is
-- spent, and a point that there is no room for is refused and stays open. How many were taken, the ending, the record after.
pub data Takes (d : Core) (m : Meaning Tri) (x : Exploration) : ℕ → Record Tri → ℕ → Ending → Record Tri → Type 0 where
  done : (n : ℕ) (r : Record Tri) → r.waiting ≡ [] → Takes d m x n r 0 ending.Done r
  spent : (r : Record Tri) (w : Waiting Tri) (rest : List (Waiting Tri)) → r.waiting ≡ w ∷ rest → Takes d m x 0 r 0 ending.Spent r
  refused : (n : ℕ) (r : Record Tri) (p : ℕ) (s : List Tri) (rest : List (Waiting Tri)) (t : Treatment tri_kind d) (e : Refusal) →
      r.waiting ≡ record { number = p; state = s } ∷ rest →
      Treated tri_kind d m r p s t →
      room_refusal d x r p (length rest) t ≡ Some e →
      Takes d m x (suc n) r 0 (ending.Refused e) r
  takes : (n c : ℕ) (r after : Record Tri) (p : ℕ) (s : List Tri) (rest : List (Waiting Tri)) (t : Treatment tri_kind d) (e : Ending) →
      r.waiting ≡ record { number = p; state = s } ∷ rest →
      Treated tri_kind d m r p s t →
      room_refusal d x r p (length rest) t ≡ None →
      Takes d m x n (treated tri_kind d r p rest t) c e after →
      Takes d m x (suc n) r (suc c) e after

abbrev pub walk_refusal : Core → Memory → Option Refusal
walk_refusal d m =
    first_refusal (ask (fits d m) fault.Memory ∷ (ask (nat_lt 0 m.exploration.point_count) fault.NotStarted ∷ []))

-- the points taken, and how it ended: refused at once, or after so many points
abbrev pub WalksBy : Core → Meaning Tri → ℕ → Memory → Memory → ℕ × Ending → Option Refusal → Type 0
WalksBy d m budget before after answer (Some e) = (answer ≡ (0, ending.Refused e)) × (after ≡ cleared before)
WalksBy d m budget before after answer None =
    Takes d m before.exploration budget (view before) answer.0 answer.1 (view after) × Keeps before after

abbrev pub Walks : Core → Meaning Tri → ℕ → Memory → Memory → ℕ × Ending → Type 0
Walks d m budget before after answer = WalksBy d m budget before after answer (walk_refusal d before)

-- ---- peak

-- the lowest open point is the first of the stack
abbrev pub open_refusal : Exploration → Option Refusal
open_refusal x = ask_at (x.open_count == 0) fault.StillOpen (slice_index x.numbers 0)

-- the memory fits, a start was taken, and no point is open
abbrev pub done_questions : Bool → Exploration → List (Option Refusal)
done_questions fit x = ask fit fault.Memory ∷ (ask (nat_lt 0 x.point_count) fault.NotStarted ∷ (open_refusal x ∷ []))

abbrev pub used_points : Memory → List Point
used_points m = (view m).points

abbrev pub peak_refusal : Core → Memory → Option Refusal
peak_refusal d m = first_refusal (done_questions (fits d m) m.exploration)

abbrev pub Peaks : Core → Memory → Memory → Result ℕ Refusal → Type 0
Peaks d before after answer =
    (after ≡ cleared before)
    × MatchResult answer (λ n. (peak_refusal d before ≡ None) × (n ≡ peak (used_points before))) (λ e. peak_refusal d before ≡ Some e)

-- ---- window

-- two rows at least as long as the points in use
abbrev pub window_refusal : Core → Memory → ℕ → ℕ → ℕ → Option Refusal
window_refusal d m first_row second_row w =
    first_refusal (
    done_questions (fits d m && nat_le m.exploration.point_count first_row && nat_le m.exploration.point_count second_row) m.exploration
    ++ (ask (not (w == 0)) fault.NoWindow
    ∷ (ask_each (names_used (used_points m)) fault.Damaged 0 (length (used_points m))
    ∷ [])))

abbrev pub Windows : Core → ℕ → Memory → List ℕ → List ℕ → Memory → List ℕ → List ℕ → Result ℕ Refusal → Type 0
Windows d w before row other after row_after other_after answer =
    (after ≡ cleared before) × (row_after ≡ replicate (length row) 0) × (other_after ≡ replicate (length other) 0)
    × MatchResult answer
    (λ n. (window_refusal d before (length row) (length other) w ≡ None) × (n ≡ window (used_points before) w))
    (λ e. window_refusal d before (length row) (length other) w ≡ Some e)

-- ---- peak and window together

-- refused as the window is
abbrev pub Figured : Core → ℕ → Memory → List ℕ → List ℕ → Memory → List ℕ → List ℕ → Result Figures Refusal → Type 0
Figured d w before row other after row_after other_after answer =
    MatchResult answer
    (λ f. Peaks d before after (Ok f.peak) × Windows d w before row other after row_after other_after (Ok f.window))
    (λ e. Windows d w before row other after row_after other_after (Err e))
