-- Any list of calls on an exploration, and what then holds of every run. Assumes nothing.
use Rattle.std.specs.Prelude.{◌≡◌, ℕ, ◌<◌, ◌≤◌, ◌⊎◌, List, [], ◌∷◌, length, take, drop, Ok, Err, sum, Result}
use Rattle.std.specs.List.{ContainsAt as Has, AllByRecursion}
use Rattle.levels.specs.Kinds.{Cover}
use Rattle.levels.specs.Bits.{bit_kind}
use Rattle.levels.specs.Tris.{tri_kind}
use Rattle.levels.specs.declared.Bit.{Bit}
use Rattle.levels.specs.declared.Tri.{Tri}
use Rattle.bundle.specs.declared.refusal.Refusal.{Refusal}
use Rattle.model.specs.Core.{Core}
use Rattle.model.specs.Cycle.{start_state}
use Rattle.record.specs.declared.point.Point.{Point}
use Rattle.record.specs.Record.{Meaning}
use Rattle.record.specs.Runs.{Goes, Held}
use Rattle.record.specs.Bounds.{charge_at, IsWindow, draws}
use Rattle.rules.specs.Meanings.{Covering}
use Rattle.explore.specs.declared.answers.Ending.{Ending}
use Rattle.explore.specs.declared.exploration.Exploration.{Exploration}
use Rattle.explore.specs.Memory.{Lent, Memory}
use Rattle.explore.specs.Calls.{cleared, used_points, Makes, Starts, Walks, Peaks, Windows}

-- the starts taken so far, each as the point that a call added and the start's number; a refused call takes none
abbrev pub with_start : ℕ → Result ℕ Refusal → List (ℕ × ℕ) → List (ℕ × ℕ)
with_start n (Ok p) taken = (p, n) ∷ taken
with_start n (Err e) taken = taken

-- The memory that a list of calls leads to from an exploration just made, with the starts taken. Calls come in any order and
-- number, some of them refused. Each walk has a rule of its own, of which nothing is known but that its merges cover both states.
-- Only these calls write the memory; the rows of a window may be any.
pub data History (d : Core) : Memory → List (ℕ × ℕ) → Type 0 where
  made : (place x : Exploration) (l : Lent) → Makes d l place x (Ok tt) → History d (cleared (record { exploration = x; lent = l })) []
  start : (m after : Memory) (taken : List (ℕ × ℕ)) (n : ℕ) (answer : Result ℕ Refusal) →
      History d m taken → Starts d n m after answer → History d after (with_start n answer taken)
  walk : (m after : Memory) (taken : List (ℕ × ℕ)) (rule : Meaning Tri) (budget : ℕ) (answer : ℕ × Ending) →
      History d m taken → Covering rule → Walks d rule budget m after answer → History d after taken
  peak : (m after : Memory) (taken : List (ℕ × ℕ)) (answer : Result ℕ Refusal) →
      History d m taken → Peaks d m after answer → History d after taken
  window : (m after : Memory) (taken : List (ℕ × ℕ)) (w : ℕ) (row other row_after other_after : List ℕ) (answer : Result ℕ Refusal) →
      History d m taken → Windows d w m row other after row_after other_after answer → History d after taken

-- A run in bits from a taken start: it begins in a state that the start's state covers.
pub record RunsFrom (d : Core) (n : ℕ) (c : List Bit) (rest : List (List Bit)) : Type 0 where
  pub covered : Cover tri_kind bit_kind (start_state tri_kind d n) c
  pub goes : Goes bit_kind d (c ∷ rest)

-- the largest charge: no point has a larger one, and some point has it, or it is 0
pub record IsPeak (ps : List Point) (x : ℕ) : Type 0 where
  pub bounds : (q : ℕ) → q < length ps → charge_at ps q ≤ x
  pub met : (x ≡ 0) ⊎ ((q : ℕ) × (q < length ps) × (charge_at ps q ≡ x))

-- What holds of the memory after any list of calls.
pub record HoldsEveryRun (d : Core) (m : Memory) (taken : List (ℕ × ℕ)) : Type 0 where
  -- from every point of its start a path of recorded points holds the run, until it meets an open point
  pub no_run_escapes : (p n : ℕ) → Has taken (p, n) → (c : List Bit) (rest : List (List Bit)) → RunsFrom d n c rest →
      Held bit_kind d (used_points m) p (c ∷ rest)
  -- an answered peak is the largest charge recorded, and no cycle of any run draws more
  pub peak_bounds : (after : Memory) (x : ℕ) → Peaks d m after (Ok x) →
      IsPeak (used_points m) x
      × ((p n : ℕ) → Has taken (p, n) → (c : List Bit) (rest : List (List Bit)) → RunsFrom d n c rest →
      AllByRecursion (λ e. e ≤ x) (draws bit_kind d (c ∷ rest)))
  -- an answered window of w is the most that w steps of a recorded path or fewer draw, and no w successive cycles of any run, or
  -- fewer, draw more
  pub window_bounds : (w : ℕ) (row other : List ℕ) (after : Memory) (row_after other_after : List ℕ) (x : ℕ) →
      Windows d w m row other after row_after other_after (Ok x) →
      IsWindow (used_points m) w x
      × ((p n : ℕ) → Has taken (p, n) → (c : List Bit) (rest : List (List Bit)) → RunsFrom d n c rest →
      (i k : ℕ) → k ≤ w → sum (take k (drop i (draws bit_kind d (c ∷ rest)))) ≤ x)

-- no run escapes the record, whatever calls were made
abbrev pub NoRunEscapesTheRecord : Core → Memory → Type 0
NoRunEscapesTheRecord d m = (taken : List (ℕ × ℕ)) → History d m taken → HoldsEveryRun d m taken
