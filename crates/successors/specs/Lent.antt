-- The pilots and the memory that the calls are lent. Assumes nothing.
use Rattle.std.specs.Prelude.{◌≡◌, ℕ, ◌<◌, List, length, slice_index}
use Rattle.model.specs.Core.{Core, places}

-- each pilot names a place of the state
abbrev pub Within : {V : Type 0} → List ℕ → List V → Type 0
Within pilots state = (i : ℕ) → i < length pilots → slice_index pilots i < length state

-- three whole states: the one that the step leaves, the one after the edge, and the successor
pub record SuccessorMemory {V : Type 0} (d : Core) (state next slot : List V) : Type 0 where
  pub state_whole : length state ≡ places d
  pub next_whole : length next ≡ places d
  pub slot_whole : length slot ≡ places d
