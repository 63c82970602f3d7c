-- The keys that unknown pilots are split into. Assumes nothing.
use Rattle.std.specs.Prelude.{◌≡◌, ℕ, ◌^◌, ◌<◌, true, List, length, slice_index}
use Rattle.std.specs.List.{ContainsAt as Has}
use Rattle.levels.specs.Kinds.{Kind, bit_at}
use Rattle.model.specs.Cycle.{at}
use Rattle.record.specs.Record.{unknowns}

module _ {V : Type 0} (k : Kind V) where
  -- every pilot may be its bit of the key
  abbrev pub AllowsKey : List ℕ → List V → ℕ → Type 0
  AllowsKey ps s key = (i : ℕ) → i < length ps → k.allows (at k s (slice_index ps i)) (bit_at key i) ≡ true

  -- the keys are ascending, and they are just those that the pilots allow
  pub record Splits (ps : List ℕ) (s : List V) (keys : List ℕ) : Type 0 where
    pub count : length keys ≡ 2 ^ unknowns k ps s
    pub ascending : (i j : ℕ) → i < j → j < length keys → slice_index keys i < slice_index keys j
    pub allowed : (key : ℕ) → Has keys key → (key < 2 ^ length ps) × AllowsKey ps s key
    pub all : (key : ℕ) → key < 2 ^ length ps → AllowsKey ps s key → Has keys key

  abbrev pub PilotsAreSplit : (List ℕ → List V → List ℕ) → Type 0
  PilotsAreSplit keys = (ps : List ℕ) (s : List V) → Splits ps s (keys ps s)
