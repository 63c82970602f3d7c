-- What a cycle is lent and what it answers. Assumes nothing.
use Rattle.std.specs.Prelude.{◌≡◌, ℕ, ◌+◌, ◌≤◌, List, length, Result, MatchResult}
use Rattle.bundle.specs.declared.refusal.Refusal.{Refusal}
use Rattle.levels.specs.Kinds.{Kind}
use Rattle.model.specs.Core.{Core, places}
use Rattle.model.specs.Cycle.{cycled, given_by}
use Rattle.model.specs.Energy.{charge}
use Rattle.engine.specs.Refusals.{wrong_memory}

-- a whole state, and scratch for the next one and the leaves of the largest memory that a core may have
pub record CycleMemory {V : Type 0} (d : Core) (state scratch : List V) : Type 0 where
  pub state_whole : length state ≡ places d
  pub room : places d + 1024 ≤ length scratch

-- The state before becomes the state after: one cycle on with these inputs, at the step's charge, or refused and as it was.
abbrev pub Cycles : {V : Type 0} → Kind V → Core → List V → List V → List V → List V → Result ℕ Refusal → Type 0
Cycles k d line scratch before after result =
    MatchResult result
    (λ energy. CycleMemory d before scratch × (after ≡ cycled k d before (given_by k d line)) × (energy ≡ charge k d before after))
    (λ refusal. (CycleMemory d before scratch → ⊥) × (refusal ≡ wrong_memory) × (after ≡ before))
