-- A state that allows more still does after a cycle, and draws no less. Assumes nothing.
use Rattle.std.specs.Prelude.{◌≡◌, ℕ, ◌≤◌, Bool, true, List}
use Rattle.levels.specs.Kinds.{Kind, Covers, Cover}
use Rattle.model.specs.Core.{Core}
use Rattle.model.specs.Cycle.{edge, given_by, settled, cycled, start_state}
use Rattle.model.specs.Energy.{charge}

module _ {V W : Type 0} (k : Kind V) (j : Kind W) where
  -- the inputs of the one cover those of the other
  abbrev pub InputsCover : (ℕ → V) → (ℕ → W) → Type 0
  InputsCover given real = (i : ℕ) → Covers k j (given i) (real i)

  -- Where the state of the one kind covers that of the other place by place, it still does a step on, and the step draws no less.
  pub record Monotone (d : Core) : Type 0 where
    pub of_start : (n : ℕ) → Cover k j (start_state k d n) (start_state j d n)
    pub of_inputs : (line : List V) (real : List W) → Cover k j line real → InputsCover (given_by k d line) (given_by j d real)
    pub of_edge : (s : List V) (c : List W) (given : ℕ → V) (real : ℕ → W) → Cover k j s c → InputsCover given real →
        Cover k j (edge k d s given) (edge j d c real)
    pub of_settled : (s : List V) (c : List W) → Cover k j s c → Cover k j (settled k d s) (settled j d c)
    pub of_cycle : (s : List V) (c : List W) (given : ℕ → V) (real : ℕ → W) → Cover k j s c → InputsCover given real →
        Cover k j (cycled k d s given) (cycled j d c real)
    pub of_charge : (s t : List V) (c e : List W) → Cover k j s c → Cover k j t e → charge j d c e ≤ charge k d s t

  -- where a place never written may be either bit
  abbrev pub StepsAreMonotone : Type 0
  StepsAreMonotone = ((b : Bool) → k.allows k.blank b ≡ true) → (d : Core) → Monotone d
