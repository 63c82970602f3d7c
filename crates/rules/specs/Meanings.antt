-- The answers that each named merge rule may give. Assumes nothing.
use Rattle.std.specs.Prelude.{◌≡◌, ℕ, Bool, true, false, ◌&&◌, ◌||◌, List, [], ◌∷◌, length}
use Rattle.levels.specs.Kinds.{same, Cover}
use Rattle.levels.specs.Tris.{tri_kind}
use Rattle.levels.specs.declared.Tri.{Tri}
use Rattle.levels.specs.declared.Tri.TheVariants.{Zero, One, X}
use Rattle.record.specs.Record.{Meaning}
use Rattle.rules.specs.Merges.{same_level, plain_merge, eager_merge, whole_words}

-- Each merge that a meaning allows covers both states, place by place.
abbrev pub Covering : Meaning Tri → Type 0
Covering m =
    (kept new result : List Tri) (nets count : ℕ) → length kept ≡ length new → m.merges kept new nets count result ≡ true →
    Cover tri_kind tri_kind result kept × Cover tri_kind tri_kind result new

abbrev pub same_state : List Tri → List Tri → Bool
same_state [] [] = true
same_state [] (w ∷ ws) = false
same_state (v ∷ vs) [] = false
same_state (v ∷ vs) (w ∷ ws) = same_level v w && same_state vs ws

-- whether some state as long as this one passes a test
abbrev pub some_state : List Tri → (List Tri → Bool) → Bool
some_state [] test = test []
some_state (v ∷ vs) test =
    some_state vs (λ s. test (Zero ∷ s)) || some_state vs (λ s. test (One ∷ s)) || some_state vs (λ s. test (X ∷ s))

-- watches marked points
abbrev pub plain_meaning : Meaning Tri
plain_meaning = record {
  watches = λ key count marked answer. same marked answer;
  merges = λ kept new nets count result. same_state (plain_merge kept new) result;
}

-- watches every point
abbrev pub eager_meaning : Meaning Tri
eager_meaning = record {
  watches = λ key count marked answer. answer;
  merges = λ kept new nets count result. same_state (eager_merge nets kept new) result;
}

-- Over a rule: watches as that rule does, and of a merge that it may give makes whole words. Whole words are as long as
-- what they are made of, so all states of the result's length are all that could have been given.
abbrev pub whole_meaning : Meaning Tri → Meaning Tri
whole_meaning m = record {
  watches = m.watches;
  merges = λ kept new nets count result.
      some_state result (λ s. m.merges kept new nets count s && same_state (whole_words nets s) result);
}
