-- Which answers the meanings of the named merge rules allow. Assumes nothing.
use Rattle.std.specs.Prelude.{◌≡◌, ℕ, Bool, true, List, Decides}
use Rattle.levels.specs.Kinds.{Cover}
use Rattle.levels.specs.Tris.{tri_kind}
use Rattle.levels.specs.declared.Tri.{Tri}
use Rattle.record.specs.Record.{Meaning}
use Rattle.rules.specs.Merges.{plain_merge, eager_merge, whole_words}
use Rattle.rules.specs.Meanings.{plain_meaning, eager_meaning, whole_meaning}

-- just one answer to each question, whatever the key and the count
abbrev pub Just : Meaning Tri → (Bool → Bool) → (ℕ → List Tri → List Tri → List Tri) → Type 0
Just m watch merge =
    ((key count : ℕ) (marked answer : Bool) → Decides (m.watches key count marked answer) (answer ≡ watch marked))
    × ((kept new result : List Tri) (nets count : ℕ) → Decides (m.merges kept new nets count result) (result ≡ merge nets kept new))

abbrev pub PlainExact : Type 0
PlainExact = Just plain_meaning (λ marked. marked) (λ nets. plain_merge)

abbrev pub EagerExact : Type 0
EagerExact = Just eager_meaning (λ marked. true) eager_merge

-- the watches that a rule allows, and the whole words of the merges that it allows
abbrev pub WholeExact : Meaning Tri → Type 0
WholeExact m =
    ((key count : ℕ) (marked answer : Bool) → (whole_meaning m).watches key count marked answer ≡ m.watches key count marked answer)
    × ((kept new result : List Tri) (nets count : ℕ) → Decides ((whole_meaning m).merges kept new nets count result)
    ((s : List Tri) × (m.merges kept new nets count s ≡ true) × (result ≡ whole_words nets s)))

abbrev pub PlainLeast : Type 0
PlainLeast =
    (kept new s : List Tri) → Cover tri_kind tri_kind s kept → Cover tri_kind tri_kind s new → Cover tri_kind tri_kind s (plain_merge kept new)
