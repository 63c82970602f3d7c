-- The meanings of the named merge rules allow just what is said of them. Assumes nothing.
use Rattle.std.proofs.Common.{◌≡◌, Bool, true, false, cond, ◌⊎◌, List, [], ◌∷◌, Decides, sym, refl, ap, ◌∙◌, inl, inr, ⊎_elim}
use Rattle.std.proofs.lemmas.Bool.{true≢false}
use Rattle.levels.specs.Kinds.{same}
use Rattle.levels.specs.Tris.{tri_allows}
use Rattle.levels.specs.declared.Tri.{Tri}
use Rattle.levels.specs.declared.Tri.TheVariants.{Zero, One, X}
use Rattle.levels.specs.Words.{same_eq}
use Rattle.record.specs.Record.{Meaning}
use Rattle.rules.specs.Merges.{same_level, joined_level, plain_merge, eager_merge}
use Rattle.rules.specs.Meanings.{same_state}
use Rattle.rules.specs.Exact.{PlainExact, EagerExact, WholeExact, PlainLeast}
use Rattle.rules.specs.States.{state_eq, same_from_eq}
use Rattle.rules.specs.Covers.{CoversT, whole_found, whole_from}

bits_same : (b : Bool) → same b b ≡ true
bits_same true = refl
bits_same false = refl

bit_decides : (b c : Bool) → Decides (same b c) (c ≡ b)
bit_decides b c = (λ h. sym (same_eq b c h), λ e. ap (same b) e ∙ bits_same b)

state_decides : (s t : List Tri) → Decides (same_state s t) (t ≡ s)
state_decides s t = (λ h. sym (state_eq s t h), same_from_eq s t)

pub plain_exact : PlainExact
plain_exact = (λ key count marked answer. bit_decides marked answer, λ kept new result nets count. state_decides (plain_merge kept new) result)

pub eager_exact : EagerExact
eager_exact = (λ key count marked answer. (λ h. h, λ h. h), λ kept new result nets count. state_decides (eager_merge nets kept new) result)

pub whole_exact : (m : Meaning Tri) → WholeExact m
whole_exact m = (
  λ key count marked answer. refl,
  λ kept new result nets count. (whole_found m kept new result nets count, λ f. whole_from m kept new f.0 result nets count f.1 f.2),
)

-- two levels that differ allow both bits between them
either : (v w : Tri) → same_level v w ≡ false → (b : Bool) → (tri_allows v b ≡ true) ⊎ (tri_allows w b ≡ true)
either X w h b = inl refl
either Zero X h b = inr refl
either One X h b = inr refl
either Zero One h true = inr refl
either Zero One h false = inl refl
either One Zero h true = inl refl
either One Zero h false = inr refl
either Zero Zero h b = absurd (true≢false h)
either One One h b = absurd (true≢false h)

joined_least : (u v w : Tri) → CoversT u v → CoversT u w → CoversT u (joined_level v w)
joined_least u v w h g = go (same_level v w) refl
  where
    go : (t : Bool) → same_level v w ≡ t → CoversT u (cond t w X)
    go true e b a = g b a
    go false e b a = ⊎_elim (h b) (g b) (either v w e b)

pub plain_least : PlainLeast
plain_least kept [] s h g = g
plain_least [] (w ∷ ws) s h g = g
plain_least (v ∷ vs) (w ∷ ws) [] h g = absurd h
plain_least (v ∷ vs) (w ∷ ws) (u ∷ us) h g = (joined_least u v w h.0 g.0, plain_least vs ws us h.1 g.1)
