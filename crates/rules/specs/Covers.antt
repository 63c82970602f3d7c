-- Each merge that a named rule allows covers both states. Assumes nothing.
use Rattle.std.specs.Prelude.{◌≡◌, ℕ, zero, suc, ◌<◌, Bool, true, false, cond, ◌&&◌, List, [], ◌∷◌, length, drop, replicate, nat_le, slice_index_or, refl}
use Rattle.std.proofs.Common.{sym, ap, ◌∙◌, subst, arith}
use Rattle.std.proofs.Math.Nat.{sub-zero, zero-sub, suc-sub-suc}
use Rattle.std.proofs.lemmas.Bool.{and_parts, and_from}
use Rattle.levels.specs.Kinds.{Covers, Cover}
use Rattle.levels.specs.Tris.{tri_kind}
use Rattle.levels.specs.declared.Tri.{Tri}
use Rattle.levels.specs.declared.Tri.TheVariants.{X}
use Rattle.record.specs.Record.{Meaning}
use Rattle.rules.specs.Merges.{same_level, joined_level, plain_merge, differ, unknown_from, eager_merge, has_unknown, word_of, whole_words}
use Rattle.rules.specs.Meanings.{Covering, same_state, plain_meaning, eager_meaning, whole_meaning}
use Rattle.rules.specs.States.{level_decides, state_eq, same_from_eq, some_found, some_from}
use Rattle.rules.specs.Places.{length_whole, whole_at}

abbrev pub CoversT : Tri → Tri → Type 0
CoversT = Covers tri_kind tri_kind

abbrev pub CoverT : List Tri → List Tri → Type 0
CoverT = Cover tri_kind tri_kind

pub cover_trans : (r s t : List Tri) → CoverT r s → CoverT s t → CoverT r t
cover_trans [] [] [] h g = tt
cover_trans [] [] (w ∷ ws) h g = absurd g
cover_trans [] (v ∷ vs) t h g = absurd h
cover_trans (u ∷ us) [] t h g = absurd h
cover_trans (u ∷ us) (v ∷ vs) [] h g = absurd g
cover_trans (u ∷ us) (v ∷ vs) (w ∷ ws) h g = ((λ b e. h.0 b (g.0 b e)), cover_trans us vs ws h.1 g.1)

-- a state covers another if it does so at every place
cover_from_places : (s t : List Tri) → length s ≡ length t → ((i : ℕ) → i < length t → CoversT (slice_index_or s i X) (slice_index_or t i X)) → CoverT s t
cover_from_places [] [] e h = tt
cover_from_places [] (w ∷ ws) e h = let z : ⊥ = omega arith in absurd z
cover_from_places (v ∷ vs) [] e h = let z : ⊥ = omega arith in absurd z
cover_from_places (v ∷ vs) (w ∷ ws) e h = (h 0 (omega arith), cover_from_places vs ws (omega arith) (λ i l. h (suc i) (omega arith)))

cond_covers : (b : Bool) (v : Tri) → CoversT (cond b X v) v
cond_covers true v c h = refl
cond_covers false v c h = h

-- ---- plain

joined_covers : (v w : Tri) → CoversT (joined_level v w) v × CoversT (joined_level v w) w
joined_covers v w = go (same_level v w) refl
  where
    go : (b : Bool) → same_level v w ≡ b → CoversT (cond b w X) v × CoversT (cond b w X) w
    go true e = let f : v ≡ w = (level_decides v w).0 e in (subst (λ (u : Tri). CoversT u v) f (λ b h. h), λ b h. h)
    go false e = (λ b h. refl, λ b h. refl)

plain_covers : (kept new : List Tri) → length kept ≡ length new → CoverT (plain_merge kept new) kept × CoverT (plain_merge kept new) new
plain_covers [] [] e = (tt, tt)
plain_covers [] (w ∷ ws) e = let z : ⊥ = omega arith in absurd z
plain_covers (v ∷ vs) [] e = let z : ⊥ = omega arith in absurd z
plain_covers (v ∷ vs) (w ∷ ws) e =
    let j = joined_covers v w in
    let p = plain_covers vs ws (omega arith) in
    ((j.0, p.0), (j.1, p.1))

pub plain_covering : Covering plain_meaning
plain_covering kept new result nets count e h = rw (← state_eq (plain_merge kept new) result h) (plain_covers kept new e)

-- ---- eager

all_unknown : (s : List Tri) → CoverT (replicate (length s) X) s
all_unknown [] = tt
all_unknown (v ∷ vs) = (λ b h. refl, all_unknown vs)

self_covers : (s : List Tri) → CoverT s s
self_covers [] = tt
self_covers (v ∷ vs) = (λ b h. h, self_covers vs)

unknown_covers : (nets : ℕ) (s : List Tri) → CoverT (unknown_from nets s) s
unknown_covers zero s = rw sub-zero (all_unknown s)
unknown_covers (suc n) [] = rw zero-sub tt
unknown_covers (suc n) (v ∷ vs) = rw suc-sub-suc (λ b h. h, unknown_covers n vs)

-- what covers a merge covers both states
over : (r s kept new : List Tri) → CoverT r s → CoverT s kept × CoverT s new → CoverT r kept × CoverT r new
over r s kept new h g = (cover_trans r s kept h g.0, cover_trans r s new h g.1)

eager_raises : (nets : ℕ) (kept new : List Tri) → CoverT (eager_merge nets kept new) (plain_merge kept new)
eager_raises nets kept new = go (differ (drop nets kept) (drop nets new))
  where
    go : (b : Bool) → CoverT (cond b (unknown_from nets (plain_merge kept new)) (plain_merge kept new)) (plain_merge kept new)
    go true = unknown_covers nets (plain_merge kept new)
    go false = self_covers (plain_merge kept new)

pub eager_covering : Covering eager_meaning
eager_covering kept new result nets count e h =
    rw (← state_eq (eager_merge nets kept new) result h)
    (over (eager_merge nets kept new) (plain_merge kept new) kept new (eager_raises nets kept new) (plain_covers kept new e))

-- ---- whole words

whole_covers : (nets : ℕ) (s : List Tri) → CoverT (whole_words nets s) s
whole_covers nets s =
    cover_from_places (whole_words nets s) s (length_whole nets s)
    (λ i l. rw (whole_at nets s i l) (cond_covers (nat_le nets i && has_unknown (word_of nets s i)) (slice_index_or s i X)))

-- what the whole words of a rule allow: the whole words of what the rule allows
pub whole_found : (m : Meaning Tri) (kept new result : List Tri) (nets count : ℕ) → (whole_meaning m).merges kept new nets count result ≡ true →
    (s : List Tri) × (m.merges kept new nets count s ≡ true) × (result ≡ whole_words nets s)
whole_found m kept new result nets count h =
    let f = some_found result (λ s. m.merges kept new nets count s && same_state (whole_words nets s) result) h in
    let p = and_parts (m.merges kept new nets count f.0) (same_state (whole_words nets f.0) result) f.2 in
    (f.0, p.0, sym (state_eq (whole_words nets f.0) result p.1))

pub whole_from : (m : Meaning Tri) (kept new s result : List Tri) (nets count : ℕ) → m.merges kept new nets count s ≡ true →
    result ≡ whole_words nets s → (whole_meaning m).merges kept new nets count result ≡ true
whole_from m kept new s result nets count h e =
    some_from result s (λ t. m.merges kept new nets count t && same_state (whole_words nets t) result)
    (sym (length_whole nets s) ∙ ap length (sym e))
    (and_from (m.merges kept new nets count s) (same_state (whole_words nets s) result) h (same_from_eq (whole_words nets s) result e))

pub whole_covering : (m : Meaning Tri) → Covering m → Covering (whole_meaning m)
whole_covering m covers kept new result nets count e h =
    let f = whole_found m kept new result nets count h in
    rw f.2 (over (whole_words nets f.0) f.0 kept new (whole_covers nets f.0) (covers kept new f.0 nets count e f.1))
