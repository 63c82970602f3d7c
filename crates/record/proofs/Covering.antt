-- One state that covers another. Assumes nothing.
use Rattle.std.proofs.Common.{◌≡◌, ℕ, zero, suc, Bool, true, false, not, ◌||◌, List, [], ◌∷◌, set, Decides, refl, subst, ⊎_elim}
use Rattle.std.proofs.lemmas.Bool.{and_parts, and_from, or_cases, both_ways, not-true}
use Rattle.levels.specs.Kinds.{Kind, Covers, Cover}
use Rattle.model.specs.Cycle.{at}
use Rattle.record.specs.Record.{covers, covers_all}

pub covers_trans : {U V W : Type 0} (h : Kind U) (k : Kind V) (j : Kind W) (r : List U) (s : List V) (c : List W) →
    Cover h k r s → Cover k j s c → Cover h j r c
covers_trans h k j [] [] [] p q = tt
covers_trans h k j [] [] (z ∷ zs) p q = absurd q
covers_trans h k j [] (y ∷ ys) c p q = absurd p
covers_trans h k j (x ∷ xs) [] c p q = absurd p
covers_trans h k j (x ∷ xs) (y ∷ ys) [] p q = absurd q
covers_trans h k j (x ∷ xs) (y ∷ ys) (z ∷ zs) p q = (λ b e. p.0 b (q.0 b e), covers_trans h k j xs ys zs p.1 q.1)

-- a store on the left alone
pub covers_put : {V W : Type 0} (k : Kind V) (j : Kind W) (s : List V) (c : List W) (i : ℕ) (v : V) →
    Cover k j s c → Covers k j v (at j c i) → Cover k j (set s i v) c
covers_put k j [] [] i v h e = tt
covers_put k j [] (y ∷ ys) i v h e = absurd h
covers_put k j (x ∷ xs) [] i v h e = absurd h
covers_put k j (x ∷ xs) (y ∷ ys) zero v h e = (e, h.1)
covers_put k j (x ∷ xs) (y ∷ ys) (suc i) v h e = (h.0, covers_put k j xs ys i v h.1 e)

-- ---- the test of states of one kind

implied : (x y : Bool) → (not x || y) ≡ true → x ≡ true → y ≡ true
implied x y e h = ⊎_elim (λ n. absurd (both_ways x (not-true x n) h)) (λ f. f) (or_cases (not x) y e)

implies : (x y : Bool) → (x ≡ true → y ≡ true) → (not x || y) ≡ true
implies true y h = h refl
implies false y h = refl

module _ {V : Type 0} (k : Kind V) where
  pub covers_same : (s t : List V) → s ≡ t → Cover k k s t
  covers_same s t e = subst (λ (x : List V). Cover k k s x) e (itself s)
    where
      itself : (s : List V) → Cover k k s s
      itself [] = tt
      itself (v ∷ vs) = (λ b e. e, itself vs)

  one_covers : (v w : V) → covers k v w ≡ true → Covers k k v w
  one_covers v w e true h =
      implied (k.allows w true) (k.allows v true) (and_parts (not (k.allows w false) || k.allows v false) _ e).1 h
  one_covers v w e false h =
      implied (k.allows w false) (k.allows v false) (and_parts _ (not (k.allows w true) || k.allows v true) e).0 h

  one_tested : (v w : V) → Covers k k v w → covers k v w ≡ true
  one_tested v w h =
      and_from (not (k.allows w false) || k.allows v false) (not (k.allows w true) || k.allows v true)
      (implies (k.allows w false) (k.allows v false) (h false)) (implies (k.allows w true) (k.allows v true) (h true))

  pub cover_tested : (s t : List V) → Cover k k s t → covers_all k s t ≡ true
  cover_tested [] [] h = refl
  cover_tested [] (w ∷ ws) h = absurd h
  cover_tested (v ∷ vs) [] h = absurd h
  cover_tested (v ∷ vs) (w ∷ ws) h = and_from (covers k v w) (covers_all k vs ws) (one_tested v w h.0) (cover_tested vs ws h.1)

  pub cover_from_test : (s t : List V) → covers_all k s t ≡ true → Cover k k s t
  cover_from_test [] [] e = tt
  cover_from_test [] (w ∷ ws) e = absurd (both_ways false refl e)
  cover_from_test (v ∷ vs) [] e = absurd (both_ways false refl e)
  cover_from_test (v ∷ vs) (w ∷ ws) e =
      let h = and_parts (covers k v w) (covers_all k vs ws) e in (one_covers v w h.0, cover_from_test vs ws h.1)

  pub covers_decides : (s t : List V) → Decides (covers_all k s t) (Cover k k s t)
  covers_decides s t = (cover_from_test s t, cover_tested s t)
