-- Tests that every element of a list passes.
use Rattle.std.proofs.Common.{◌≡◌, ℕ, zero, suc, ◌+◌, ◌<◌, ◌≤◌, Bool, true, false, not, eqb, ◌⊎◌, List, [], ◌∷◌, map, length, get_or, take, drop, sym, refl, ap, ◌∙◌, inl, inr, arith}
use Rattle.std.specs.List.{range_with_len}
use Rattle.std.proofs.lemmas.Bool.{and_parts, and_from, or_parts, or_from, or_left, or_right, not_from_false, eqb-false, eq-eqb, ne_eqb, cases_eq}
use Rattle.model.specs.Core.{every, among, distinct, all_below}

module _ {A : Type 0} (f : A → Bool) where
  pub every_from : (d : A) (xs : List A) → ((k : ℕ) → k < length xs → f (get_or xs k d) ≡ true) → every f xs ≡ true
  every_from d [] h = refl
  every_from d (x ∷ xs) h =
      and_from (f x) (every f xs) (h 0 (omega arith)) (every_from d xs (λ k l. h (suc k) (omega arith)))

  pub every_take : (n : ℕ) (xs : List A) → every f xs ≡ true → every f (take n xs) ≡ true
  every_take zero xs h = refl
  every_take (suc n) [] h = refl
  every_take (suc n) (x ∷ xs) h = let t = and_parts (f x) (every f xs) h in and_from (f x) (every f (take n xs)) t.0 (every_take n xs t.1)

  pub every_drop : (n : ℕ) (xs : List A) → every f xs ≡ true → every f (drop n xs) ≡ true
  every_drop zero xs h = h
  every_drop (suc n) [] h = refl
  every_drop (suc n) (x ∷ xs) h = every_drop n xs (and_parts (f x) (every f xs) h).1

  pub every_weaker : (g : A → Bool) → ((x : A) → f x ≡ true → g x ≡ true) → (xs : List A) → every f xs ≡ true → every g xs ≡ true
  every_weaker g w [] h = refl
  every_weaker g w (x ∷ xs) h = let t = and_parts (f x) (every f xs) h in and_from (g x) (every g xs) (w x t.0) (every_weaker g w xs t.1)

-- over numbers that are counted up
pub every_counted : (f : ℕ → Bool) (a n : ℕ) → ((k : ℕ) → a ≤ k → k < a + n → f k ≡ true) → every f (range_with_len a n) ≡ true
every_counted f a zero h = refl
every_counted f a (suc n) h =
    and_from (f a) (every f (range_with_len (a + 1) n)) (h a (omega arith) (omega arith)) (every_counted f (a + 1) n (λ k l m. h k (omega arith) (omega arith)))

pub all_below_from : (n : ℕ) (f : ℕ → Bool) → ((k : ℕ) → k < n → f k ≡ true) → all_below n f ≡ true
all_below_from n f h = every_counted f 0 n (λ k l m. h k (omega arith))

-- ---- numbers of a list

pub among_map : (f : ℕ → ℕ) (xs : List ℕ) (k : ℕ) → k < length xs → among (f (get_or xs k 0)) (map f xs) ≡ true
among_map f [] k l = absurd (omega arith)
among_map f (x ∷ xs) zero l = or_left (eqb (f x) (f x)) (among (f x) (map f xs)) (eq-eqb (f x) (f x) refl)
among_map f (x ∷ xs) (suc k) l = or_right (eqb (f (get_or xs k 0)) (f x)) (among (f (get_or xs k 0)) (map f xs)) (among_map f xs k (omega arith))

module _ (f : ℕ → ℕ) where
  pub not_among : (p a n : ℕ) → among p (map f (range_with_len a n)) ≡ false → (i : ℕ) → a ≤ i → i < a + n → p ≡ f i → ⊥
  not_among p a zero h i l m e = omega arith
  not_among p a (suc n) h i l m e = go (not_among p (a + 1) n) (cases_eq a i)
    where
      t : (eqb p (f a) ≡ false) × (among p (map f (range_with_len (a + 1) n)) ≡ false)
      t = or_parts (eqb p (f a)) (among p (map f (range_with_len (a + 1) n))) h

      go : (among p (map f (range_with_len (a + 1) n)) ≡ false → (i : ℕ) → a + 1 ≤ i → i < a + 1 + n → p ≡ f i → ⊥) → ((a ≡ i) ⊎ (a ≡ i → ⊥)) → ⊥
      go more (inl q) = eqb-false p (f a) t.0 (e ∙ ap f (sym q))
      go more (inr q) = more t.1 i (omega (arith, q)) (omega arith) e

  pub none_among : (p a n : ℕ) → ((i : ℕ) → a ≤ i → i < a + n → p ≡ f i → ⊥) → among p (map f (range_with_len a n)) ≡ false
  none_among p a zero h = refl
  none_among p a (suc n) h =
      or_from (eqb p (f a)) (among p (map f (range_with_len (a + 1) n))) (ne_eqb p (f a) (h a (omega arith) (omega arith)))
      (none_among p (a + 1) n (λ i l m. h i (omega arith) (omega arith)))

  pub distinct_from : (a n : ℕ) → ((i j : ℕ) → a ≤ i → i < j → j < a + n → f i ≡ f j → ⊥) → distinct (map f (range_with_len a n)) ≡ true
  distinct_from a zero h = refl
  distinct_from a (suc n) h =
      and_from (not (among (f a) (map f (range_with_len (a + 1) n)))) (distinct (map f (range_with_len (a + 1) n)))
      (not_from_false _ (none_among (f a) (a + 1) n (λ i l m e. h a i (omega arith) (omega arith) (omega arith) e)))
      (distinct_from (a + 1) n (λ i j l m q e. h i j (omega arith) (omega arith) (omega arith) e))
