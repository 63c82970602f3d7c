-- The keys that unknown pilots are split into. Assumes nothing.
use Rattle.std.proofs.Common.{◌≡◌, ℕ, zero, suc, ◌+◌, ◌*◌, ◌/◌, ◌%◌, ◌^◌, ◌<◌, Bool, true, false, cond, ◌&&◌, ◌||◌, eqb, List, [], ◌∷◌, length, get_or, sym, refl, ap, ◌∙◌, subst, ⊎_elim, pow-suc, arith}
use Rattle.std.specs.List.{ContainsAt as Has}
use Rattle.std.proofs.lemmas.List.FromFn.{length-map-range_with_len, get_or-map-range_with_len}
use Rattle.std.proofs.lemmas.Bool.{and_parts, and_from, or_cases, both_ways, eq-eqb, ne_eqb, eqb-true, eqb-false, cond-true, cond-false, cases_lt}
use Rattle.levels.specs.Kinds.{Kind, bit_at}
use Rattle.levels.specs.Words.{bit_low, bit_half}
use Rattle.model.specs.Cycle.{at}
use Rattle.record.specs.Record.{is_unknown, unknowns, choice_key, keys}
use Rattle.record.specs.Split.{AllowsKey, PilotsAreSplit}

-- ---- numbers and bits

pub low_bit : (b : Bool) (h : ℕ) → eqb ((cond b 1 0 + 2 * h) % 2) 1 ≡ b
low_bit true h = eq-eqb ((1 + 2 * h) % 2) 1 (omega arith)
low_bit false h = ne_eqb ((0 + 2 * h) % 2) 1 (omega arith)

pub high_bits : (b : Bool) (h : ℕ) → (cond b 1 0 + 2 * h) / 2 ≡ h
high_bits true h = omega arith
high_bits false h = omega arith

pub bit_value : (key : ℕ) → cond (eqb (key % 2) 1) 1 0 ≡ key % 2
bit_value key = go (eqb (key % 2) 1) refl
  where
    go : (b : Bool) → eqb (key % 2) 1 ≡ b → cond b 1 0 ≡ key % 2
    go true e = sym (eqb-true (key % 2) 1 e)
    go false e = let h : key % 2 ≡ 1 → ⊥ = eqb-false (key % 2) 1 e in omega arith

bit_small : (b : Bool) → cond b 1 0 < 2
bit_small true = omega arith
bit_small false = omega arith

-- of what a level allows, the bit read from it
pub own_bit : (g : Bool → Bool) → (g false || g true) ≡ true → g (g true) ≡ true
own_bit g some = go (g true) refl
  where
    go : (x : Bool) → g true ≡ x → g x ≡ true
    go true e = e
    go false e = ⊎_elim (λ h. h) (λ h. absurd (both_ways (g true) e h)) (or_cases (g false) (g true) some)

-- a level that may not be either bit allows just the bit read from it
pub only_bit : (g : Bool → Bool) (b : Bool) → (g false && g true) ≡ false → g b ≡ true → b ≡ g true
only_bit g true e h = sym h
only_bit g false e h = go (g true) refl
  where
    go : (x : Bool) → g true ≡ x → false ≡ g true
    go false f = sym f
    go true f = absurd (both_ways (g false && g true) e (and_from (g false) (g true) h f))

either_bit : (g : Bool → Bool) (b : Bool) → (g false && g true) ≡ true → g b ≡ true
either_bit g true e = (and_parts (g false) (g true) e).1
either_bit g false e = (and_parts (g false) (g true) e).0

module _ {V : Type 0} (k : Kind V) where
  -- ---- one choice and its key

  module _ (p : ℕ) (ps : List ℕ) (s : List V) where
    split_count : is_unknown k (at k s p) ≡ true → unknowns k (p ∷ ps) s ≡ 1 + unknowns k ps s
    split_count e = ap (λ (b : Bool). cond b 1 0 + unknowns k ps s) e

    known_count : is_unknown k (at k s p) ≡ false → unknowns k (p ∷ ps) s ≡ unknowns k ps s
    known_count e = ap (λ (b : Bool). cond b 1 0 + unknowns k ps s) e ∙ omega arith

    split_key : (j : ℕ) → is_unknown k (at k s p) ≡ true → choice_key k (p ∷ ps) s j ≡ j % 2 + 2 * choice_key k ps s (j / 2)
    split_key j e = cond-true (is_unknown k (at k s p)) _ _ e

    known_key : (j : ℕ) → is_unknown k (at k s p) ≡ false →
        choice_key k (p ∷ ps) s j ≡ cond (k.allows (at k s p) true) 1 0 + 2 * choice_key k ps s j
    known_key j e = cond-false (is_unknown k (at k s p)) _ _ e

  pub choice_small : (ps : List ℕ) (s : List V) (j : ℕ) → choice_key k ps s j < 2 ^ length ps
  choice_small [] s j = omega arith
  choice_small (p ∷ ps) s j = go (is_unknown k (at k s p)) refl (choice_small ps s (j / 2)) (choice_small ps s j)
    where
      go : (b : Bool) → is_unknown k (at k s p) ≡ b → choice_key k ps s (j / 2) < 2 ^ length ps → choice_key k ps s j < 2 ^ length ps →
          choice_key k (p ∷ ps) s j < 2 ^ length (p ∷ ps)
      go true e h g = omega (arith, pow-suc 2 (length ps), split_key p ps s j e)
      go false e h g =
          omega (arith, pow-suc 2 (length ps), known_key p ps s j e, bit_small (k.allows (at k s p) true))

  pub choice_ascends : (ps : List ℕ) (s : List V) (i j : ℕ) → i < j → j < 2 ^ unknowns k ps s → choice_key k ps s i < choice_key k ps s j
  choice_ascends [] s i j l h = absurd (omega arith)
  choice_ascends (p ∷ ps) s i j l h =
      go (is_unknown k (at k s p)) refl (choice_ascends ps s (i / 2) (j / 2)) (choice_ascends ps s i j l)
    where
      go : (b : Bool) → is_unknown k (at k s p) ≡ b →
          (i / 2 < j / 2 → j / 2 < 2 ^ unknowns k ps s → choice_key k ps s (i / 2) < choice_key k ps s (j / 2)) →
          (j < 2 ^ unknowns k ps s → choice_key k ps s i < choice_key k ps s j) →
          choice_key k (p ∷ ps) s i < choice_key k (p ∷ ps) s j
      go false e half on =
          let c : 2 ^ unknowns k (p ∷ ps) s ≡ 2 ^ unknowns k ps s = ap (λ (n : ℕ). 2 ^ n) (known_count p ps s e) in
          omega (arith, known_key p ps s i e, known_key p ps s j e, on (omega arith))
      go true e half on =
          let c : 2 ^ unknowns k (p ∷ ps) s ≡ 2 ^ suc (unknowns k ps s) = ap (λ (n : ℕ). 2 ^ n) (split_count p ps s e ∙ omega arith) in
          let t : 2 ^ suc (unknowns k ps s) ≡ 2 ^ unknowns k ps s * 2 = pow-suc 2 (unknowns k ps s) in
          let a : choice_key k (p ∷ ps) s i ≡ i % 2 + 2 * choice_key k ps s (i / 2) = split_key p ps s i e in
          let b : choice_key k (p ∷ ps) s j ≡ j % 2 + 2 * choice_key k ps s (j / 2) = split_key p ps s j e in
          ⊎_elim
          (λ m. omega (arith, half m (omega arith)))
          (λ m. let q : i / 2 ≡ j / 2 = omega arith in
          let r : choice_key k ps s (i / 2) ≡ choice_key k ps s (j / 2) = ap (choice_key k ps s) q in omega arith)
          (cases_lt (i / 2) (j / 2))

  -- ---- the bits that the pilots allow, pilot by pilot

  abbrev pub AllowsBits : List ℕ → ℕ → List V → Type 0
  AllowsBits [] key s = Unit {0}
  AllowsBits (p ∷ ps) key s = (k.allows (at k s p) (eqb (key % 2) 1) ≡ true) × AllowsBits ps (key / 2) s

  bits_allowed : (ps : List ℕ) (key : ℕ) (s : List V) → AllowsKey k ps s key → AllowsBits ps key s
  bits_allowed [] key s h = tt
  bits_allowed (p ∷ ps) key s h = (
    ap (k.allows (at k s p)) (sym (bit_low key)) ∙ h 0 (omega arith),
    bits_allowed ps (key / 2) s (λ i l. ap (k.allows (at k s (get_or ps i 0))) (sym (bit_half key i)) ∙ h (suc i) (omega arith)),
  )

  key_allowed : (ps : List ℕ) (key : ℕ) (s : List V) → AllowsBits ps key s → AllowsKey k ps s key
  key_allowed [] key s h i l = absurd (omega arith)
  key_allowed (p ∷ ps) key s h zero l = ap (k.allows (at k s p)) (bit_low key) ∙ h.0
  key_allowed (p ∷ ps) key s h (suc i) l =
      ap (k.allows (at k s (get_or ps i 0))) (bit_half key i) ∙ key_allowed ps (key / 2) s h.1 i (omega arith)

  module _ (some : (v : V) → (k.allows v false || k.allows v true) ≡ true) where
    pub choice_allowed : (ps : List ℕ) (s : List V) (j : ℕ) → AllowsBits ps (choice_key k ps s j) s
    choice_allowed [] s j = tt
    choice_allowed (p ∷ ps) s j = go (is_unknown k (at k s p)) refl (choice_allowed ps s (j / 2)) (choice_allowed ps s j)
      where
        at_key : (key : ℕ) (b : Bool) (h : ℕ) → key ≡ cond b 1 0 + 2 * h → k.allows (at k s p) b ≡ true → AllowsBits ps h s →
            AllowsBits (p ∷ ps) key s
        at_key key b h e ok on =
            subst (λ (x : ℕ). AllowsBits (p ∷ ps) x s) (sym e) (
              ap (k.allows (at k s p)) (low_bit b h) ∙ ok,
              subst (λ (x : ℕ). AllowsBits ps x s) (sym (high_bits b h)) on,
            )

        go : (b : Bool) → is_unknown k (at k s p) ≡ b → AllowsBits ps (choice_key k ps s (j / 2)) s → AllowsBits ps (choice_key k ps s j) s →
            AllowsBits (p ∷ ps) (choice_key k (p ∷ ps) s j) s
        go true e half on =
            at_key (choice_key k (p ∷ ps) s j) (eqb (j % 2) 1) (choice_key k ps s (j / 2))
            (omega (arith, split_key p ps s j e, bit_value j)) (either_bit (k.allows (at k s p)) (eqb (j % 2) 1) e) half
        go false e half on =
            at_key (choice_key k (p ∷ ps) s j) (k.allows (at k s p) true) (choice_key k ps s j)
            (known_key p ps s j e) (own_bit (k.allows (at k s p)) (some (at k s p))) on

  -- ---- every key that the pilots allow is that of a choice

  abbrev Chosen : List ℕ → List V → ℕ → Type 0
  Chosen ps s key = (j : ℕ) × (j < 2 ^ unknowns k ps s) × (choice_key k ps s j ≡ key)

  chosen : (ps : List ℕ) (s : List V) (key : ℕ) → key < 2 ^ length ps → AllowsBits ps key s → Chosen ps s key
  chosen [] s key small h = (0, omega arith, omega arith)
  chosen (p ∷ ps) s key small h =
      go (is_unknown k (at k s p)) refl (chosen ps s (key / 2) (omega (arith, pow-suc 2 (length ps))) h.1)
    where
      go : (b : Bool) → is_unknown k (at k s p) ≡ b → Chosen ps s (key / 2) → Chosen (p ∷ ps) s key
      go true e on =
          let c : 2 ^ unknowns k (p ∷ ps) s ≡ 2 ^ suc (unknowns k ps s) = ap (λ (n : ℕ). 2 ^ n) (split_count p ps s e ∙ omega arith) in
          let t : 2 ^ suc (unknowns k ps s) ≡ 2 ^ unknowns k ps s * 2 = pow-suc 2 (unknowns k ps s) in
          let j : ℕ = key % 2 + 2 * on.0 in
          let half : j / 2 ≡ on.0 = omega arith in
          let below : on.0 < 2 ^ unknowns k ps s = on.1 in
          let rest : choice_key k ps s (j / 2) ≡ key / 2 = ap (choice_key k ps s) half ∙ on.2 in
          (j, omega arith, split_key p ps s j e ∙ omega arith)
      go false e on =
          let c : 2 ^ unknowns k (p ∷ ps) s ≡ 2 ^ unknowns k ps s = ap (λ (n : ℕ). 2 ^ n) (known_count p ps s e) in
          let below : on.0 < 2 ^ unknowns k ps s = on.1 in
          let rest : choice_key k ps s on.0 ≡ key / 2 = on.2 in
          let own : cond (k.allows (at k s p) true) 1 0 ≡ key % 2 =
          ap (λ (b : Bool). cond b 1 0) (sym (only_bit (k.allows (at k s p)) (eqb (key % 2) 1) e h.0)) ∙ bit_value key in
          (on.0, omega arith, known_key p ps s on.0 e ∙ omega arith)

  -- ---- the list of keys

  pub length_keys : (ps : List ℕ) (s : List V) → length (keys k ps s) ≡ 2 ^ unknowns k ps s
  length_keys ps s = length-map-range_with_len (choice_key k ps s) 0 (2 ^ unknowns k ps s)

  pub getD_keys : (ps : List ℕ) (s : List V) (j e : ℕ) → j < 2 ^ unknowns k ps s → get_or (keys k ps s) j e ≡ choice_key k ps s j
  getD_keys ps s j e h = get_or-map-range_with_len (choice_key k ps s) 0 (2 ^ unknowns k ps s) j j e h (omega arith)

  pub keys_ascend : (ps : List ℕ) (s : List V) (i j : ℕ) → i < j → j < length (keys k ps s) →
      get_or (keys k ps s) i 0 < get_or (keys k ps s) j 0
  keys_ascend ps s i j l h =
      let below : j < 2 ^ unknowns k ps s = omega (arith, length_keys ps s) in
      omega (arith, getD_keys ps s i 0 (omega arith), getD_keys ps s j 0 below, choice_ascends ps s i j l below)

  pub key_small : (ps : List ℕ) (s : List V) (i : ℕ) → i < length (keys k ps s) → get_or (keys k ps s) i 0 < 2 ^ length ps
  key_small ps s i l = omega (arith, getD_keys ps s i 0 (omega (arith, length_keys ps s)), choice_small ps s i)

  key_found : (ps : List ℕ) (s : List V) (key : ℕ) → Has (keys k ps s) key → Chosen ps s key
  key_found ps s key m =
      let l : m.0 < 2 ^ unknowns k ps s = omega (arith, length_keys ps s, m.1) in
      (m.0, l, sym (getD_keys ps s m.0 0 l) ∙ m.2 0)

  pub has_key : (ps : List ℕ) (s : List V) (key : ℕ) → key < 2 ^ length ps → AllowsBits ps key s → Has (keys k ps s) key
  has_key ps s key small h =
      let j : Chosen ps s key = chosen ps s key small h in
      (j.0, omega (arith, length_keys ps s, j.1), λ e. getD_keys ps s j.0 e j.1 ∙ j.2)

  module _ (some : (v : V) → (k.allows v false || k.allows v true) ≡ true) where
    pub key_allows : (ps : List ℕ) (s : List V) (key : ℕ) → Has (keys k ps s) key → AllowsKey k ps s key
    key_allows ps s key m =
        let j : Chosen ps s key = key_found ps s key m in
        key_allowed ps key s (subst (λ (x : ℕ). AllowsBits ps x s) j.2 (choice_allowed some ps s j.0))

    -- a known pilot has its own bit in every key
    pub key_keeps : (ps : List ℕ) (s : List V) (key : ℕ) → Has (keys k ps s) key → (i : ℕ) → i < length ps →
        is_unknown k (at k s (get_or ps i 0)) ≡ false → bit_at key i ≡ k.allows (at k s (get_or ps i 0)) true
    key_keeps ps s key m i l e = only_bit (k.allows (at k s (get_or ps i 0))) (bit_at key i) e (key_allows ps s key m i l)

    pub pilots_are_split : PilotsAreSplit k (keys k)
    pilots_are_split ps s = record {
      count = length_keys ps s;
      ascending = keys_ascend ps s;
      allowed = λ key m.
          let j : Chosen ps s key = key_found ps s key m in
          (subst (λ (x : ℕ). x < 2 ^ length ps) j.2 (choice_small ps s j.0), key_allows ps s key m);
      all = λ key small h. has_key ps s key small (bits_allowed ps key s h);
    }
