-- The laws of the levels that may be either bit. Assumes nothing.
use Rattle.std.specs.Prelude.{◌≡◌, ℕ, ◌-◌, ◌<◌, Bool, true, false, cond, not, ◌&&◌, ◌||◌, List, [], ◌∷◌, map, ◌==◌, refl}
use Rattle.std.proofs.Common.{sym, ◌∙◌, ap, ap₂, arith}
use Rattle.std.specs.Int.Bits.{bit_and}
use Rattle.std.proofs.lemmas.Nat.{and_le_l}
use Rattle.levels.specs.Kinds.{bit_at, same, gives, Lawful}
use Rattle.levels.specs.Tris.{tri_kind, tri_allows, tri_of, tri_bit, tri_apply}
use Rattle.levels.specs.declared.Tri.{Tri}
use Rattle.levels.specs.declared.Tri.TheVariants.{Zero, One, X}
use Rattle.levels.specs.Words.{bit_and_lem, bit_not, every, every_at, same_eq}
use Rattle.levels.specs.Cells.{gives_some, gives_rows}

tri_of_exact : (z o b : Bool) → (z || o) ≡ true → tri_allows (tri_of z o) b ≡ cond b o z
tri_of_exact true true true h = refl
tri_of_exact true true false h = refl
tri_of_exact true false true h = refl
tri_of_exact true false false h = refl
tri_of_exact false true true h = refl
tri_of_exact false true false h = refl
tri_of_exact false false true h = sym h
tri_of_exact false false false h = sym h

tri_some : (v : Tri) → (tri_allows v false || tri_allows v true) ≡ true
tri_some Zero = refl
tri_some One = refl
tri_some X = refl

tri_exact_bit : (b c : Bool) → tri_allows (tri_bit b) c ≡ same b c
tri_exact_bit true c = refl
tri_exact_bit false c = refl

tri_exact_cell : (t : ℕ) (pins : List Tri) (b : Bool) → tri_allows (tri_apply t pins) b ≡ gives t 0 1 (map tri_allows pins) b
tri_exact_cell t pins true = tri_of_exact _ _ true (gives_some tri_allows tri_some t 0 1 pins)
tri_exact_cell t pins false = tri_of_exact _ _ false (gives_some tri_allows tri_some t 0 1 pins)

pub tri_lawful : Lawful tri_kind
tri_lawful = record { some = tri_some; exact_bit = tri_exact_bit; exact_cell = tri_exact_cell }

-- ---- a cell by a word of its rows

same_false : (x : Bool) → same x false ≡ not x
same_false true = refl
same_false false = refl

same_true : (x : Bool) → same x true ≡ x
same_true true = refl
same_true false = refl

pub ones_at : (i : ℕ) → i < 16 → bit_at 65535 i ≡ true
ones_at = every_at (bit_at 65535) 16 refl

-- a truth word and its complement
word_one : (t i : ℕ) → bit_at t i ≡ same (bit_at t i) true
word_one t i = sym (same_true (bit_at t i))

pub word_not : (t : ℕ) → t < 65536 → (i : ℕ) → i < 16 → bit_at (65535 - t) i ≡ not (bit_at t i)
word_not t h i lt = bit_not 16 t (65535 - t) i (omega arith) lt

word_zero : (t : ℕ) → t < 65536 → (i : ℕ) → i < 16 → bit_at (65535 - t) i ≡ same (bit_at t i) false
word_zero t h i lt = word_not t h i lt ∙ sym (same_false (bit_at t i))

-- the place of a pin in the number of a row: what the words of ones at the four pins say
mask_at : (m k : ℕ) → every (λ i. same (bit_at m i) (bit_at i k)) 16 ≡ true → (i : ℕ) → i < 16 → bit_at m i ≡ bit_at i k
mask_at m k e i lt = same_eq (bit_at m i) (bit_at i k) (every_at (λ i. same (bit_at m i) (bit_at i k)) 16 e i lt)

abbrev pub Rows : Tri → ℕ → ℕ → Type 0
Rows v ones r = (i : ℕ) → i < 16 → bit_at r i ≡ tri_allows v (bit_at ones i)

module _ (a b c d : Tri) (p q r s : ℕ) (fits : p < 65536)
    (pa : Rows a 0xaaaa p) (qb : Rows b 0xcccc q) (rc : Rows c 0xf0f0 r) (sd : Rows d 0xff00 s) where
  all_rows : (i : ℕ) → i < 16 → bit_at (bit_and (bit_and (bit_and p q) r) s) i
      ≡ (tri_allows a (bit_at i 0) && tri_allows b (bit_at i 1) && tri_allows c (bit_at i 2) && tri_allows d (bit_at i 3))
  all_rows i lt =
      bit_and_lem (bit_and (bit_and p q) r) s i
      ∙ ap₂ ◌&&◌
      (bit_and_lem (bit_and p q) r i
      ∙ ap₂ ◌&&◌
      (bit_and_lem p q i
      ∙ ap₂ ◌&&◌ (pa i lt ∙ ap (tri_allows a) (mask_at 0xaaaa 0 refl i lt)) (qb i lt ∙ ap (tri_allows b) (mask_at 0xcccc 1 refl i lt)))
      (rc i lt ∙ ap (tri_allows c) (mask_at 0xf0f0 2 refl i lt)))
      (sd i lt ∙ ap (tri_allows d) (mask_at 0xff00 3 refl i lt))

  pub tri_rows : (t : ℕ) → t < 65536 →
      tri_of (not (bit_and (bit_and (bit_and (bit_and p q) r) s) (65535 - t) == 0)) (not (bit_and (bit_and (bit_and (bit_and p q) r) s) t == 0))
      ≡ tri_apply t (a ∷ (b ∷ (c ∷ (d ∷ []))))
  tri_rows t h =
      let x = and_le_l p q in
      let y = and_le_l (bit_and p q) r in
      let z = and_le_l (bit_and (bit_and p q) r) s in
      let low : bit_and (bit_and (bit_and p q) r) s < 65536 = omega arith in
      ap₂ tri_of
      (gives_rows t (bit_and (bit_and (bit_and p q) r) s) (65535 - t) (tri_allows a) (tri_allows b) (tri_allows c) (tri_allows d) false low all_rows (word_zero t h))
      (gives_rows t (bit_and (bit_and (bit_and p q) r) s) t (tri_allows a) (tri_allows b) (tri_allows c) (tri_allows d) true low all_rows (λ i _. word_one t i))
