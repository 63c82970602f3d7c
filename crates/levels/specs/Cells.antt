-- What holds of every kind of level. Assumes nothing.
use Rattle.std.specs.Prelude.{◌≡◌, ℕ, zero, suc, ◌+◌, ◌*◌, ◌^◌, ◌<◌, Bool, true, false, not, ◌&&◌, ◌||◌, List, [], ◌∷◌, ◌++◌, map, replicate, ◌==◌, ◌≢◌, bit_and, nat_eq, refl}
use Rattle.std.proofs.Common.{sym, ◌∙◌, ap, ap₂, ⊎_elim, arith, lit<}
use Rattle.std.proofs.lemmas.Bool.{and_parts, and_from, or_cases, or_left, or_right, ne_eqb, eqb-true, eqb-false, not-true, not_from_false}
use Rattle.std.proofs.lemmas.Bool.Decides.{nat_tests, same_from_decides}
use Rattle.levels.specs.Kinds.{bit_at, same, gives, Kind, Lawful, Cover, Carries, Pads}
use Rattle.levels.specs.Words.{meets, meet, every_at}

-- ---- some bit is given

same_some : (a : Bool) → (same a false || same a true) ≡ true
same_some true = refl
same_some false = refl

split : (p q x0 x1 y0 y1 : Bool) → (p || q) ≡ true → (x0 || x1) ≡ true → (y0 || y1) ≡ true →
    (((p && x0) || (q && y0)) || ((p && x1) || (q && y1))) ≡ true
split true true true x1 y0 y1 pq x y = refl
split true true false x1 true y1 pq x y = refl
split true true false x1 false y1 pq x y = grind (arith, nat_tests)
split true false x0 x1 y0 y1 pq x y = grind (arith, nat_tests)
split false q x0 x1 y0 y1 pq x y = grind (arith, nat_tests)

pub gives_some : {V : Type 0} (allows : V → Bool → Bool) → ((v : V) → (allows v false || allows v true) ≡ true) →
    (t row weight : ℕ) (pins : List V) → (gives t row weight (map allows pins) false || gives t row weight (map allows pins) true) ≡ true
gives_some allows some t row weight [] = same_some (bit_at t row)
gives_some allows some t row weight (v ∷ vs) =
    split (allows v false) (allows v true) _ _ _ _ (some v) (gives_some allows some t row (2 * weight) vs) (gives_some allows some t (row + weight) (2 * weight) vs)

-- ---- a cell passes on what its pins allow, across kinds

either : (p q x y p' q' x' y' : Bool) → (p ≡ true → p' ≡ true) → (q ≡ true → q' ≡ true) → (x ≡ true → x' ≡ true) → (y ≡ true → y' ≡ true) →
    ((p && x) || (q && y)) ≡ true → ((p' && x') || (q' && y')) ≡ true
either p q x y p' q' x' y' fp fq fx fy e =
    ⊎_elim
    (λ (h : (p && x) ≡ true). or_left (p' && x') (q' && y') (and_from p' x' (fp (and_parts p x h).0) (fx (and_parts p x h).1)))
    (λ (h : (q && y) ≡ true). or_right (p' && x') (q' && y') (and_from q' y' (fq (and_parts q y h).0) (fy (and_parts q y h).1)))
    (or_cases (p && x) (q && y) e)

pub gives_covers : {V W : Type 0} (k : Kind V) (j : Kind W) (t row weight : ℕ) (vs : List V) (ws : List W) → Cover k j vs ws →
    (b : Bool) → gives t row weight (map j.allows ws) b ≡ true → gives t row weight (map k.allows vs) b ≡ true
gives_covers k j t row weight [] [] h b e = e
gives_covers k j t row weight [] (w ∷ ws) h b e = absurd h
gives_covers k j t row weight (v ∷ vs) [] h b e = absurd h
gives_covers k j t row weight (v ∷ vs) (w ∷ ws) h b e =
    either (j.allows w false) (j.allows w true) _ _ (k.allows v false) (k.allows v true) _ _
    (h.0 false) (h.0 true) (gives_covers k j t row (2 * weight) vs ws h.1 b) (gives_covers k j t (row + weight) (2 * weight) vs ws h.1 b) e

pub cell_covers : {V W : Type 0} (k : Kind V) (j : Kind W) → Lawful k → Lawful j → Carries k j
cell_covers k j kl jl t vs ws h b e =
    kl.exact_cell t vs b ∙ gives_covers k j t 0 1 vs ws h b (sym (jl.exact_cell t ws b) ∙ e)

-- ---- pins that carry false add nothing

drop_false : (p q x y : Bool) → p ≡ true → q ≡ false → ((p && x) || (q && y)) ≡ x
drop_false true false true y p q = refl
drop_false true false false y p q = refl
drop_false true true x y p q = grind (arith, nat_tests)
drop_false false q' x y p q = grind (arith, nat_tests)

pub gives_pad : {V : Type 0} (k : Kind V) → Lawful k → (t row weight n : ℕ) (pins : List V) (b : Bool) →
    gives t row weight (map k.allows (pins ++ replicate n (k.of_bit false))) b ≡ gives t row weight (map k.allows pins) b
gives_pad k l t row weight zero [] b = refl
gives_pad k l t row weight (suc n) [] b =
    drop_false (k.allows (k.of_bit false) false) (k.allows (k.of_bit false) true) _ _ (l.exact_bit false false) (l.exact_bit false true)
    ∙ gives_pad k l t row (2 * weight) n [] b
gives_pad k l t row weight n (v ∷ vs) b =
    ap₂ (λ (x y : Bool). (k.allows v false && x) || (k.allows v true && y))
    (gives_pad k l t row (2 * weight) n vs b) (gives_pad k l t (row + weight) (2 * weight) n vs b)

pub cell_pad : {V : Type 0} (k : Kind V) → Lawful k → Pads k
cell_pad k l t n pins b =
    l.exact_cell t (pins ++ replicate n (k.of_bit false)) b ∙ gives_pad k l t 0 1 n pins b ∙ sym (l.exact_cell t pins b)

-- ---- a cell by its rows

abbrev pub row_of : ℕ → ℕ → List Bool → ℕ
row_of row weight [] = row
row_of row weight (false ∷ cs) = row_of row (2 * weight) cs
row_of row weight (true ∷ cs) = row_of (row + weight) (2 * weight) cs

-- each pin allows the bit chosen for it
abbrev pub Chosen : List (Bool → Bool) → List Bool → Type 0
Chosen [] [] = Unit {0}
Chosen [] (c ∷ cs) = ⊥
Chosen (p ∷ ps) [] = ⊥
Chosen (p ∷ ps) (c ∷ cs) = (p c ≡ true) × Chosen ps cs

pub gives_from : (t row weight : ℕ) (ps : List (Bool → Bool)) (cs : List Bool) (b : Bool) → Chosen ps cs →
    same (bit_at t (row_of row weight cs)) b ≡ true → gives t row weight ps b ≡ true
gives_from t row weight [] [] b h e = e
gives_from t row weight [] (c ∷ cs) b h e = absurd h
gives_from t row weight (p ∷ ps) [] b h e = absurd h
gives_from t row weight (p ∷ ps) (false ∷ cs) b h e =
    or_left (p false && gives t row (2 * weight) ps b) (p true && gives t (row + weight) (2 * weight) ps b)
    (and_from (p false) _ h.0 (gives_from t row (2 * weight) ps cs b h.1 e))
gives_from t row weight (p ∷ ps) (true ∷ cs) b h e =
    or_right (p false && gives t row (2 * weight) ps b) (p true && gives t (row + weight) (2 * weight) ps b)
    (and_from (p true) _ h.0 (gives_from t (row + weight) (2 * weight) ps cs b h.1 e))

pub gives_choice : (t row weight : ℕ) (ps : List (Bool → Bool)) (b : Bool) → gives t row weight ps b ≡ true →
    (cs : List Bool) × Chosen ps cs × (same (bit_at t (row_of row weight cs)) b ≡ true)
gives_choice t row weight [] b e = ([], tt, e)
gives_choice t row weight (p ∷ ps) b e =
    ⊎_elim
    (λ h. let s = and_parts (p false) (gives t row (2 * weight) ps b) h in
    let r = gives_choice t row (2 * weight) ps b s.1 in
    (false ∷ r.0, (s.0, r.1), r.2))
    (λ h. let s = and_parts (p true) (gives t (row + weight) (2 * weight) ps b) h in
    let r = gives_choice t (row + weight) (2 * weight) ps b s.1 in
    (true ∷ r.0, (s.0, r.1), r.2))
    (or_cases (p false && gives t row (2 * weight) ps b) (p true && gives t (row + weight) (2 * weight) ps b) e)

-- ---- four pins, by a word of their rows

abbrev bits4 : ℕ → List Bool
bits4 i = bit_at i 0 ∷ (bit_at i 1 ∷ (bit_at i 2 ∷ (bit_at i 3 ∷ [])))

row_bits : (i : ℕ) → i < 16 → row_of 0 1 (bits4 i) ≡ i
row_bits i h = eqb-true (row_of 0 1 (bits4 i)) i (every_at (λ (k : ℕ). nat_eq (row_of 0 1 (bits4 k)) k) 16 refl i h)

abbrev row4 : Bool → Bool → Bool → Bool → ℕ
row4 x y z u = row_of 0 1 (x ∷ (y ∷ (z ∷ (u ∷ []))))

bits_row : (x y z u : Bool) →
    (row4 x y z u < 16) × (bit_at (row4 x y z u) 0 ≡ x) × (bit_at (row4 x y z u) 1 ≡ y) × (bit_at (row4 x y z u) 2 ≡ z) × (bit_at (row4 x y z u) 3 ≡ u)
bits_row false false false false = (lit< tt, refl, refl, refl, refl)
bits_row false false false true = (lit< tt, refl, refl, refl, refl)
bits_row false false true false = (lit< tt, refl, refl, refl, refl)
bits_row false false true true = (lit< tt, refl, refl, refl, refl)
bits_row false true false false = (lit< tt, refl, refl, refl, refl)
bits_row false true false true = (lit< tt, refl, refl, refl, refl)
bits_row false true true false = (lit< tt, refl, refl, refl, refl)
bits_row false true true true = (lit< tt, refl, refl, refl, refl)
bits_row true false false false = (lit< tt, refl, refl, refl, refl)
bits_row true false false true = (lit< tt, refl, refl, refl, refl)
bits_row true false true false = (lit< tt, refl, refl, refl, refl)
bits_row true false true true = (lit< tt, refl, refl, refl, refl)
bits_row true true false false = (lit< tt, refl, refl, refl, refl)
bits_row true true false true = (lit< tt, refl, refl, refl, refl)
bits_row true true true false = (lit< tt, refl, refl, refl, refl)
bits_row true true true true = (lit< tt, refl, refl, refl, refl)

-- `rows` has the rows that the pins allow, and `w` those that give b.
module _ (t rows w : ℕ) (p q r s : Bool → Bool) (b : Bool) (fits : rows < 2 ^ 16)
    (of_rows : (i : ℕ) → i < 16 → bit_at rows i ≡ (p (bit_at i 0) && q (bit_at i 1) && r (bit_at i 2) && s (bit_at i 3)))
    (of_w : (i : ℕ) → i < 16 → bit_at w i ≡ same (bit_at t i) b) where
  there : not (bit_and rows w == 0) ≡ true → gives t 0 1 (p ∷ (q ∷ (r ∷ (s ∷ [])))) b ≡ true
  there e =
      let m = meets 16 rows w fits (eqb-false (bit_and rows w) 0 (not-true (bit_and rows w == 0) e)) in
      let i = m.0 in
      let pqrs = and_parts _ (s (bit_at i 3)) (sym (of_rows i m.1) ∙ m.2) in
      let pqr = and_parts _ (r (bit_at i 2)) pqrs.0 in
      let pq = and_parts (p (bit_at i 0)) (q (bit_at i 1)) pqr.0 in
      gives_from t 0 1 (p ∷ (q ∷ (r ∷ (s ∷ [])))) (bits4 i) b (pq.0, (pq.1, (pqr.1, (pqrs.1, tt))))
      (ap (λ (k : ℕ). same (bit_at t k) b) (row_bits i m.1) ∙ sym (of_w i m.1) ∙ m.3)

  by_choice : (cs : List Bool) → Chosen (p ∷ (q ∷ (r ∷ (s ∷ [])))) cs → same (bit_at t (row_of 0 1 cs)) b ≡ true → bit_and rows w ≢ 0
  by_choice [] h e = absurd h
  by_choice (x ∷ []) h e = absurd h.1
  by_choice (x ∷ (y ∷ [])) h e = absurd h.1.1
  by_choice (x ∷ (y ∷ (z ∷ []))) h e = absurd h.1.1.1
  by_choice (x ∷ (y ∷ (z ∷ (u ∷ [])))) h e =
      let at = bits_row x y z u in
      let i = row4 x y z u in
      meet rows w i
      (of_rows i at.0
      ∙ and_from _ (s (bit_at i 3))
      (and_from _ (r (bit_at i 2)) (and_from (p (bit_at i 0)) (q (bit_at i 1)) (ap p at.1 ∙ h.0) (ap q at.2 ∙ h.1.0)) (ap r at.3 ∙ h.1.1.0))
      (ap s at.4 ∙ h.1.1.1.0))
      (of_w i at.0 ∙ e)
  by_choice (x ∷ (y ∷ (z ∷ (u ∷ (v ∷ vs))))) h e = absurd h.1.1.1.1

  back : gives t 0 1 (p ∷ (q ∷ (r ∷ (s ∷ [])))) b ≡ true → not (bit_and rows w == 0) ≡ true
  back e =
      let c = gives_choice t 0 1 (p ∷ (q ∷ (r ∷ (s ∷ [])))) b e in
      not_from_false (bit_and rows w == 0) (ne_eqb (bit_and rows w) 0 (by_choice c.0 c.1 c.2))

  pub gives_rows : not (bit_and rows w == 0) ≡ gives t 0 1 (p ∷ (q ∷ (r ∷ (s ∷ [])))) b
  gives_rows =
      same_from_decides {P = gives t 0 1 (p ∷ (q ∷ (r ∷ (s ∷ [])))) b ≡ true} (not (bit_and rows w == 0)) (gives t 0 1 (p ∷ (q ∷ (r ∷ (s ∷ [])))) b)
      (there, back) ((λ e. e), (λ e. e))
