-- Bytes that no question refuses: each row lies inside, has its kind, and its body lies inside. Assumes nothing.
use Rattle.std.proofs.Common.{◌≡◌, ℕ, zero, suc, ◌+◌, ◌-◌, ◌*◌, ◌<◌, ◌≤◌, Bool, true, false, cond, not, ◌&&◌, ◌||◌, eqb, ltb, ◌⊎◌, List, ◌∷◌, length, take, drop, Some, None, Option, refl, ap, ◌∙◌, ap₂, ⊎_elim, add-one, arith}
use Rattle.std.proofs.lemmas.Bool.{and_parts, and_from, and_right, lt-ltb, ltb-true, le-leb, lt-leb, leb-true, eqb-true, eq-eqb, cases_lt}
use Rattle.std.proofs.lemmas.Bool.Decides.{nat_tests}
use Rattle.bundle.specs.declared.refusal.Fault.{Fault}
use Rattle.bundle.specs.declared.refusal.Fault.TheVariants as fault
use Rattle.bundle.specs.declared.refusal.Refusal.{Refusal}
use Rattle.bundle.specs.declared.body.Body.{Body}
use Rattle.bundle.specs.declared.bundle.Bundle.{Bundle}
use Rattle.bundle.specs.declared.header.Header.{Header}
use Rattle.bundle.specs.declared.row.Row.{Row}
use Rattle.bundle.specs.Format.{ask, ask_at, first_refusal, header_right, total_length, rows, row_kind, row_zero, row_inside, kind_right, row_right, row_offset, entry_size, body_length, body_end, part_end, row_placed, bundle_refusal}
use Rattle.bundle.specs.Contents.{row_at}
use Rattle.bundle.specs.Bodies.{bundle_bytes, body_kind, body_bytes, kind_number, has_body, Whole, HandedOut, InOrder}
use Rattle.bundle.proofs.Asked.{all_good}
use Rattle.bundle.proofs.RowFacts.{row_end, row_found}

-- where the first no is none, each question is answered yes
pub none_parts : (o : Option Refusal) (rest : List (Option Refusal)) → first_refusal (o ∷ rest) ≡ None → (o ≡ None) × (first_refusal rest ≡ None)
none_parts None rest e = (refl, e)
none_parts (Some r) rest e = let z : ◌≡◌ {A = ℕ} 0 1 = cc in absurd (omega arith)

pub ask_none : (b : Bool) (f : Fault) → ask b f ≡ None → b ≡ true
ask_none true f e = refl
ask_none false f e = let z : ◌≡◌ {A = ℕ} 0 1 = cc in absurd (omega arith)

pub ask_at_none : (b : Bool) (f : Fault) (p : ℕ) → ask_at b f p ≡ None → b ≡ true
ask_at_none true f p e = refl
ask_at_none false f p e = let z : ◌≡◌ {A = ℕ} 0 1 = cc in absurd (omega arith)

-- at place 0 the two questions are one
pub ask_at_first : (b : Bool) (f : Fault) → ask_at b f 0 ≡ ask b f
ask_at_first true f = refl
ask_at_first false f = refl

-- the first question was answered yes, and no other is refused
pub answered : (b : Bool) (f : Fault) (p : ℕ) (rest : List (Option Refusal)) → first_refusal (ask_at b f p ∷ rest) ≡ None
    → (b ≡ true) × (first_refusal rest ≡ None)
answered b f p rest e =
    let parts = none_parts (ask_at b f p) rest e in
    (ask_at_none b f p parts.0, parts.1)

pub record Sound (bs : List ℕ) : Type 0 where
  pub head : header_right bs ≡ true
  pub long : total_length bs ≡ length bs
  pub least : 7 ≤ rows bs
  pub most : rows bs ≤ 32
  pub inside : (i : ℕ) → i < rows bs → row_inside bs i ≡ true
  pub right : (i : ℕ) → i < rows bs → row_right bs i ≡ true
  pub placed : (i : ℕ) → i < rows bs → row_placed bs i ≡ true

pub sound : (bs : List ℕ) → bundle_refusal bs ≡ None → Sound bs
sound bs e =
    let p1 = none_parts _ _ e in
    let p2 = none_parts _ _ p1.1 in
    let p3 = none_parts _ _ p2.1 in
    let p4 = none_parts _ _ p3.1 in
    let p5 = none_parts _ _ p4.1 in
    let p6 = none_parts _ _ p5.1 in
    let count = and_parts _ _ (ask_none _ _ p3.0) in
    record {
      head = ask_none _ _ p1.0;
      long = eqb-true _ _ (ask_none _ _ p2.0);
      least = leb-true _ _ count.0;
      most = leb-true _ _ count.1;
      inside = λ i h. all_good (row_inside bs) fault.Rows 0 (rows bs) p4.0 i (omega arith) (omega arith);
      right = λ i h. all_good (row_right bs) fault.Kinds 0 (rows bs) p5.0 i (omega arith) (omega arith);
      placed = λ i h. all_good (row_placed bs) fault.Bodies 0 (rows bs) p6.0 i (omega arith) (omega arith);
    }

-- each body ends inside, since the next begins there and the last ends with the bundle
ends_inside : (bs : List ℕ) (d i : ℕ) → i + suc d ≡ rows bs → ((k : ℕ) → k < rows bs → row_placed bs k ≡ true) → body_end bs i ≤ length bs
ends_inside bs zero i e placed =
    let p = and_parts (eqb (row_offset bs i) (part_end bs i)) _ (placed i (omega arith)) in
    let l : body_end bs i ≡ length bs = last_end (eqb (i + 1) (rows bs)) (body_end bs i) (length bs) (eq-eqb (i + 1) (rows bs) (omega arith)) p.1 in
    omega arith
  where
    last_end : (b : Bool) (m n : ℕ) → b ≡ true → (not b || eqb m n) ≡ true → m ≡ n
    last_end true m n e h = eqb-true m n h
    last_end false m n e h = let z : ◌≡◌ {A = ℕ} 0 1 = cc in absurd (omega arith)
ends_inside bs (suc d) i e placed =
    let p = and_parts (eqb (row_offset bs (i + 1)) (part_end bs (i + 1))) _ (placed (i + 1) (omega arith)) in
    let at : row_offset bs (i + 1) ≡ body_end bs i = eqb-true _ _ p.0 ∙ ap (part_end bs) (add-one i) in
    let next : row_offset bs (i + 1) + body_length bs (i + 1) ≤ length bs = ends_inside bs d (i + 1) (omega arith) placed in
    omega arith

pub body_inside : (bs : List ℕ) (i : ℕ) → Sound bs → i < rows bs → body_end bs i ≤ length bs
body_inside bs i s h = ends_inside bs (rows bs - suc i) i (omega arith) s.placed

pub right_number : (i kind zero_byte : ℕ) → (kind_right i kind && eqb zero_byte 0) ≡ true → kind_number kind ≡ cond (ltb i 7) (i + 1) 128
right_number i kind zero_byte e = grind (arith, nat_tests)

-- every bundle is whole
pub whole : (b : Bundle) → Whole b
whole b = (b.accepted, b.headed)

-- what a bundle hands out is in order
pub in_order : (b : Bundle) (i : ℕ) (o : Option Body) → HandedOut b i o → InOrder (bundle_bytes b) i o
in_order b i None none =
    let bs = bundle_bytes b in
    let s = sound bs b.accepted in
    let n : b.header.rows ≡ rows bs = ap (λ (h : Header). h.rows) b.headed in
    let past : rows bs ≤ i =
    ⊎_elim
    (λ (h : i < rows bs).
    let there = and_from _ _ (and_from _ _ (lt-ltb i b.header.rows (omega arith)) (s.inside i h)) (le-leb _ _ (body_inside bs i s h)) in
    let z : ◌≡◌ {A = ℕ} 0 1 = cc in absurd (omega arith))
    (λ (h : rows bs ≤ i). h)
    (cases_lt i (rows bs)) in
    let least = s.least in
    (past, omega arith)
in_order b i (Some d) given =
    let bs = bundle_bytes b in
    let s = sound bs b.accepted in
    let n : b.header.rows ≡ rows bs = ap (λ (h : Header). h.rows) b.headed in
    let l = ltb-true i b.header.rows (and_parts _ _ (and_parts _ _ given.0).0).0 in
    let h : i < rows bs = omega arith in
    (h, given.1 ∙ right_number i (row_kind bs i) (row_zero bs i) (s.right i h))

-- what reading row i and its stretch tells of body i
pub no_stretch :
    (b : Bundle) (i e : ℕ) (row : Row) → Some row ≡ row_at (bundle_bytes b) i → e ≡ row.offset + row.count * entry_size row.kind
    → (e < row.offset) ⊎ (length (bundle_bytes b) < e) → has_body b i ≡ false
no_stretch b i e row is end out =
    let bs = bundle_bytes b in
    let at : e ≡ body_end bs i = end ∙ ap row_end (row_found bs i row is).1 in
    let far : length bs < body_end bs i = ⊎_elim (λ (h : e < row.offset). absurd (omega arith)) (λ (h : length bs < e). omega arith) out in
    and_right (ltb i b.header.rows && row_inside bs i) _ (lt-leb (body_end bs i) (length bs) far)

pub stretch_found :
    (b : Bundle) (i e : ℕ) (row : Row) (d : Body) (p : List ℕ) → i < b.header.rows → Some row ≡ row_at (bundle_bytes b) i
    → e ≡ row.offset + row.count * entry_size row.kind → e ≤ length (bundle_bytes b)
    → p ≡ take (e - row.offset) (drop row.offset (bundle_bytes b))
    → body_kind d ≡ kind_number row.kind → body_bytes d ≡ p → HandedOut b i (Some d)
stretch_found b i e row d p l is end inside part kind bytes =
    let bs = bundle_bytes b in
    let row_is = (row_found bs i row is).1 in
    let at : e ≡ body_end bs i = end ∙ ap row_end row_is in
    let from : row.offset ≡ row_offset bs i = ap (λ (r : Row). r.offset) row_is in
    let size : e - row.offset ≡ body_length bs i = omega arith in (
      and_from _ _ (and_from _ _ (lt-ltb i b.header.rows l) (row_found bs i row is).0) (le-leb (body_end bs i) (length bs) (omega arith)),
      kind ∙ ap (λ (r : Row). kind_number r.kind) row_is,
      bytes ∙ part ∙ ap₂ (λ (n m : ℕ). take n (drop m bs)) size from,
    )
