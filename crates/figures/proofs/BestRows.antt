-- Lemmas on the rows from which a window is figured. Assumes nothing.
use Rattle.std.proofs.Common.{◌≡◌, ℕ, suc, ◌+◌, ◌*◌, ◌^◌, ◌<◌, ◌≤◌, max, true, false, cond, eqb, List, map, length, get_or, set, sym, refl, ap, ◌∙◌, ap₂, ⊎_elim, arith}
use Rattle.std.specs.List.{range_with_len, enumerate_from}
use Rattle.std.proofs.lemmas.List.{get_or-set_same, get_or-set_other, ext_get_or, get_or-map, get_or_default, length-map}
use Rattle.std.proofs.lemmas.List.FromFn.{length-map-range_with_len, get_or-map-range_with_len, length-enumerate_from, get_or-enumerate_from}
use Rattle.std.proofs.lemmas.Bool.{and_parts, ltb-true, eq-eqb, ne_eqb, cases_eq, cond-true, cond-false}
use Rattle.record.specs.declared.point.Origin.{Origin}
use Rattle.record.specs.declared.point.Origin.TheVariants as origin
use Rattle.record.specs.declared.point.Fate.{Fate}
use Rattle.record.specs.declared.point.Fate.TheVariants as fate
use Rattle.record.specs.declared.point.Point.{Point}
use Rattle.record.specs.Runs.{point_at}
use Rattle.record.specs.Bounds.{charge_at, comes_from, most, best_among, best_from, by_fate}
use Rattle.record.proofs.Bound.{most_by_fate, best_more}
use Rattle.figures.specs.Figures.{to_used, AllNamed, Best}

-- what a row has at an index
abbrev at : List ℕ → ℕ → ℕ
at row t = get_or row t 0

-- what is drawn on from a point
abbrev on : List Point → List ℕ → ℕ → ℕ
on ps row q = by_fate (at row) q (point_at ps q).fate

-- a row in which the first n points are counted
abbrev pub Counted : List Point → ℕ → ℕ → List ℕ → Type 0
Counted ps w n row = (t : ℕ) → t < length ps → (get_or row t 0 ≡ best_among ps w t n) × (get_or row t 0 ≤ 2 ^ 32 * suc w)

-- one point more is counted: a start
pub counted_start : (ps : List Point) (w q : ℕ) (longer : List ℕ) → ((f : ℕ) → (point_at ps q).origin ≡ origin.From f → ⊥)
    → Counted ps w q longer → Counted ps w (q + 1) longer
counted_start ps w q longer start so_far t h =
    let x : ℕ = charge_at ps q + most ps w q in
    let more : best_among ps w t (q + 1) ≡ max (best_among ps w t q) (cond (comes_from t (point_at ps q).origin) x 0) = best_more ps w t q in
    let counts : cond (comes_from t (point_at ps q).origin) x 0 ≡ 0 = cond-false _ x 0 (none (point_at ps q).origin start) in
    (omega (arith, (so_far t h).0), (so_far t h).1)
  where
    none : (o : Origin) → ((f : ℕ) → o ≡ origin.From f → ⊥) → comes_from t o ≡ false
    none origin.Start s = refl
    none (origin.From f) s = absurd (s f refl)

-- a point with its number names only points of the list
pub named_at : (ps : List Point) → AllNamed ps → (row : List ℕ) → length row ≡ length ps → (x : ℕ × Point) (k : ℕ) → k < length (enumerate_from 0 ps)
    → x ≡ get_or (enumerate_from 0 ps) k x → (x.0 < length row) × (to_used (length row) x.1.fate ≡ true)
named_at ps named row same x k l e =
    let inside : k < length ps = omega (arith, length-enumerate_from 0 ps) in
    let is : x ≡ (0 + k, get_or ps k x.1) = e ∙ get_or-enumerate_from 0 ps k x inside in
    let number : x.0 ≡ 0 + k = ap (λ (p : ℕ × Point). p.0) is in
    let point : x.1 ≡ point_at ps k = ap (λ (p : ℕ × Point). p.1) is ∙ get_or_default ps k x.1 _ inside in (
      omega arith,
      ap₂ (λ (n : ℕ) (p : Point). to_used n p.fate) same point ∙ (and_parts _ _ (named k inside)).1,
    )

-- what is drawn on from a point with its number
abbrev pub drawn_on : List ℕ → ℕ × Point → ℕ
drawn_on row p = by_fate (at row) p.0 p.1.fate

module _ (ps : List Point) (named : AllNamed ps) (w : ℕ) (row : List ℕ) (best : Best ps w row) where
  -- what is drawn on from a point is the most, and not too much
  pub onward_is : (q : ℕ) → q < length ps → on ps row q ≡ most ps w q
  onward_is q l = go (point_at ps q).fate (and_parts _ _ (named q l)).1 ∙ sym (most_by_fate ps w q)
    where
      go : (f : Fate) → to_used (length ps) f ≡ true → by_fate (at row) q f ≡ by_fate (best_from ps w) q f
      go fate.Open e = refl
      go fate.Walked e = best.values q l
      go (fate.Cut t) e = best.values t (ltb-true t (length ps) e)
      go fate.Halted e = refl

  onward_small : (q : ℕ) → q < length ps → on ps row q ≤ 2 ^ 32 * w
  onward_small q l = go (point_at ps q).fate (and_parts _ _ (named q l)).1
    where
      go : (f : Fate) → to_used (length ps) f ≡ true → by_fate (at row) q f ≤ 2 ^ 32 * w
      go fate.Open e = omega arith
      go fate.Walked e = best.small q l
      go (fate.Cut t) e = best.small t (ltb-true t (length ps) e)
      go fate.Halted e = omega arith

  -- one point more is counted: one that comes from point f
  pub counted_from : (q f r v : ℕ) (longer : List ℕ) → q < length ps → length longer ≡ length ps → (point_at ps q).origin ≡ origin.From f
      → r ≡ charge_at ps q + on ps row q → r < 2 ^ 32 + on ps row q → v ≡ max (at longer f) r
      → Counted ps w q longer → Counted ps w (q + 1) (set longer f v)
  counted_from q f r v longer l long from value bound is so_far t h =
      let x : ℕ = charge_at ps q + most ps w q in
      let more : best_among ps w t (q + 1) ≡ max (best_among ps w t q) (cond (comes_from t (point_at ps q).origin) x 0) = best_more ps w t q in
      let came : comes_from t (point_at ps q).origin ≡ eqb f t = ap (comes_from t) from in
      let drawn : r ≡ x = value ∙ ap (λ (n : ℕ). charge_at ps q + n) (onward_is q l) in
      let old : at longer t ≡ best_among ps w t q = (so_far t h).0 in
      let low : at longer t ≤ 2 ^ 32 * suc w = (so_far t h).1 in
      let small : on ps row q ≤ 2 ^ 32 * w = onward_small q l in
      ⊎_elim
      (λ (e : t ≡ f).
      let new : at (set longer f v) t ≡ v = ap (at (set longer f v)) e ∙ get_or-set_same longer f v 0 (omega arith) in
      let held : at longer f ≡ at longer t = ap (at longer) (sym e) in
      let counts : cond (comes_from t (point_at ps q).origin) x 0 ≡ x = cond-true _ x 0 (came ∙ eq-eqb f t (sym e)) in
      (omega arith, omega arith))
      (λ (ne : t ≡ f → ⊥).
      let new : at (set longer f v) t ≡ at longer t = get_or-set_other longer f t v 0 ne in
      let counts : cond (comes_from t (point_at ps q).origin) x 0 ≡ 0 = cond-false _ x 0 (came ∙ ne_eqb f t (λ e. ne (sym e))) in
      (omega arith, omega arith))
      (cases_eq t f)

  -- what is drawn on from each point is the most
  pub most_at : map (drawn_on row) (enumerate_from 0 ps) ≡ map (most ps w) (range_with_len 0 (length ps))
  most_at =
      ext_get_or 0 _ _
      (length-map (enumerate_from 0 ps) (drawn_on row) ∙ length-enumerate_from 0 ps ∙ sym (length-map-range_with_len (most ps w) 0 (length ps)))
      (λ q l. let inside : q < length ps = omega (arith, length-map (enumerate_from 0 ps) (drawn_on row), length-enumerate_from 0 ps) in
      let there : q < length (enumerate_from 0 ps) = omega (arith, length-enumerate_from 0 ps) in
      get_or-map (drawn_on row) (enumerate_from 0 ps) q (0, point_at ps q) 0 there
      ∙ ap (drawn_on row) (get_or-enumerate_from 0 ps q (0, point_at ps q) inside)
      ∙ ap₂ (λ (n : ℕ) (x : Point). drawn_on row (n, x)) (omega arith) (get_or_default ps q (point_at ps q) _ inside)
      ∙ onward_is q inside
      ∙ sym (get_or-map-range_with_len (most ps w) 0 (length ps) q q 0 inside (omega arith)))
