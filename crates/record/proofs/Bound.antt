-- What the runs of a record without open points may draw. Assumes nothing.
use Rattle.std.proofs.Common.{◌≡◌, ℕ, zero, suc, ◌+◌, ◌*◌, ◌<◌, ◌≤◌, max, Bool, true, false, cond, ◌⊎◌, List, [], ◌∷◌, ◌++◌, map, length, get_or, take, drop, sum, sym, refl, ap, ◌∙◌, subst, ap₂, inl, inr, ⊎_elim, zero-le, arith}
use lib.Seq.{take-nil}
use Rattle.std.specs.List.{range_with_len, AllByRecursion}
use Rattle.std.proofs.lemmas.List.FromFn.{length-map-range_with_len, get_or-map-range_with_len, map-range_with_len_more}
use Rattle.std.proofs.ByRecursion.{All-get_or, all-has}
use Rattle.std.proofs.lemmas.List.{map_more}
use Rattle.std.proofs.lemmas.List.Sums.{sum_by-cons}
use Rattle.std.proofs.lemmas.Bool.{eq-eqb, eqb-true, both_ways, cases_lt}
use Rattle.levels.specs.Kinds.{Kind, Lawful}
use Rattle.model.specs.Core.{Core}
use Rattle.model.specs.Energy.{charge}
use Rattle.record.specs.declared.point.Origin.{Origin}
use Rattle.record.specs.declared.point.Origin.TheVariants as origin
use Rattle.record.specs.declared.point.Fate.{Fate}
use Rattle.record.specs.declared.point.Fate.TheVariants as fate
use Rattle.record.specs.declared.point.Point.{Point}
use Rattle.record.specs.Record.{nowhere}
use Rattle.record.specs.Runs.{point_at, Leads, Leaves, as_walked, as_cut, Held, whole, early, onward}
use Rattle.record.specs.Escape.{Wide, Definite}
use Rattle.record.specs.Bounds.{greatest, charge_at, peak, comes_from, steps_on, most, window, best_among, best_from, by_fate, PathOn, rests, goes, WindowIsMost, NoOpen, draws, NoRunDrawsMore}
use Rattle.record.proofs.Hold.{walked_open, cut_open, known, Begun, Holds}
use Rattle.record.proofs.Steps.{reached_holds}
use Rattle.record.proofs.Held.{no_run_escapes}

-- ---- the greatest of a list

pub greatest_bounds : (xs : List ℕ) (i d : ℕ) → i < length xs → get_or xs i d ≤ greatest xs
greatest_bounds [] i d l = absurd (omega arith)
greatest_bounds (x ∷ xs) zero d l = omega arith
greatest_bounds (x ∷ xs) (suc i) d l = omega (arith, greatest_bounds xs i d (omega arith))

pub greatest_met : (xs : List ℕ) (d : ℕ) → (greatest xs ≡ 0) ⊎ ((i : ℕ) × (i < length xs) × (greatest xs ≡ get_or xs i d))
greatest_met [] d = inl refl
greatest_met (x ∷ xs) d =
    ⊎_elim
    (λ l. ⊎_elim (λ e. absurd (omega arith))
    (λ m. inr (suc m.0, omega (arith, m.1), (let big : max x (greatest xs) ≡ greatest xs = omega arith in big) ∙ m.2))
    (greatest_met xs d))
    (λ l. inr (0, omega arith, (let big : max x (greatest xs) ≡ x = omega arith in big)))
    (cases_lt x (greatest xs))

pub greatest_below : (xs : List ℕ) (m : ℕ) → ((i : ℕ) → i < length xs → get_or xs i 0 ≤ m) → greatest xs ≤ m
greatest_below xs m h =
    ⊎_elim (λ e. omega arith) (λ g. omega (arith, g.2, h g.0 g.1)) (greatest_met xs 0)

pub greatest_push : (xs : List ℕ) (x : ℕ) → greatest (xs ++ (x ∷ [])) ≡ max (greatest xs) x
greatest_push [] x = omega arith
greatest_push (y ∷ ys) x = let e : greatest (ys ++ (x ∷ [])) ≡ max (greatest ys) x = greatest_push ys x in omega arith

-- ---- the greatest over the numbers below n

module _ (f : ℕ → ℕ) (n : ℕ) where
  pub counted_bounds : (q : ℕ) → q < n → f q ≤ greatest (map f (range_with_len 0 n))
  counted_bounds q l =
      subst (λ (x : ℕ). x ≤ greatest (map f (range_with_len 0 n))) (get_or-map-range_with_len f 0 n q q 0 l (omega arith))
      (greatest_bounds (map f (range_with_len 0 n)) q 0 (omega (arith, length-map-range_with_len f 0 n)))

  pub counted_met : (greatest (map f (range_with_len 0 n)) ≡ 0) ⊎ ((q : ℕ) × (q < n) × (greatest (map f (range_with_len 0 n)) ≡ f q))
  counted_met =
      ⊎_elim inl
      (λ m. let l : m.0 < n = omega (arith, m.1, length-map-range_with_len f 0 n) in
      inr (m.0, l, m.2 ∙ get_or-map-range_with_len f 0 n m.0 m.0 0 l (omega arith)))
      (greatest_met (map f (range_with_len 0 n)) 0)

  pub counted_below : (m : ℕ) → ((q : ℕ) → q < n → f q ≤ m) → greatest (map f (range_with_len 0 n)) ≤ m
  counted_below m h = ⊎_elim (λ e. omega arith) (λ g. omega (arith, g.2, h g.0 g.1)) counted_met

  pub counted_more : greatest (map f (range_with_len 0 (n + 1))) ≡ max (greatest (map f (range_with_len 0 n))) (f n)
  counted_more = ap greatest (map-range_with_len_more f 0 n n (omega arith)) ∙ greatest_push (map f (range_with_len 0 n)) (f n)

counted_none : (n : ℕ) → greatest (map (λ q. 0) (range_with_len 0 n)) ≡ 0
counted_none n = let e : greatest (map (λ q. 0) (range_with_len 0 n)) ≤ 0 = counted_below (λ q. 0) n 0 (λ q l. omega arith) in omega arith

-- ---- the peak

pub peak_bounds : (ps : List Point) (q : ℕ) → q < length ps → charge_at ps q ≤ peak ps
peak_bounds [] q l = absurd (omega arith)
peak_bounds (x ∷ xs) zero l = omega arith
peak_bounds (x ∷ xs) (suc q) l = omega (arith, peak_bounds xs q (omega arith))

-- one more point
pub peak_more : (ps : List Point) (i : ℕ) → i < length ps → peak (take (i + 1) ps) ≡ max (peak (take i ps)) (charge_at ps i)
peak_more ps i l =
    ap greatest (map_more (λ (x : Point). x.charge) ps i nowhere l) ∙ greatest_push (map (λ (x : Point). x.charge) (take i ps)) (charge_at ps i)

-- ---- the most, by the point whose successors the first step goes to

pub most_by_fate : (ps : List Point) (w p : ℕ) → most ps w p ≡ by_fate (best_from ps w) p (point_at ps p).fate
most_by_fate ps zero p = none (point_at ps p).fate
  where
    none : (f : Fate) → 0 ≡ by_fate (best_from ps zero) p f
    none fate.Open = refl
    none fate.Walked = refl
    none (fate.Cut t) = refl
    none fate.Halted = refl
most_by_fate ps (suc w) p = go (point_at ps p).fate
  where
    go : (f : Fate) →
        greatest (map (λ q. cond (steps_on p f (point_at ps q).origin) (charge_at ps q + most ps w q) 0) (range_with_len 0 (length ps)))
        ≡ by_fate (best_from ps (suc w)) p f
    go fate.Open = counted_none (length ps)
    go fate.Walked = refl
    go (fate.Cut t) = refl
    go fate.Halted = counted_none (length ps)

pub best_more : (ps : List Point) (w t n : ℕ) →
    best_among ps w t (n + 1) ≡ max (best_among ps w t n) (cond (comes_from t (point_at ps n).origin) (charge_at ps n + most ps w n) 0)
best_more ps w t n = counted_more (λ q. cond (comes_from t (point_at ps q).origin) (charge_at ps q + most ps w q) 0) n

-- ---- the most is not too much

pub most_small : (ps : List Point) (w p : ℕ) → most ps w p ≤ peak ps * w
most_small ps zero p = zero-le
most_small ps (suc w) p =
    counted_below (λ q. cond (steps_on p (point_at ps p).fate (point_at ps q).origin) (charge_at ps q + most ps w q) 0) (length ps) (peak ps * suc w)
    (λ q l. go (steps_on p (point_at ps p).fate (point_at ps q).origin) q (peak_bounds ps q l) (most_small ps w q))
  where
    go : (b : Bool) (q : ℕ) → charge_at ps q ≤ peak ps → most ps w q ≤ peak ps * w → cond b (charge_at ps q + most ps w q) 0 ≤ peak ps * suc w
    go true q h g = omega arith
    go false q h g = zero-le

pub window_small : (ps : List Point) (w : ℕ) → window ps w ≤ peak ps * w
window_small ps w = counted_below (most ps w) (length ps) (peak ps * w) (λ p l. most_small ps w p)

-- ---- steps

steps_hold : (ps : List Point) (p t q : ℕ) → Leaves ps p t → Leads ps t q → steps_on p (point_at ps p).fate (point_at ps q).origin ≡ true
steps_hold ps p t q (as_walked _ w) l =
    ap₂ (λ (f : Fate) (o : Origin). steps_on p f o) w l.1 ∙ eq-eqb p p refl
steps_hold ps p t q (as_cut _ _ w) l =
    ap₂ (λ (f : Fate) (o : Origin). steps_on p f o) w l.1 ∙ eq-eqb t t refl

steps_from : (ps : List Point) (p q : ℕ) → q < length ps → steps_on p (point_at ps p).fate (point_at ps q).origin ≡ true →
    (t : ℕ) × Leaves ps p t × Leads ps t q
steps_from ps p q l h = go (point_at ps p).fate refl h
  where
    by_origin : (t : ℕ) (o : Origin) → (point_at ps q).origin ≡ o → comes_from t o ≡ true → Leads ps t q
    by_origin t origin.Start e h = absurd (both_ways false refl h)
    by_origin t (origin.From u) e h = (l, e ∙ ap (λ (x : ℕ). origin.From x) (eqb-true u t h))

    go : (f : Fate) → (point_at ps p).fate ≡ f → steps_on p f (point_at ps q).origin ≡ true → (t : ℕ) × Leaves ps p t × Leads ps t q
    go fate.Open e h = absurd (both_ways false refl h)
    go fate.Walked e h = (p, as_walked p e, by_origin p (point_at ps q).origin refl h)
    go (fate.Cut t) e h = (t, as_cut p t e, by_origin t (point_at ps q).origin refl h)
    go fate.Halted e h = absurd (both_ways false refl h)

-- ---- the window is the most

sum_cons : (x : ℕ) (xs : List ℕ) → sum (x ∷ xs) ≡ x + sum xs
sum_cons x xs = sum_by-cons (λ x. x) x xs

most_step : (ps : List Point) (p t q : ℕ) → Leaves ps p t → Leads ps t q → (w : ℕ) → charge_at ps q + most ps w q ≤ most ps (suc w) p
most_step ps p t q leaves leads w =
    let f : ℕ → ℕ = λ q. cond (steps_on p (point_at ps p).fate (point_at ps q).origin) (charge_at ps q + most ps w q) 0 in
    let e : f q ≡ charge_at ps q + most ps w q =
    ap (λ (b : Bool). cond b (charge_at ps q + most ps w q) 0) (steps_hold ps p t q leaves leads) in
    subst (λ (n : ℕ). n ≤ most ps (suc w) p) e (counted_bounds f (length ps) q leads.0)

most_bounds : (ps : List Point) (p : ℕ) (qs : List ℕ) → PathOn ps p qs → (w : ℕ) → length qs ≤ w →
    sum (map (charge_at ps) qs) ≤ most ps w p
most_bounds ps p qs (rests _) w l = zero-le
most_bounds ps p qs (goes _ t q rest leaves leads on) zero l = absurd (omega arith)
most_bounds ps p qs (goes _ t q rest leaves leads on) (suc w) l =
    omega (
      arith,
      sum_cons (charge_at ps q) (map (charge_at ps) rest),
      most_step ps p t q leaves leads w,
      most_bounds ps q rest on w (omega arith),
    )

-- a path that draws the most
abbrev Drawn : List Point → ℕ → ℕ → Type 0
Drawn ps w p = (qs : List ℕ) × PathOn ps p qs × (length qs ≤ w) × (sum (map (charge_at ps) qs) ≡ most ps w p)

most_met : (ps : List Point) (w p : ℕ) → Drawn ps w p
most_met ps zero p = ([], rests p, omega arith, refl)
most_met ps (suc w) p =
    ⊎_elim none (λ m. by_step m.0 (most_met ps w m.0) m.1 m.2 (step m.0) refl) (counted_met f (length ps))
  where
    step : ℕ → Bool
    step q = steps_on p (point_at ps p).fate (point_at ps q).origin

    f : ℕ → ℕ
    f q = cond (steps_on p (point_at ps p).fate (point_at ps q).origin) (charge_at ps q + most ps w q) 0

    none : most ps (suc w) p ≡ 0 → Drawn ps (suc w) p
    none e = ([], rests p, zero-le, sym e)

    by_step : (q : ℕ) → Drawn ps w q → q < length ps → most ps (suc w) p ≡ f q → (b : Bool) → step q ≡ b → Drawn ps (suc w) p
    by_step q on l e false h = none (e ∙ ap (λ (b : Bool). cond b (charge_at ps q + most ps w q) 0) h)
    by_step q on l e true h =
        let s : (t : ℕ) × Leaves ps p t × Leads ps t q = steps_from ps p q l h in
        let value : most ps (suc w) p ≡ charge_at ps q + most ps w q =
        e ∙ ap (λ (b : Bool). cond b (charge_at ps q + most ps w q) 0) h in (
          q ∷ on.0,
          goes p s.0 q on.0 s.1 s.2 on.1,
          omega (arith, on.2),
          sum_cons (charge_at ps q) (map (charge_at ps) on.0) ∙ ap (λ (n : ℕ). charge_at ps q + n) on.3 ∙ sym value,
        )

leaves_known : (ps : List Point) (p t : ℕ) → Leaves ps p t → p < length ps
leaves_known ps p t (as_walked _ w) = known ps p (walked_open (point_at ps p).fate w)
leaves_known ps p t (as_cut _ _ w) = known ps p (cut_open (point_at ps p).fate t w)

pub most_window : (ps : List Point) (w p : ℕ) → p < length ps → most ps w p ≤ window ps w
most_window ps w p l = counted_bounds (most ps w) (length ps) p l

window_bounds : (ps : List Point) (w p : ℕ) (qs : List ℕ) → PathOn ps p qs → length qs ≤ w → sum (map (charge_at ps) qs) ≤ window ps w
window_bounds ps w p qs (rests _) l = zero-le
window_bounds ps w p qs (goes _ t q rest leaves leads on) l =
    omega (arith, most_bounds ps p qs (goes p t q rest leaves leads on) w l, most_window ps w p (leaves_known ps p t leaves))

pub window_is_most : WindowIsMost window
window_is_most ps w = record {
  bounds = window_bounds ps w;
  met = ⊎_elim (λ e. (0, [], rests 0, zero-le, sym e))
      (λ m. let on : Drawn ps w m.0 = most_met ps w m.0 in (m.0, on.0, on.1, on.2, on.3 ∙ sym m.2))
      (counted_met (most ps w) (length ps));
}

-- ---- what a run that is held draws

module _ {B : Type 0} (j : Kind B) (d : Core) (ps : List Point) (shut : NoOpen ps) where
  not_open : (p : ℕ) → p < length ps → (point_at ps p).fate ≡ fate.Open → ⊥
  not_open p l e = All-get_or (λ x. x.fate ≡ fate.Open → ⊥) ps p nowhere l shut e

  each_drawn : (p : ℕ) (run : List (List B)) → Held j d ps p run → p < length ps → AllByRecursion (λ x. x ≤ peak ps) (draws j d run)
  each_drawn p run (whole _ c key) l = tt
  each_drawn p run (early _ c rest key is_open) l = absurd (not_open p l is_open)
  each_drawn p run (onward _ t q c e rest key leaves leads bound on) l =
      (omega (arith, peak_bounds ps q leads.0), each_drawn q (e ∷ rest) on leads.0)

  front_drawn : (p : ℕ) (run : List (List B)) → Held j d ps p run → p < length ps → (w n : ℕ) → n ≤ w →
      sum (take n (draws j d run)) ≤ most ps w p
  front_drawn p run on l w zero m = zero-le
  front_drawn p run on l zero (suc n) m = absurd (omega arith)
  front_drawn p run (whole _ c key) l (suc w) (suc n) m = zero-le
  front_drawn p run (early _ c rest key is_open) l (suc w) (suc n) m = absurd (not_open p l is_open)
  front_drawn p run (onward _ t q c e rest key leaves leads bound on) l (suc w) (suc n) m =
      omega (
        arith,
        sum_cons (charge j d c e) (take n (draws j d (e ∷ rest))),
        most_step ps p t q leaves leads w,
        front_drawn q (e ∷ rest) on leads.0 w n (omega arith),
      )

  part_drawn : (p : ℕ) (run : List (List B)) → Held j d ps p run → p < length ps → (w i n : ℕ) → n ≤ w →
      sum (take n (drop i (draws j d run))) ≤ window ps w
  part_drawn p run on l w zero n m = omega (arith, front_drawn p run on l w n m, most_window ps w p l)
  part_drawn p run (whole _ c key) l w (suc i) n m = subst (λ (xs : List ℕ). sum xs ≤ window ps w) (sym (take-nil n)) zero-le
  part_drawn p run (early _ c rest key is_open) l w (suc i) n m = absurd (not_open p l is_open)
  part_drawn p run (onward _ t q c e rest key leaves leads bound on) l w (suc i) n m = part_drawn q (e ∷ rest) on leads.0 w i n m

module _ {V B : Type 0} (k : Kind V) (j : Kind B) (lk : Lawful k) (lj : Lawful j) where
  pub no_run_draws_more : Wide k → Definite j → NoRunDrawsMore k j peak window
  no_run_draws_more wide def d ok r taken reached shut p n m c rest h on =
      let all : (σ : List (List V)) × Holds k d r.points r.waiting r.entries taken σ = reached_holds k d ok lk r taken reached in
      let b : Begun k d r.points all.0 (p, n) = all-has (Begun k d r.points all.0) taken (p, n) all.1.begun m in
      let held : Held j d r.points p (c ∷ rest) = no_run_escapes k j lk lj wide def d ok r taken reached p n m c rest h on in
      record {
        each = each_drawn j d r.points shut p (c ∷ rest) held b.0;
        together = part_drawn j d r.points shut p (c ∷ rest) held b.0;
      }
