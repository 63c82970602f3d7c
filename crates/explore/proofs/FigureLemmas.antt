-- The questions of peak and window. Assumes nothing.
use Rattle.std.proofs.Common.{◌≡◌, ℕ, ◌≤◌, Bool, true, not, ◌&&◌, eqb, leb, List, [], ◌∷◌, ◌++◌, length, Some, None, Ok, Err, Option, Result, sym, refl, ap, ◌∙◌, subst, arith, MatchResult}
use Rattle.std.proofs.lemmas.List.{length-take-le}
use Rattle.std.proofs.lemmas.Bool.{and_parts}
use Rattle.bundle.specs.declared.refusal.Fault.TheVariants as fault
use Rattle.bundle.specs.declared.refusal.Refusal.{Refusal}
use Rattle.bundle.specs.Format.{ask, ask_each, first_refusal}
use Rattle.explore.proofs.Answered.{whole_answered}
use Rattle.model.specs.Core.{Core}
use Rattle.record.specs.declared.point.Point.{Point}
use Rattle.record.specs.Bounds.{window}
use Rattle.figures.specs.Figures.{names_used}
use Rattle.figures.specs.Figures as paths
use Rattle.explore.specs.Memory.{Memory, fits}
use Rattle.explore.specs.Calls.{done_questions, peak_refusal, window_refusal, used_points}
use Rattle.explore.proofs.Fits.{fitting}

-- ---- questions put one after the other

first_of_more : (os rest : List (Option Refusal)) (e : Refusal) → first_refusal os ≡ Some e → first_refusal (os ++ rest) ≡ Some e
first_of_more [] rest e is = let z : ◌≡◌ {A = ℕ} 0 1 = cc in absurd (omega arith)
first_of_more (None ∷ os) rest e is = first_of_more os rest e is
first_of_more (Some r ∷ os) rest e is = is

first_of_rest : (os rest : List (Option Refusal)) → first_refusal os ≡ None → first_refusal (os ++ rest) ≡ first_refusal rest
first_of_rest [] rest none = refl
first_of_rest (None ∷ os) rest none = first_of_rest os rest none
first_of_rest (Some r ∷ os) rest none = let z : ◌≡◌ {A = ℕ} 0 1 = cc in absurd (omega arith)

none_of_more : (os rest : List (Option Refusal)) → first_refusal (os ++ rest) ≡ None → first_refusal os ≡ None
none_of_more [] rest none = refl
none_of_more (None ∷ os) rest none = none_of_more os rest none
none_of_more (Some r ∷ os) rest none = none

-- ---- peak

-- memory that fits holds the points in use
pub points_held : (d : Core) (m : Memory) → fits d m ≡ true → m.exploration.point_count ≤ length m.lent.points
points_held d m fit = omega (arith, (fitting d m fit).points_fit, m.exploration.points_inside)

pub peak_held : (d : Core) (m : Memory) (fit : Bool) → fit ≡ fits d m → None ≡ first_refusal (done_questions fit m.exploration)
    → m.exploration.point_count ≤ length m.lent.points
peak_held d m fit is none = points_held d m (sym is ∙ (whole_answered fit fault.Memory _ (sym none)).0)

-- ---- window

module _ (d : Core) (m : Memory) (row other w : ℕ) where
  abbrev size : ℕ
  size = m.exploration.point_count

  abbrev rows_fit : Bool
  rows_fit = fits d m && leb size row && leb size other

  -- where the window is answered, so is the peak
  pub peak_allowed : window_refusal d m row other w ≡ None → (peak_refusal d m ≡ None) × (size ≤ length m.lent.points)
  peak_allowed none =
      let done = none_of_more (done_questions rows_fit m.exploration) _ none in
      let all : rows_fit ≡ true = (whole_answered rows_fit fault.Memory _ done).0 in
      let fit : fits d m ≡ true = (and_parts (fits d m) (leb size row) (and_parts (fits d m && leb size row) (leb size other) all).0).0 in
      (subst (λ (b : Bool). first_refusal (done_questions b m.exploration) ≡ None) (all ∙ sym fit) done, points_held d m fit)

  module _ (fit : Bool) (is : fit ≡ rows_fit) where
    pub window_refused : (e : Refusal) → first_refusal (done_questions fit m.exploration) ≡ Some e → window_refusal d m row other w ≡ Some e
    window_refused e refused =
        first_of_more (done_questions rows_fit m.exploration) _ e (subst (λ (b : Bool). first_refusal (done_questions b m.exploration) ≡ Some e) is refused)

    module _ (none : None ≡ first_refusal (done_questions fit m.exploration)) where
      fits_all : (rows_fit ≡ true) × (fits d m ≡ true) × ((leb size row && leb size other) ≡ true)
      fits_all =
          let all : rows_fit ≡ true = sym is ∙ (whole_answered fit fault.Memory _ (sym none)).0 in
          let two = and_parts (fits d m && leb size row) (leb size other) all in
          let one = and_parts (fits d m) (leb size row) two.0 in
          (all, one.0, (let a = one.1 in let b = two.1 in cc))

      pub window_held : size ≤ length m.lent.points
      window_held = points_held d m fits_all.1

      -- what is left to ask is what is asked of the points in use
      window_rest : window_refusal d m row other w ≡ paths.window_refusal (used_points m) w row other
      window_rest =
          let done : first_refusal (done_questions rows_fit m.exploration) ≡ None =
          subst (λ (b : Bool). first_refusal (done_questions b m.exploration) ≡ None) is (sym none) in
          let used : length (used_points m) ≡ size = length-take-le size m.lent.points window_held in
          let rows : (leb (length (used_points m)) row && leb (length (used_points m)) other) ≡ true =
          ap (λ (n : ℕ). leb n row && leb n other) used ∙ fits_all.2 in
          let rest : List (Option Refusal) = ask (not (eqb w 0)) fault.NoWindow ∷ (ask_each (names_used (used_points m)) fault.Damaged 0 (length (used_points m)) ∷ []) in
          first_of_rest (done_questions rows_fit m.exploration) rest done ∙ sym (ap (λ (b : Bool). first_refusal (ask b fault.Memory ∷ rest)) rows)

      pub window_cases : (used : List Point) → used ≡ used_points m → (answer : Result ℕ Refusal) →
          MatchResult answer (λ n. (paths.window_refusal used w row other ≡ None) × (n ≡ window used w)) (λ e. paths.window_refusal used w row other ≡ Some e) →
          MatchResult answer (λ n. (window_refusal d m row other w ≡ None) × (n ≡ window (used_points m) w)) (λ e. window_refusal d m row other w ≡ Some e)
      window_cases used same answer given =
          by answer (subst (λ (ps : List Point). MatchResult answer (λ n. (paths.window_refusal ps w row other ≡ None) × (n ≡ window ps w)) (λ e. paths.window_refusal ps w row other ≡ Some e)) same given)
        where
          by : (a : Result ℕ Refusal) →
              MatchResult a (λ n. (paths.window_refusal (used_points m) w row other ≡ None) × (n ≡ window (used_points m) w)) (λ e. paths.window_refusal (used_points m) w row other ≡ Some e) →
              MatchResult a (λ n. (window_refusal d m row other w ≡ None) × (n ≡ window (used_points m) w)) (λ e. window_refusal d m row other w ≡ Some e)
          by (Ok n) h = (window_rest ∙ h.0, h.1)
          by (Err e) h = window_rest ∙ h
