-- What the runs of a record without open points may draw. Assumes nothing.
use Rattle.std.specs.Prelude.{◌≡◌, ℕ, zero, suc, ◌+◌, ◌≤◌, max, Bool, true, false, cond, List, [], ◌∷◌, map, length, take, drop, sum, ◌==◌, ◌≢◌}
use Rattle.std.specs.List.{range_with_len, ContainsAt as Has, AllByRecursion}
use Rattle.levels.specs.Kinds.{Kind, Cover}
use Rattle.model.specs.Core.{Core, sound}
use Rattle.model.specs.Cycle.{start_state}
use Rattle.model.specs.Energy.{charge}
use Rattle.record.specs.declared.point.Origin.{Origin}
use Rattle.record.specs.declared.point.Origin.TheVariants as origin
use Rattle.record.specs.declared.point.Fate.{Fate}
use Rattle.record.specs.declared.point.Fate.TheVariants as fate
use Rattle.record.specs.declared.point.Point.{Point}
use Rattle.record.specs.Record.{Record}
use Rattle.record.specs.Runs.{point_at, Leads, Leaves, Goes}
use Rattle.record.specs.Escape.{Reached}

abbrev pub greatest : List ℕ → ℕ
greatest [] = 0
greatest (x ∷ xs) = max x (greatest xs)

abbrev pub charge_at : List Point → ℕ → ℕ
charge_at ps q = (point_at ps q).charge

-- the largest charge
abbrev pub peak : List Point → ℕ
peak ps = greatest (map (λ x. x.charge) ps)

abbrev pub comes_from : ℕ → Origin → Bool
comes_from t origin.Start = false
comes_from t (origin.From u) = u == t

-- whether a path goes on from point p of the fate to a point of the origin
abbrev pub steps_on : ℕ → Fate → Origin → Bool
steps_on p fate.Open o = false
steps_on p fate.Walked o = comes_from p o
steps_on p (fate.Cut t) o = comes_from t o
steps_on p fate.Halted o = false

-- the most that a path of w steps or fewer from point p draws
abbrev pub most : List Point → ℕ → ℕ → ℕ
most ps zero p = 0
most ps (suc w) p =
    greatest (map (λ q. cond (steps_on p (point_at ps p).fate (point_at ps q).origin) (charge_at ps q + most ps w q) 0) (range_with_len 0 (length ps)))

-- the most that a path of w steps or fewer from any point draws
abbrev pub window : List Point → ℕ → ℕ
window ps w = greatest (map (most ps w) (range_with_len 0 (length ps)))

-- ---- the same, by the point whose successors the first step goes to

-- the most that w steps draw, or fewer, after one step to a successor of point t that is among the first n points
abbrev pub best_among : List Point → ℕ → ℕ → ℕ → ℕ
best_among ps w t n = greatest (map (λ q. cond (comes_from t (point_at ps q).origin) (charge_at ps q + most ps w q) 0) (range_with_len 0 n))

-- the most that w steps or fewer draw of which the first goes to a successor of point t
abbrev pub best_from : List Point → ℕ → ℕ → ℕ
best_from ps zero t = 0
best_from ps (suc w) t = best_among ps w t (length ps)

-- of a number for each such point, that of point p with the fate, and 0 where no step goes on
abbrev pub by_fate : (ℕ → ℕ) → ℕ → Fate → ℕ
by_fate best p fate.Open = 0
by_fate best p fate.Walked = best p
by_fate best p (fate.Cut t) = best t
by_fate best p fate.Halted = 0

-- ---- paths

-- the points that a path from point p goes on to
pub data PathOn (ps : List Point) : ℕ → List ℕ → Type 0 where
  rests : (p : ℕ) → PathOn ps p []
  goes : (p t q : ℕ) (qs : List ℕ) → Leaves ps p t → Leads ps t q → PathOn ps q qs → PathOn ps p (q ∷ qs)

-- no path of w steps or fewer draws more than the window, and one draws just as much
pub record IsWindow (ps : List Point) (w : ℕ) (window : ℕ) : Type 0 where
  pub bounds : (p : ℕ) (qs : List ℕ) → PathOn ps p qs → length qs ≤ w → sum (map (charge_at ps) qs) ≤ window
  pub met : (p : ℕ) × (qs : List ℕ) × PathOn ps p qs × (length qs ≤ w) × (sum (map (charge_at ps) qs) ≡ window)

abbrev pub WindowIsMost : (List Point → ℕ → ℕ) → Type 0
WindowIsMost window = (ps : List Point) (w : ℕ) → IsWindow ps w (window ps w)

-- ---- runs

abbrev pub NoOpen : List Point → Type 0
NoOpen ps = AllByRecursion (λ x. x.fate ≢ fate.Open) ps

module _ {B : Type 0} (j : Kind B) (d : Core) where
  -- what each cycle of a run draws
  abbrev pub draws : List (List B) → List ℕ
  draws [] = []
  draws (c ∷ []) = []
  draws (c ∷ (e ∷ rest)) = charge j d c e ∷ draws (e ∷ rest)

  -- no cycle draws more than the peak, and no w cycles in a row, or fewer, draw more than the window of w
  pub record Bounded (peak : ℕ) (window : ℕ → ℕ) (run : List (List B)) : Type 0 where
    pub each : AllByRecursion (λ x. x ≤ peak) (draws run)
    pub together : (w i n : ℕ) → n ≤ w → sum (take n (drop i (draws run))) ≤ window w

-- With no point open, peak and window bound every run that begins in a state covered by a taken start, whatever its inputs.
abbrev pub NoRunDrawsMore : {V B : Type 0} → Kind V → Kind B → (List Point → ℕ) → (List Point → ℕ → ℕ) → Type 0
NoRunDrawsMore {V} {B} k j peak window =
    (d : Core) → sound d ≡ true →
    (r : Record V) (taken : List (ℕ × ℕ)) → Reached k d r taken → NoOpen r.points →
    (p n : ℕ) → Has taken (p, n) →
    (c : List B) (rest : List (List B)) → Cover k j (start_state k d n) c → Goes j d (c ∷ rest) →
    Bounded j d (peak r.points) (window r.points) (c ∷ rest)
