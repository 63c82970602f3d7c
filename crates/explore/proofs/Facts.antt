-- The facts of an exploration after a point is closed or walked. Assumes nothing.
use Rattle.std.proofs.Common.{◌≡◌, ℕ, ◌+◌, ◌<◌, ◌≤◌, true, ltb, leb, List, length, get_or, set, sym, refl, ap, ◌∙◌, subst, ⊎_elim, arith}
use Rattle.std.proofs.lemmas.List.{get_or-set_same, get_or-set_other}
use Rattle.std.proofs.lemmas.Bool.{leb-true, le-leb, ltb-true, cases_eq}
use Rattle.levels.specs.declared.Tri.{Tri}
use Rattle.model.specs.Core.{Core, all_below}
use Rattle.model.proofs.Sound.{all_below_at}
use Rattle.explore.specs.declared.plan.Plan.{Plan}
use Rattle.explore.specs.declared.plan.Plan.TheVariants as plan
use Rattle.explore.specs.declared.exploration.Entry.{Entry}
use Rattle.explore.specs.declared.exploration.Exploration.{Exploration}
use Rattle.explore.specs.Memory.{SameLengths, Adds, no_entry}
use Rattle.explore.specs.Plans.{Within}
use Rattle.explore.specs.Steps.{Kept, InUse, entries_after, replaced_by}
use Rattle.explore.specs.Moves.{Entered}
use Rattle.explore.proofs.Views.{all_below_from}

-- the number of an open point is that of a point in use
pub number_used : (x : Exploration) (i : ℕ) → i < x.open_count → get_or x.numbers i 0 < x.point_count
number_used x i h =
    ltb-true (get_or x.numbers i 0) x.point_count (all_below_at x.open_count (λ j. ltb (get_or x.numbers j 0) x.point_count) i x.numbers_used h)

-- at least as many points taken as before
pub replaced_kept : (entries : List Entry) (count opened points opened' points' : ℕ) → opened' + points ≤ points' + opened
    → all_below count (λ i. leb ((get_or entries i no_entry).count + opened) points) ≡ true
    → all_below count (λ i. leb ((get_or entries i no_entry).count + opened') points') ≡ true
replaced_kept entries count opened points opened' points' more few =
    all_below_from count (λ i. leb ((get_or entries i no_entry).count + opened') points')
    (λ i h.
    let here = leb-true ((get_or entries i no_entry).count + opened) points (all_below_at count (λ i. leb ((get_or entries i no_entry).count + opened) points) i few h) in
    le-leb ((get_or entries i no_entry).count + opened') points' (omega arith))

pub in_use_of : (x : Exploration) (q : Plan) → Within x q → InUse q x.entry_count
in_use_of x plan.Halt w = tt
in_use_of x (plan.Cut t) w = tt
in_use_of x plan.Pass w = tt
in_use_of x plan.Add w = tt
in_use_of x (plan.Replace i count) w = w.0

-- an entry that is set was replaced seldom enough, and so were the others
pub replaced_set : (entries : List Entry) (place : ℕ) (e : Entry) (count size opened points : ℕ) → place < length entries → e.count + opened ≤ points
    → ((i : ℕ) → i < size → (i ≡ place → ⊥) → i < count)
    → all_below count (λ i. leb ((get_or entries i no_entry).count + opened) points) ≡ true
    → all_below size (λ i. leb ((get_or (set entries place e) i no_entry).count + opened) points) ≡ true
replaced_set entries place e count size opened points room here others few =
    all_below_from size (λ i. leb ((get_or (set entries place e) i no_entry).count + opened) points)
    (λ i h.
    let P : Entry → Type 0 = λ x. leb (x.count + opened) points ≡ true in
    ⊎_elim
    (λ (same : i ≡ place).
    subst P (sym (ap (λ (j : ℕ). get_or (set entries place e) j no_entry) same ∙ get_or-set_same entries place e no_entry room)) (le-leb (e.count + opened) points here))
    (λ (other : i ≡ place → ⊥).
    subst P (sym (get_or-set_other entries place i e no_entry other))
    (all_below_at count (λ i. leb ((get_or entries i no_entry).count + opened) points) i few (others i h other)))
    (cases_eq i place))

-- what the plan of a taken point says of the exploration without it
pub replaced_within : (x : Exploration) (q : Plan) (opened points : ℕ) → Within x q → opened + 1 ≡ x.open_count → points ≡ x.point_count
    → replaced_by q + opened ≤ points
replaced_within x plan.Halt opened points w o p = omega (arith, x.open_used)
replaced_within x (plan.Cut t) opened points w o p = omega (arith, x.open_used)
replaced_within x plan.Pass opened points w o p = omega (arith, x.open_used)
replaced_within x plan.Add opened points w o p = omega (arith, x.open_used)
replaced_within x (plan.Replace i count) opened points w o p = omega (arith, w.1)

-- ---- what stays and what is added, over two calls

pub lengths_stay : (x : Exploration) → SameLengths x x
lengths_stay x = record { same_places = refl; same_point_length = refl; same_open_length = refl; same_kept_length = refl; same_scratch_length = refl }

pub lengths_on : (x y z : Exploration) → SameLengths x y → SameLengths y z → SameLengths x z
lengths_on x y z a b = record {
  same_places = b.same_places ∙ a.same_places;
  same_point_length = b.same_point_length ∙ a.same_point_length;
  same_open_length = b.same_open_length ∙ a.same_open_length;
  same_kept_length = b.same_kept_length ∙ a.same_kept_length;
  same_scratch_length = b.same_scratch_length ∙ a.same_scratch_length;
}

pub adds_none : (x : Exploration) → Adds 0 x x
adds_none x = record { lengths = lengths_stay x; same_entry_count = refl; same_entries = refl; more_points = omega arith; more_open = omega arith }

pub adds_one : (x y z : Exploration) (n : ℕ) → Adds n x y → Adds 1 y z → Adds (n + 1) x z
adds_one x y z n a b = record {
  lengths = lengths_on x y z a.lengths b.lengths;
  same_entry_count = b.same_entry_count ∙ a.same_entry_count;
  same_entries = b.same_entries ∙ a.same_entries;
  more_points = omega (arith, a.more_points, b.more_points);
  more_open = omega (arith, a.more_open, b.more_open);
}

-- where no entry is written
pub entered_none : (d : Core) (q : Plan) (key p : ℕ) (s : List Tri) (x : Exploration) (kept : List Tri) → (q ≡ plan.Add → ⊥) → ((i count : ℕ) → q ≡ plan.Replace i count → ⊥)
    → Entered d q key p s x x kept kept
entered_none d q key p s x kept not_add not_replace = record {
  lengths = lengths_stay x;
  same_points = refl;
  same_open = refl;
  same_numbers = refl;
  more_entries = as_many q not_add not_replace;
  written = stays q not_add not_replace;
}
  where
    as_many : (r : Plan) → (r ≡ plan.Add → ⊥) → ((i count : ℕ) → r ≡ plan.Replace i count → ⊥) → x.entry_count ≡ entries_after r x.entry_count
    as_many plan.Halt a b = refl
    as_many (plan.Cut t) a b = refl
    as_many plan.Pass a b = refl
    as_many plan.Add a b = absurd (a refl)
    as_many (plan.Replace i c) a b = absurd (b i c refl)

    stays : (r : Plan) → (r ≡ plan.Add → ⊥) → ((i count : ℕ) → r ≡ plan.Replace i count → ⊥)
        → Kept d x.places r key p s x.entries x.entries kept kept x.entry_count
    stays plan.Halt a b = record { entries_kept = refl; kept_behind = refl }
    stays (plan.Cut t) a b = record { entries_kept = refl; kept_behind = refl }
    stays plan.Pass a b = record { entries_kept = refl; kept_behind = refl }
    stays plan.Add a b = absurd (a refl)
    stays (plan.Replace i c) a b = absurd (b i c refl)
