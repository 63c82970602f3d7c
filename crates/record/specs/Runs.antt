-- A tag's runs in bits, and the paths of a record that hold them. Assumes nothing.
use Rattle.std.specs.Prelude.{◌≡◌, ℕ, ◌<◌, ◌≤◌, false, List, [], ◌∷◌, length, slice_index_or}
use Rattle.levels.specs.Kinds.{Kind}
use Rattle.model.specs.Core.{Core}
use Rattle.model.specs.Cycle.{cycled, key_of, halted}
use Rattle.model.specs.Energy.{charge}
use Rattle.record.specs.declared.point.Origin.TheVariants as origin
use Rattle.record.specs.declared.point.Fate.TheVariants as fate
use Rattle.record.specs.declared.point.Point.{Point}
use Rattle.record.specs.Record.{nowhere}

abbrev pub point_at : List Point → ℕ → Point
point_at ps q = slice_index_or ps q nowhere

-- a step of a path leads from point t to its successor q
abbrev pub Leads : List Point → ℕ → ℕ → Type 0
Leads ps t q = (q < length ps) × ((point_at ps q).origin ≡ origin.From t)

-- whose successors a path goes on to from a point: its own if it is walked, those of the point that it is cut to if it is cut
pub data Leaves (ps : List Point) : ℕ → ℕ → Type 0 where
  as_walked : (p : ℕ) → (point_at ps p).fate ≡ fate.Walked → Leaves ps p p
  as_cut : (p t : ℕ) → (point_at ps p).fate ≡ fate.Cut t → Leaves ps p t

module _ {B : Type 0} (j : Kind B) (d : Core) where
  -- a run: each next state is one cycle on, with any inputs, and none follows a state that halts
  pub data Goes : List (List B) → Type 0 where
    stops : (c : List B) → Goes (c ∷ [])
    steps : (c : List B) (given : ℕ → B) (rest : List (List B)) →
        halted j d c ≡ false →
        Goes (cycled j d c given ∷ rest) →
        Goes (c ∷ (cycled j d c given ∷ rest))

  -- A path from point p holds a run: its points have in turn the keys of the states, each with a charge no less than the energy
  -- of the cycle into its state. They are as many as the states, or fewer, and then the last one is open.
  pub data Held (ps : List Point) : ℕ → List (List B) → Type 0 where
    whole : (p : ℕ) (c : List B) → (point_at ps p).key ≡ key_of j d c → Held ps p (c ∷ [])
    early : (p : ℕ) (c : List B) (rest : List (List B)) →
        (point_at ps p).key ≡ key_of j d c →
        (point_at ps p).fate ≡ fate.Open →
        Held ps p (c ∷ rest)
    onward : (p t q : ℕ) (c e : List B) (rest : List (List B)) →
        (point_at ps p).key ≡ key_of j d c →
        Leaves ps p t → Leads ps t q →
        charge j d c e ≤ (point_at ps q).charge →
        Held ps q (e ∷ rest) →
        Held ps p (c ∷ (e ∷ rest))
