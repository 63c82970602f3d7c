-- What covers draws no less. Assumes nothing.
use Rattle.std.proofs.Common.{◌≡◌, ℕ, ◌≤◌, Bool, true, false, cond, ◌&&◌, List, [], ◌∷◌, length, get_or, sum_by, refl, arith}
use Rattle.std.specs.List.{range_with_len}
use Rattle.std.proofs.lemmas.List.Sums.{sum_by-cons, sum-map}
use Rattle.std.proofs.lemmas.Bool.{and_parts, and_from, both_ways}
use Rattle.levels.specs.Kinds.{Kind, Lawful, Covers, Cover}
use Rattle.model.specs.declared.net.Net.{Net}
use Rattle.model.specs.Core.{Core, no_net}
use Rattle.model.specs.Cycle.{at}
use Rattle.model.specs.Energy.{net_charge, charge}
use Rattle.model.specs.Monotone.{StepsAreMonotone}
use Rattle.model.proofs.Cover.{covers_at, covers_start, covers_given, covers_edge, covers_settled, covers_cycled}

cond_more : (p q : Bool) (n : ℕ) → (p ≡ true → q ≡ true) → cond p n 0 ≤ cond q n 0
cond_more false true n h = omega arith
cond_more false false n h = omega arith
cond_more true true n h = omega arith
cond_more true false n h = absurd (both_ways false refl (h refl))

both_more : (p q r t : Bool) → (p ≡ true → r ≡ true) → (q ≡ true → t ≡ true) → (p && q) ≡ true → (r && t) ≡ true
both_more p q r t f g e = and_from r t (f (and_parts p q e).0) (g (and_parts p q e).1)

pub sum_more : {A : Type 0} (f g : A → ℕ) → ((x : A) → f x ≤ g x) → (xs : List A) → sum_by f xs ≤ sum_by g xs
sum_more f g h [] = omega arith
sum_more f g h (x ∷ xs) = omega (arith, sum_by-cons f x xs, sum_by-cons g x xs, h x, sum_more f g h xs)

module _ {V W : Type 0} (k : Kind V) (j : Kind W) (lk : Lawful k) (lj : Lawful j) where
  module _ (wide : (b : Bool) → k.allows k.blank b ≡ true) (d : Core) (s t : List V) (c e : List W) (hs : Cover k j s c) (ht : Cover k j t e) where
    before : (i : ℕ) → Covers k j (at k s i) (at j c i)
    before = covers_at k j lk lj wide s c hs

    after : (i : ℕ) → Covers k j (at k t i) (at j e i)
    after = covers_at k j lk lj wide t e ht

    changes : (i : ℕ) (x y : Bool) (n : ℕ) →
        cond (j.allows (at j c i) x && j.allows (at j e i) y) n 0 ≤ cond (k.allows (at k s i) x && k.allows (at k t i) y) n 0
    changes i x y n =
        cond_more (j.allows (at j c i) x && j.allows (at j e i) y) (k.allows (at k s i) x && k.allows (at k t i) y) n
        (both_more (j.allows (at j c i) x) (j.allows (at j e i) y) (k.allows (at k s i) x) (k.allows (at k t i) y) (before i x) (after i y))

    each : (i : ℕ) → net_charge j d c e i ≤ net_charge k d s t i
    each i = let n : Net = get_or d.nets i no_net in omega (arith, changes i false true n.rise, changes i true false n.fall)

    pub charge_more : charge j d c e ≤ charge k d s t
    charge_more =
        omega (
          arith,
          sum-map (net_charge j d c e) (range_with_len 0 (length d.nets)),
          sum-map (net_charge k d s t) (range_with_len 0 (length d.nets)),
          sum_more (net_charge j d c e) (net_charge k d s t) each (range_with_len 0 (length d.nets)),
          cond_more (j.allows (at j c d.write_enable) true) (k.allows (at k s d.write_enable) true) d.write_energy
              (before d.write_enable true),
        )

  pub steps_are_monotone : StepsAreMonotone k j
  steps_are_monotone wide d = record {
    of_start = covers_start k j lk lj wide d;
    of_inputs = covers_given k j lk lj wide d;
    of_edge = λ s c given real h inputs. covers_edge k j lk lj wide d s c h given real inputs;
    of_settled = covers_settled k j lk lj wide d;
    of_cycle = λ s c given real h inputs. covers_cycled k j lk lj wide d s c h given real inputs;
    of_charge = charge_more wide d;
  }
