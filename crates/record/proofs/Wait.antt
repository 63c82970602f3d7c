-- The open points of a record, and which of them is taken. Assumes nothing.
use Rattle.std.proofs.Common.{◌≡◌, ℕ, zero, suc, ◌<◌, true, List, [], ◌∷◌, map, length, get_or, sym, ap, subst, inl, inr, arith}
use Rattle.std.specs.List.{ContainsAt as Has}
use Rattle.std.proofs.ByRecursion.{All-from_get_or}
use Rattle.levels.specs.Kinds.{Kind, Lawful}
use Rattle.model.specs.Core.{Core, sound}
use Rattle.record.specs.declared.point.Fate.TheVariants as fate
use Rattle.record.specs.declared.point.Point.{Point}
use Rattle.record.specs.Record.{Record, Waiting, nowhere}
use Rattle.record.specs.Runs.{point_at}
use Rattle.record.specs.Escape.{Reached}
use Rattle.record.specs.Wait.{numbers, OpenPointsWait}
use Rattle.record.specs.Bounds.{NoOpen}
use Rattle.record.proofs.Hold.{Below, Listed, Holds}
use Rattle.record.proofs.Steps.{reached_holds}

module _ {V : Type 0} (k : Kind V) (d : Core) where
  abbrev numbered : List (Waiting V) → List ℕ
  numbered ws = map (λ (w : Waiting V). w.number) ws

  listed_has : (ws : List (Waiting V)) (q : ℕ) → Listed k d q ws → Has (numbered ws) q
  listed_has [] q h = absurd h
  listed_has (w ∷ ws) q (inl e) = (0, omega arith, λ x. sym e)
  listed_has (w ∷ ws) q (inr h) = let on : Has (numbered ws) q = listed_has ws q h in (suc on.0, omega (arith, on.1), on.2)

  module _ (ps : List Point) (σ : List (List V)) where
    below_at : (b : ℕ) (ws : List (Waiting V)) (i : ℕ) → Below k d ps σ b ws → i < length (numbered ws) →
        (get_or (numbered ws) i 0 < b) × ((point_at ps (get_or (numbered ws) i 0)).fate ≡ fate.Open)
    below_at b [] i h l = absurd (omega arith)
    below_at b (w ∷ ws) zero h l = (h.0, h.1)
    below_at b (w ∷ ws) (suc i) h l =
        let on : (get_or (numbered ws) i 0 < w.number) × ((point_at ps (get_or (numbered ws) i 0)).fate ≡ fate.Open) =
        below_at w.number ws i h.3 (omega arith) in
        let here : w.number < b = h.0 in
        (omega (arith, on.0), on.1)

    descends : (b : ℕ) (ws : List (Waiting V)) (i j : ℕ) → Below k d ps σ b ws → i < j → j < length (numbered ws) →
        get_or (numbered ws) j 0 < get_or (numbered ws) i 0
    descends b [] i j h l m = absurd (omega arith)
    descends b (w ∷ ws) i zero h l m = absurd (omega arith)
    descends b (w ∷ ws) zero (suc j) h l m = (below_at w.number ws j h.3 (omega arith)).0
    descends b (w ∷ ws) (suc i) (suc j) h l m = descends w.number ws i j h.3 (omega arith) (omega arith)

module _ {V : Type 0} (k : Kind V) (law : Lawful k) where
  pub open_points_wait : OpenPointsWait k numbers
  open_points_wait d ok r taken reached =
      let all : (σ : List (List V)) × Holds k d r.points r.waiting r.entries taken σ = reached_holds k d ok law r taken reached in
      record {
        highest_first = λ i j l m. descends k d r.points all.0 (length r.points) r.waiting i j all.1.waits l m;
        are_open = λ q m. subst (λ (x : ℕ). (x < length r.points) × ((point_at r.points x).fate ≡ fate.Open)) (m.2 0)
            (below_at k d r.points all.0 (length r.points) r.waiting m.0 all.1.waits m.1);
        all_open = λ q l o. listed_has k d r.waiting q (all.1.listed q l o);
      }

  -- with no point waiting, none is open
  pub none_open : (d : Core) → sound d ≡ true → (r : Record V) (taken : List (ℕ × ℕ)) → Reached k d r taken →
      r.waiting ≡ [] → NoOpen r.points
  none_open d ok r taken reached none =
      All-from_get_or (λ x. x.fate ≡ fate.Open → ⊥) r.points nowhere
      (λ q l o. let m : Has (numbers r) q = (open_points_wait d ok r taken reached).all_open q l o in
      let empty : length (numbers r) ≡ 0 = ap (λ (ws : List (Waiting V)). length (map (λ (w : Waiting V). w.number) ws)) none in
      omega (arith, m.1))
