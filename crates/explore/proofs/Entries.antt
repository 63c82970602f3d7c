-- The entry of a plan among the others. Assumes nothing.
use Rattle.std.proofs.Common.{◌≡◌, ℕ, ◌+◌, ◌*◌, ◌<◌, ◌≤◌, List, length, set, sym, refl, ap, subst, arith}
use borrow.Rule.Slice.PartMut.{put_mid}
use Rattle.std.proofs.lemmas.Slice.{drop-put_mid}
use Rattle.levels.specs.declared.Tri.{Tri}
use Rattle.model.specs.Core.{Core}
use Rattle.explore.specs.declared.plan.Plan.{Plan}
use Rattle.explore.specs.declared.plan.Plan.TheVariants as plan
use Rattle.explore.specs.declared.exploration.Entry.{Entry}
use Rattle.explore.specs.Steps.{Kept, entries_after, InUse}
use Rattle.explore.proofs.Views.{times_more, entries_push, entries_set, drop_put}
use Rattle.explore.proofs.Treating.{stretch_inside}

module _ (d : Core) (key p : ℕ) (s : List Tri) (n : ℕ) (long : length s ≡ n) (entries : List Entry) (kept : List Tri) (count : ℕ) where
  start_of : (i : ℕ) → i * length s ≡ i * n
  start_of i = ap (λ (m : ℕ). i * m) long

  -- a new entry and its state
  pub kept_add : (q : Plan) (kept' : List Tri) → q ≡ plan.Add → count < length entries → (count + 1) * n ≤ length kept →
      kept' ≡ put_mid (count * length s) (length s) kept s →
      Kept d n q key p s entries (set entries count (record { key = key; point = p; count = 0 })) kept kept' count
  kept_add q kept' is room inside e =
      let new : Entry = record { key = key; point = p; count = 0 } in
      let h : count * length s ≤ length kept = omega (arith, start_of count, times_more count n) in
      subst (λ (r : Plan). Kept d n r key p s entries (set entries count new) kept kept' count) (sym is)
      (subst (λ (x : List Tri). Kept d n plan.Add key p s entries (set entries count new) kept x count) (sym e)
      (record {
        entries_kept = entries_push n entries kept count (count * length s) (length s) new s room (start_of count) long long h;
        kept_behind = drop_put n count (count * length s) (length s) kept s (start_of count) long long h;
      }))

  -- an entry in use and its state
  pub kept_replace : (q : Plan) (i replaced : ℕ) (kept' : List Tri) → q ≡ plan.Replace i replaced → i < count → count ≤ length entries → count * n ≤ length kept →
      kept' ≡ put_mid (i * length s) (length s) kept s →
      Kept d n q key p s entries (set entries i (record { key = key; point = p; count = replaced })) kept kept' count
  kept_replace q i replaced kept' is used room inside e =
      let new : Entry = record { key = key; point = p; count = replaced } in
      let before : i * n + n ≤ count * n = stretch_inside i n count (count * n) used (omega arith) in
      let h : i * length s + length s ≤ count * n = omega (arith, start_of i) in
      subst (λ (r : Plan). Kept d n r key p s entries (set entries i new) kept kept' count) (sym is)
      (subst (λ (x : List Tri). Kept d n (plan.Replace i replaced) key p s entries (set entries i new) kept x count) (sym e)
      (record {
        entries_kept = entries_set n entries kept count i (i * length s) (length s) new s used (omega arith) (start_of i) long long (omega arith);
        kept_behind = drop-put_mid (i * length s) (length s) kept s (count * n) h (omega arith) refl;
      }))

-- where a replaced entry and its state stand
pub replaced_inside : (q : Plan) (i replaced count n kept : ℕ) → q ≡ plan.Replace i replaced → InUse q count → entries_after q count * n ≤ kept
    → (i < count) × (count * n ≤ kept) × (i * n + n ≤ kept)
replaced_inside q i replaced count n kept is used inside =
    subst (λ (r : Plan). InUse r count → entries_after r count * n ≤ kept → (i < count) × (count * n ≤ kept) × (i * n + n ≤ kept)) (sym is)
    (λ used inside. (used, inside, stretch_inside i n count kept used inside))
    used inside
