-- What a chain that ends in `max` gives is the greatest. Assumes nothing.
use Rattle.std.proofs.Common.{◌≡◌, ℕ, max, List, [], ◌∷◌, map, fold, ◌∙◌, arith}
use Rattle.std.specs.Prelude.{unwrap_or}
use Rattle.std.specs.List.{reduce}
use Rattle.std.specs.Ordering.{max_by_ordering, nat_cmp}
use Rattle.std.proofs.lemmas.List.Folds.{max_of_map}
use Rattle.record.specs.Bounds.{greatest}

module _ {X : Type 0} (f : X → ℕ) where
  fold_max : (m : ℕ) (xs : List X) → fold (λ n x. max n (f x)) m xs ≡ max m (greatest (map f xs))
  fold_max m [] = omega arith
  fold_max m (x ∷ xs) = let e = fold_max (max m (f x)) xs in omega arith

  pub greatest_max : (xs : List X) → unwrap_or (reduce (λ p z. max_by_ordering (nat_cmp p z) p z) (map f xs)) 0 ≡ greatest (map f xs)
  greatest_max xs = max_of_map f xs ∙ (let e = fold_max 0 xs in omega arith)
