-- Counting the nets that pass a test, one by one. Assumes nothing.
use Rattle.std.proofs.Common.{◌≡◌, ℕ, suc, ◌+◌, ◌≤◌, Bool, true, false, cond, List, [], ◌∷◌, length, refl, arith}
use Rattle.std.proofs.lemmas.List.Recursion.{is_count_by}
use Rattle.std.specs.List.{count_by}
use Rattle.model.specs.declared.net.Driver.{Driver}
use Rattle.model.specs.declared.net.Net.{Net}
use Rattle.model.specs.Core.{tally}

-- what `filter` and `count` answer
pub tally-count_by : (f : Driver → Bool) (ns : List Net) → tally f ns ≡ count_by (λ (n : Net). f n.driver) ns
tally-count_by f ns = is_count_by (tally f) (λ (n : Net). f n.driver) refl (λ n rest. one (f n.driver) (tally f rest)) ns
  where
    one : (b : Bool) (m : ℕ) → cond b 1 0 + m ≡ cond b (1 + m) m
    one true m = refl
    one false m = omega arith

pub tally_few : (f : Driver → Bool) (ns : List Net) → tally f ns ≤ length ns
tally_few f [] = omega arith
tally_few f (n ∷ ns) = one (f n.driver) (tally f ns) (length ns) (tally_few f ns)
  where
    one : (b : Bool) (m k : ℕ) → m ≤ k → cond b 1 0 + m ≤ suc k
    one true m k h = omega arith
    one false m k h = omega arith
