use Rattle.std.proofs.Common.{◌≡◌, ℕ, ◌<◌, length, get_or, take}
use Rattle.model.specs.Core.{is_flop, tally}
use Rattle.decode.proofs.starts.flop_places.Given as goal

abbrev pub invariant-loop-k : goal.invariant-loop-k
invariant-loop-k l =
    (length l.values ≡ 16) × ((j : ℕ) → j < l.k → get_or l.values j 0 ≡ tally is_flop (take (get_or l.pilots j 0) l.nets))
