-- The pilots and the starts of a bundle. Assumes nothing.
use Rattle.std.specs.Prelude.{ℕ, ◌-◌, ◌%◌, Bool, cond, not, ◌&&◌, ◌||◌, List, map, length, take, Some, None, Option, ◌==◌, nat_lt, slice_index_or}
use Rattle.std.specs.List.{range_with_len}
use Rattle.levels.specs.declared.Tri.{Tri}
use Rattle.levels.specs.declared.Tri.TheVariants.{Zero, One, X}
use Rattle.model.specs.declared.net.Net.{Net}
use Rattle.model.specs.Core.{no_net, is_flop, tally, among}
use Rattle.bundle.specs.Format.{byte}
use Rattle.decode.specs.Entries.{only_if}
use Rattle.decode.specs.Words.{word}

-- whether entry i is a pilot before it: entry 0 is the mark, and no pilot
abbrev pub repeated : List ℕ → ℕ → ℕ → Bool
repeated bs i p = among p (map (word bs) (range_with_len 1 (i - 1)))

-- every entry names a net; entry 0 is the mark, and the others are distinct flops
abbrev pub pilot_right : List Net → List ℕ → ℕ → ℕ → Bool
pilot_right nets bs i p =
    nat_lt p (length nets) && (i == 0 || (is_flop (slice_index_or nets p no_net).driver && not (repeated bs i p)))

abbrev pub pilot_read : List Net → List ℕ → ℕ → Option ℕ
pilot_read nets bs i = only_if (pilot_right nets bs i (word bs i)) (word bs i)

-- where the pilots stand among the flops
abbrev pub flop_places : List Net → List ℕ → List ℕ
flop_places nets pilots = map (λ p. tally is_flop (take p nets)) pilots

-- a start's level of flop i, counted over all starts: 0, 1, or 2 where it is unknown, which a pilot may not be
abbrev pub start_level : Bool → ℕ → Option Tri
start_level pilot b =
    cond (b == 0) (Some Zero) (cond (b == 1) (Some One) (cond (b == 2) (only_if (not pilot) X) None))

abbrev pub start_read : ℕ → List ℕ → List ℕ → ℕ → Option Tri
start_read flops pilots bs i = start_level (among (i % flops) pilots) (byte bs i)
