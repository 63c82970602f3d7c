-- Counts of cases. Assumes nothing.
use Rattle.std.specs.Prelude.{ℕ, ◌+◌, ◌-◌, ◌^◌, min, Bool, if◌then◌else◌, List, get_or}
use Rattle.beside.specs.declared.tally.Count.{Count}
use Rattle.beside.specs.declared.tally.Case.{Case}
use Rattle.beside.specs.declared.tally.Case.TheVariants as case

-- the place of a kind of case among the counts
abbrev pub place_of : Case → ℕ
place_of case.Makings = 0
place_of case.Starts = 1
place_of case.Walks = 2
place_of case.Points = 3
place_of case.States = 4
place_of case.Peaks = 5
place_of case.Windows = 6
place_of case.WindowsByPaths = 7
place_of case.Figures = 8
place_of case.Plays = 9
place_of case.PlayedCycles = 10
place_of case.Runs = 11
place_of case.RunCycles = 12
place_of case.Stretches = 13
place_of case.Bundles = 14
place_of case.Limits = 15
place_of case.Lengths = 16
place_of case.Damaged = 17

-- one more, up to the largest number
abbrev pub more : ℕ → ℕ
more n = min (n + 1) (2 ^ 64 - 1)

-- one more case, which agreed or did not
abbrev pub counted : Count → Bool → Count
counted count agreed = record { tried = more count.tried; agreed = (if agreed then more count.agreed else count.agreed) }

-- the count at a place
abbrev pub count_at : List Count → ℕ → Count
count_at counts place = get_or counts place (record { tried = 0; agreed = 0 })
