-- The parts of the record that lent memory holds, each by the lists that it is read from. Assumes nothing.
use Rattle.std.specs.Prelude.{ℕ, List, map, reverse, slice_index, slice_index_or}
use Rattle.std.specs.List.{range_with_len}
use Rattle.levels.specs.declared.Tri.{Tri}
use Rattle.record.specs.Record as recorded
use Rattle.explore.specs.declared.exploration.Entry.{Entry}
use Rattle.explore.specs.Memory.{stretch, no_entry}

-- so many open points, the last first, over states of n places
abbrev pub open_points : ℕ → List ℕ → List Tri → ℕ → List (recorded.Waiting Tri)
open_points n numbers opened count =
    reverse (map (λ i. record { number = slice_index numbers i; state = stretch n opened i }) (range_with_len 0 count))

-- so many entries, with their states
abbrev pub kept_entries : ℕ → List Entry → List Tri → ℕ → List (recorded.Entry Tri)
kept_entries n entries kept count =
    map
    (λ i. record {
      key = (slice_index_or entries i no_entry).key;
      point = (slice_index_or entries i no_entry).point;
      count = (slice_index_or entries i no_entry).count;
      state = stretch n kept i;
    })
    (range_with_len 0 count)
