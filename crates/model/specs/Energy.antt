-- What a step draws, in femtojoules. Assumes nothing.
use Rattle.std.specs.Prelude.{ℕ, ◌+◌, max, Bool, true, false, cond, ◌&&◌, List, map, length, get_or, sum, slice_index_or}
use Rattle.std.specs.List.{range_with_len}
use Rattle.levels.specs.Kinds.{Kind}
use Rattle.model.specs.declared.net.Net.{Net}
use Rattle.model.specs.Core.{Core, no_net}
use Rattle.model.specs.Cycle.{at}

-- the dearest change among the bits that the levels before and after allow
abbrev pub change : Net → (Bool → Bool) → (Bool → Bool) → ℕ
change n before after =
    max (cond (before false && after true) n.rise 0) (cond (before true && after false) n.fall 0)

module _ {V : Type 0} (k : Kind V) (d : Core) where
  abbrev pub net_charge : List V → List V → ℕ → ℕ
  net_charge s t i =
      (get_or d.nets i no_net).idle + change (slice_index_or d.nets i no_net) (k.allows (at k s i)) (k.allows (at k t i))

  -- the memories draw in every cycle, and for a write if the write enable before the edge allows 1
  abbrev pub memory_charge : List V → ℕ
  memory_charge s =
      d.rom_energy + (d.ram_energy + cond (k.allows (at k s d.write_enable) true) d.write_energy 0)

  abbrev pub charge : List V → List V → ℕ
  charge s t = sum (map (net_charge s t) (range_with_len 0 (length d.nets))) + memory_charge s
