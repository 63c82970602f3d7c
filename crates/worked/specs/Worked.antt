-- The worked cases, each computed from the definitions that the contracts use. Assumes nothing.
use Rattle.std.specs.Prelude.{◌≡◌, ℕ, ◌≤◌, false, List, [], ◌∷◌, ◌++◌, length, replicate, None}
use Rattle.levels.specs.declared.Tri.{Tri}
use Rattle.levels.specs.declared.Tri.TheVariants.{Zero, One, X}
use Rattle.levels.specs.Kinds.{choice}
use Rattle.levels.specs.Tris.{tri_kind}
use Rattle.model.specs.declared.net.Driver.TheVariants as driver
use Rattle.model.specs.declared.net.Gate.{Gate}
use Rattle.model.specs.Core.{Core, no_word}
use Rattle.model.specs.Cycle.{cell_of_two, gate_output, picked, edged}
use Rattle.model.specs.Energy.{net_charge}
use Rattle.record.specs.declared.point.Origin.TheVariants as origin
use Rattle.record.specs.declared.point.Fate.TheVariants as fate
use Rattle.record.specs.declared.point.Point.{Point}
use Rattle.record.specs.Record.{Record, started}
use Rattle.record.specs.Bounds.{peak, window}
use Rattle.decode.specs.Decode.{design_refusal, decoded}
use Rattle.rules.specs.Meanings.{plain_meaning}
use Rattle.explore.specs.declared.answers.Ending.TheVariants as ending
use Rattle.explore.specs.declared.exploration.Exploration.{Exploration}
use Rattle.explore.specs.Memory.{point_room, open_room, entry_room}
use Rattle.explore.specs.Calls.{Takes}

-- ---- the toggling tag's bundle

-- the header: letters, version 1, seven rows, clock 8, ROM 0, RAM 2, write 7, window 2, length 212
abbrev pub header_bytes : List ℕ
header_bytes =
    84 ∷ 66 ∷ 1 ∷ 7 ∷ 8 ∷ 0 ∷ 0 ∷ 0 ∷ 2 ∷ 0 ∷
    7 ∷ 0 ∷ 2 ∷ 0 ∷ 212 ∷ 0 ∷ 0 ∷ 0 ∷ []

-- seven rows of the table of contents
abbrev pub contents_bytes : List ℕ
contents_bytes =
    1 ∷ 0 ∷ 4 ∷ 0 ∷ 74 ∷ 0 ∷ 0 ∷ 0 ∷ 2 ∷ 0 ∷
    5 ∷ 0 ∷ 114 ∷ 0 ∷ 0 ∷ 0 ∷ 3 ∷ 0 ∷ 1 ∷ 0 ∷
    164 ∷ 0 ∷ 0 ∷ 0 ∷ 4 ∷ 0 ∷ 1 ∷ 0 ∷ 166 ∷ 0 ∷
    0 ∷ 0 ∷ 5 ∷ 0 ∷ 17 ∷ 0 ∷ 170 ∷ 0 ∷ 0 ∷ 0 ∷
    6 ∷ 0 ∷ 3 ∷ 0 ∷ 204 ∷ 0 ∷ 0 ∷ 0 ∷ 7 ∷ 0 ∷
    2 ∷ 0 ∷ 210 ∷ 0 ∷ 0 ∷ 0 ∷ []

-- four cells: constant 0, input, flop, XOR
abbrev pub cells_bytes : List ℕ
cells_bytes =
    0 ∷ 5 ∷ 0 ∷ 0 ∷ 0 ∷ 0 ∷ 0 ∷ 0 ∷ 0 ∷ 0 ∷
    0 ∷ 3 ∷ 0 ∷ 0 ∷ 2 ∷ 0 ∷ 1 ∷ 0 ∷ 0 ∷ 0 ∷
    1 ∷ 1 ∷ 0 ∷ 0 ∷ 10 ∷ 0 ∷ 8 ∷ 0 ∷ 3 ∷ 0 ∷
    2 ∷ 0 ∷ 6 ∷ 0 ∷ 5 ∷ 0 ∷ 4 ∷ 0 ∷ 1 ∷ 0 ∷ []

-- five nets: constant, input, halt flop, flop, XOR
abbrev pub nets_bytes : List ℕ
nets_bytes =
    0 ∷ 0 ∷ 0 ∷ 0 ∷ 0 ∷ 0 ∷ 0 ∷ 0 ∷ 0 ∷ 0 ∷
    1 ∷ 0 ∷ 0 ∷ 0 ∷ 0 ∷ 0 ∷ 0 ∷ 0 ∷ 0 ∷ 0 ∷
    2 ∷ 0 ∷ 0 ∷ 0 ∷ 0 ∷ 0 ∷ 0 ∷ 0 ∷ 0 ∷ 0 ∷
    2 ∷ 0 ∷ 4 ∷ 0 ∷ 0 ∷ 0 ∷ 0 ∷ 0 ∷ 0 ∷ 0 ∷
    3 ∷ 0 ∷ 3 ∷ 0 ∷ 1 ∷ 0 ∷ 0 ∷ 0 ∷ 0 ∷ 0 ∷ []

-- a zero word of ROM, and one of RAM with no unknown bit
abbrev pub memory_bytes : List ℕ
memory_bytes =
    0 ∷ 0 ∷ 0 ∷ 0 ∷ 0 ∷ 0 ∷ []

-- 17 wires, all net 0
abbrev pub wires_bytes : List ℕ
wires_bytes =
    0 ∷ 0 ∷ 0 ∷ 0 ∷ 0 ∷ 0 ∷ 0 ∷ 0 ∷ 0 ∷ 0 ∷
    0 ∷ 0 ∷ 0 ∷ 0 ∷ 0 ∷ 0 ∷ 0 ∷ 0 ∷ 0 ∷ 0 ∷
    0 ∷ 0 ∷ 0 ∷ 0 ∷ 0 ∷ 0 ∷ 0 ∷ 0 ∷ 0 ∷ 0 ∷
    0 ∷ 0 ∷ 0 ∷ 0 ∷ []

-- mark 4, pilots 2 and 3, and the start 0 0
abbrev pub pilots_bytes : List ℕ
pilots_bytes =
    4 ∷ 0 ∷ 2 ∷ 0 ∷ 3 ∷ 0 ∷ 0 ∷ 0 ∷ []

abbrev pub toggling_bytes : List ℕ
toggling_bytes = header_bytes ++ contents_bytes ++ cells_bytes ++ nets_bytes ++ memory_bytes ++ wires_bytes ++ pilots_bytes

-- the core that they stand for
abbrev pub toggling : Core
toggling = record {
  clock = 8;
  window = 2;
  rom_energy = 0;
  ram_energy = 2;
  write_energy = 7;
  nets =
      record { driver = driver.Constant false; rise = 0; fall = 0; idle = 0 }
      ∷ record { driver = driver.Input; rise = 2; fall = 1; idle = 0 }
      ∷ record { driver = driver.Flop 0; rise = 10; fall = 8; idle = 3 }
      ∷ record { driver = driver.Flop 4; rise = 10; fall = 8; idle = 3 }
      ∷ record { driver = driver.Gate (record { truth = 6; used = 2; pins = 3 ∷ 1 ∷ 0 ∷ 0 ∷ [] }); rise = 5; fall = 4; idle = 1 }
      ∷ [];
  rom = 0 ∷ [];
  ram = no_word ∷ [];
  rom_address = [];
  ram_address = [];
  write_enable = 0;
  write_data = replicate 16 0;
  mark = 4;
  pilots = 2 ∷ 3 ∷ [];
  starts = Zero ∷ Zero ∷ [];
}

-- its points in the end
abbrev pub toggling_points : List Point
toggling_points =
    record { origin = origin.Start; key = 0; charge = 0; fate = fate.Walked }
    ∷ record { origin = origin.From 0; key = 0; charge = 16; fate = fate.Cut 0 }
    ∷ record { origin = origin.From 0; key = 2; charge = 26; fate = fate.Walked }
    ∷ record { origin = origin.From 2; key = 0; charge = 24; fate = fate.Cut 0 }
    ∷ record { origin = origin.From 2; key = 2; charge = 16; fate = fate.Cut 2 }
    ∷ []

-- the record of an exploration in which its start was taken
abbrev pub toggling_started : Record Tri
toggling_started = started tri_kind toggling (record { points = []; waiting = []; entries = [] }) 0

-- In an exploration with room for five points, three open points and two entries, a walk under the plain rule takes all five
-- points, and these are then recorded.
abbrev pub Listed : Type 0
Listed =
    (x : Exploration) → 5 ≤ point_room x → 3 ≤ open_room x → 2 ≤ entry_room x →
    (r : Record Tri) × Takes toggling plain_meaning x 65535 toggling_started 5 ending.Done r × (r.points ≡ toggling_points)

-- ---- a gate with both pins on one net

abbrev pub xor_of_one : Gate
xor_of_one = record { truth = 6; used = 2; pins = 0 ∷ 0 ∷ 0 ∷ 0 ∷ [] }

-- ---- the cases

pub record WorkedCases : Type 0 where
  pub and_of_zero_and_unknown : cell_of_two tri_kind 8 Zero X ≡ Zero
  pub xor_of_one_unknown_net : gate_output tri_kind (X ∷ []) xor_of_one ≡ X
  pub choice_between_equals : choice tri_kind X One One ≡ One
  -- net 1, the input, costs 2 to rise, 1 to fall and nothing when idle
  pub unknown_to_unknown : net_charge tri_kind toggling (Zero ∷ X ∷ []) (Zero ∷ X ∷ []) 1 ≡ 2
  -- an enabled flop, net 0, with data net 1 and enable net 2
  pub enable_unknown_held_and_offered_zero : edged tri_kind toggling (Zero ∷ Zero ∷ X ∷ []) (λ i. X) 0 (driver.EnabledFlop 1 2) ≡ Zero
  pub address_unknown_over_ones : picked tri_kind (X ∷ []) (One ∷ One ∷ []) ≡ One
  pub enable_unknown_one_held_zero_offered : edged tri_kind toggling (One ∷ Zero ∷ X ∷ []) (λ i. X) 0 (driver.EnabledFlop 1 2) ≡ X
  pub bundle_read : (length toggling_bytes ≡ 212) × (design_refusal toggling_bytes ≡ None) × (decoded toggling_bytes ≡ toggling)
  pub listed : Listed
  pub figures : (peak toggling_points ≡ 26) × (window toggling_points 2 ≡ 50) × (window toggling_points 3 ≡ 76)
