-- The tag's own cycle and energy, in bits. Assumes nothing.
use Rattle.std.specs.Prelude.{◌≡◌, ℕ, ◌+◌, ◌*◌, ◌/◌, ◌%◌, ◌<◌, Bool, true, false, cond, ◌&&◌, List, [], ◌∷◌, ◌++◌, map, length, get_or, sum, ◌==◌, nat_lt, slice_index, slice_index_or, slice_set}
use Rattle.std.specs.List.{range_with_len}
use Rattle.levels.specs.Kinds.{bit_at}
use Rattle.levels.specs.Bits.{bit_kind, bit_is, bit_of}
use Rattle.levels.specs.declared.Bit.{Bit}
use Rattle.levels.specs.declared.Bit.TheVariants.{Zero, One}
use Rattle.model.specs.declared.net.Gate.{Gate}
use Rattle.model.specs.declared.net.Driver.{Driver}
use Rattle.model.specs.declared.net.Driver.TheVariants as driver
use Rattle.model.specs.declared.net.Net.{Net}
use Rattle.model.specs.Core.{Core, no_net, driver_at, places, is_gate, nets_sound, memories_sound}
use Rattle.model.specs.Cycle.{gate_output, edge, settled, cycled}
use Rattle.model.specs.Energy.{charge}

-- the bit at a place of a state, and whether it is 1
abbrev pub bit : List Bit → ℕ → Bit
bit s i = slice_index_or s i Zero

abbrev pub is_one : List Bit → ℕ → Bool
is_one s i = bit_is (bit s i)

-- the number that address nets carry, the lowest bit first
abbrev pub address : List Bit → List ℕ → ℕ
address s [] = 0
address s (p ∷ ps) = cond (is_one s p) 1 0 + 2 * address s ps

-- ---- gates

-- pin j of a gate as 0 or 1; one that the gate does not use is 0
abbrev pub pin_value : List Bit → Gate → ℕ → ℕ
pin_value s g j = cond (nat_lt j g.used && is_one s (slice_index g.pins j)) 1 0

abbrev pub row : List Bit → Gate → ℕ
row s g = pin_value s g 0 + 2 * pin_value s g 1 + 4 * pin_value s g 2 + 8 * pin_value s g 3

abbrev pub gate_bit : List Bit → Gate → Bit
gate_bit s g = bit_of (bit_at g.truth (row s g))

-- a gate takes its bit, and every other net keeps its own
abbrev pub tag_settle_net : List Bit → ℕ → Driver → List Bit
tag_settle_net s i (driver.Gate g) = slice_set s i (gate_bit s g)
tag_settle_net s i (driver.Flop «data») = s
tag_settle_net s i (driver.EnabledFlop «data» enable) = s
tag_settle_net s i driver.Input = s
tag_settle_net s i (driver.RomBit b) = s
tag_settle_net s i (driver.RamBit b) = s
tag_settle_net s i (driver.Constant b) = s

abbrev pub tag_settled_from : ℕ → List Net → List Bit → List Bit
tag_settled_from i [] s = s
tag_settled_from i (n ∷ ns) s = tag_settled_from (i + 1) ns (tag_settle_net s i n.driver)

-- what a net draws for its change from one bit to another
abbrev pub toggle : Net → Bit → Bit → ℕ
toggle n Zero Zero = 0
toggle n Zero One = n.rise
toggle n One Zero = n.fall
toggle n One One = 0

module _ (d : Core) where
  -- ---- the edge

  -- the place of a bit of a RAM word
  abbrev pub ram_place : ℕ → ℕ → ℕ
  ram_place word b = length d.nets + (16 * word + b)

  -- A flop takes its data's bit, an enabled one only if its enable is 1. A memory bit is that bit of the addressed word, in the
  -- RAM as it was before the edge.
  abbrev pub tag_edged : List Bit → (ℕ → Bit) → ℕ → Driver → Bit
  tag_edged s given i (driver.Gate g) = bit s i
  tag_edged s given i (driver.Flop «data») = bit s «data»
  tag_edged s given i (driver.EnabledFlop «data» enable) = cond (is_one s enable) (bit s «data») (bit s i)
  tag_edged s given i driver.Input = given i
  tag_edged s given i (driver.RomBit b) = bit_of (bit_at (slice_index d.rom (address s d.rom_address)) b)
  tag_edged s given i (driver.RamBit b) = bit s (ram_place (address s d.ram_address) b)
  tag_edged s given i (driver.Constant b) = bit_of b

  -- the word at the address takes the data bits if the write enable is 1, and every other word is kept
  abbrev pub tag_stored : List Bit → ℕ → ℕ → Bit
  tag_stored s word b =
      cond (is_one s d.write_enable && address s d.ram_address == word) (bit s (slice_index d.write_data b)) (bit s (ram_place word b))

  abbrev pub tag_edge : List Bit → (ℕ → Bit) → List Bit
  tag_edge s given =
      map (λ i. tag_edged s given i (driver_at d i)) (range_with_len 0 (length d.nets))
      ++ map (λ q. tag_stored s (q / 16) (q % 16)) (range_with_len 0 (16 * length d.ram))

  abbrev pub tag_settled : List Bit → List Bit
  tag_settled s = tag_settled_from 0 d.nets s

  abbrev pub tag_cycle : List Bit → (ℕ → Bit) → List Bit
  tag_cycle s given = tag_settled (tag_edge s given)

  -- ---- the energy of a cycle from one state to the next, in femtojoules

  abbrev pub net_energy : List Bit → List Bit → ℕ → ℕ
  net_energy s t i = (get_or d.nets i no_net).idle + toggle (slice_index_or d.nets i no_net) (bit s i) (bit t i)

  abbrev pub tag_energy : List Bit → List Bit → ℕ
  tag_energy s t =
      sum (map (net_energy s t) (range_with_len 0 (length d.nets)))
      + (d.rom_energy + (d.ram_energy + cond (is_one s d.write_enable) d.write_energy 0))

  -- The model's cycle over levels of one bit is the tag's, and the model's charge is its energy.
  pub record IsTheTag : Type 0 where
    pub of_gate : (s : List Bit) (g : Gate) → gate_output bit_kind s g ≡ gate_bit s g
    pub of_edge : (s : List Bit) (given : ℕ → Bit) → edge bit_kind d s given ≡ tag_edge s given
    pub of_settled : (s : List Bit) → settled bit_kind d s ≡ tag_settled s
    pub of_cycle : (s : List Bit) (given : ℕ → Bit) → cycled bit_kind d s given ≡ tag_cycle s given
    pub of_charge : (s t : List Bit) → charge bit_kind d s t ≡ tag_energy s t

  -- State t is one cycle on from state s: each gate's net has its bit for the row that its pins show in t itself, each other net
  -- and each RAM bit has what the edge gives it from s.
  pub record Follows (s : List Bit) (given : ℕ → Bit) (t : List Bit) : Type 0 where
    pub as_long : length t ≡ places d
    pub gates : (i : ℕ) (g : Gate) → driver_at d i ≡ driver.Gate g → bit t i ≡ gate_bit t g
    pub others : (i : ℕ) → i < length d.nets → is_gate (driver_at d i) ≡ false → bit t i ≡ tag_edged s given i (driver_at d i)
    pub words : (word b : ℕ) → word < length d.ram → b < 16 → bit t (ram_place word b) ≡ tag_stored s word b

-- in every core with sound memories, which thus have a word for each address
abbrev pub BitsAreTheTag : Type 0
BitsAreTheTag = (d : Core) → memories_sound d ≡ true → IsTheTag d

-- and in every such core with sound nets one state follows, which is the model's
abbrev pub OneStateFollows : Type 0
OneStateFollows =
    (d : Core) → nets_sound d ≡ true → memories_sound d ≡ true → (s : List Bit) (given : ℕ → Bit) →
    Follows d s given (cycled bit_kind d s given) × ((t : List Bit) → Follows d s given t → t ≡ cycled bit_kind d s given)
