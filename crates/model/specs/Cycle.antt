-- States and one cycle, for any kind of level. Assumes nothing.
use Rattle.std.specs.Prelude.{ℕ, ◌+◌, ◌*◌, ◌/◌, ◌%◌, Bool, true, false, cond, List, [], ◌∷◌, ◌++◌, map, length, ◌==◌, nat_lt, slice_index, slice_index_or, slice_set}
use Rattle.std.specs.List.{range_with_len}
use Rattle.levels.specs.Kinds.{Kind, bit_at, choice}
use Rattle.levels.specs.declared.Tri.{Tri}
use Rattle.levels.specs.declared.Tri.TheVariants.{Zero, One, X}
use Rattle.model.specs.declared.net.Gate.{Gate}
use Rattle.model.specs.declared.net.Driver.{Driver}
use Rattle.model.specs.declared.net.Driver.TheVariants as driver
use Rattle.model.specs.declared.net.Net.{Net}
use Rattle.model.specs.declared.net.RamWord.{RamWord}
use Rattle.model.specs.Core.{Core, no_word, driver_at, flops, flops_below, inputs_below}

module _ {V : Type 0} (k : Kind V) where
  abbrev pub at : List V → ℕ → V
  at s i = slice_index_or s i k.blank

  -- ---- cells

  -- pin j of a gate: its net's level, or constant 0 where the gate does not use it
  abbrev pub pin : List V → Gate → ℕ → V
  pin s g j = cond (nat_lt j g.used) (at s (slice_index g.pins j)) (k.of_bit false)

  abbrev pub gate_output : List V → Gate → V
  gate_output s g = k.apply g.truth (pin s g 0 ∷ (pin s g 1 ∷ (pin s g 2 ∷ (pin s g 3 ∷ []))))

  -- the cell of two pins with this truth word
  abbrev pub cell_of_two : ℕ → V → V → V
  cell_of_two t a b = k.apply t (a ∷ (b ∷ (k.of_bit false ∷ (k.of_bit false ∷ []))))

  -- ---- memories

  -- one layer of a tree of two-way choices: each two neighbours become one
  abbrev pub paired : V → List V → List V
  paired a leaves = map (λ i. choice k a (at leaves (2 * i)) (at leaves (2 * i + 1))) (range_with_len 0 (length leaves / 2))

  -- what an address picks out of the leaves, its lowest bit choosing nearest to them
  abbrev pub picked : List V → List V → V
  picked [] leaves = at leaves 0
  picked (a ∷ rest) leaves = picked rest (paired a leaves)

  -- whether a word is written: the enable joined with the match of each address bit, lowest first. Truth word 8 is AND, and 2
  -- is its first pin without its second.
  abbrev pub written : V → List V → ℕ → V
  written on [] word = on
  written on (a ∷ rest) word = written (cell_of_two (cond (word % 2 == 1) 8 2) on a) rest (word / 2)

  module _ (d : Core) where
    abbrev pub rom_leaves : ℕ → List V
    rom_leaves bit = map (λ word. k.of_bit (bit_at word bit)) d.rom

    -- a bit of each RAM word
    abbrev pub ram_leaves : List V → ℕ → List V
    ram_leaves s bit = map (λ word. at s (length d.nets + (16 * word + bit))) (range_with_len 0 (length d.ram))

    -- ---- the edge, which reads only the state before it

    -- the level of net i after the edge, before the gates settle
    abbrev pub edged : List V → (ℕ → V) → ℕ → Driver → V
    edged s given i (driver.Gate g) = at s i
    edged s given i (driver.Flop «data») = at s «data»
    edged s given i (driver.EnabledFlop «data» enable) = choice k (at s enable) (at s i) (at s «data»)
    edged s given i driver.Input = given i
    edged s given i (driver.RomBit bit) = picked (map (at s) d.rom_address) (rom_leaves bit)
    edged s given i (driver.RamBit bit) = picked (map (at s) d.ram_address) (ram_leaves s bit)
    edged s given i (driver.Constant bit) = k.of_bit bit

    -- whether the edge writes a RAM word, and a bit of it after the edge
    abbrev pub word_written : List V → ℕ → V
    word_written s word = written (at s d.write_enable) (map (at s) d.ram_address) word

    abbrev pub stored : List V → ℕ → ℕ → V
    stored s word bit =
        choice k (word_written s word) (at s (length d.nets + (16 * word + bit))) (at s (slice_index d.write_data bit))

    abbrev pub edge : List V → (ℕ → V) → List V
    edge s given =
        map (λ i. edged s given i (driver_at d i)) (range_with_len 0 (length d.nets))
        ++ map (λ j. stored s (j / 16) (j % 16)) (range_with_len 0 (16 * length d.ram))

    -- the inputs of a cycle, given one after the other in net order; an input that is not given is blank
    abbrev pub given_by : List V → ℕ → V
    given_by line i = at line (inputs_below d i)

    -- ---- gates settle in net order

    abbrev pub settle_net : List V → ℕ → Driver → List V
    settle_net s i (driver.Gate g) = slice_set s i (gate_output s g)
    settle_net s i (driver.Flop «data») = s
    settle_net s i (driver.EnabledFlop «data» enable) = s
    settle_net s i driver.Input = s
    settle_net s i (driver.RomBit bit) = s
    settle_net s i (driver.RamBit bit) = s
    settle_net s i (driver.Constant bit) = s

    abbrev pub settled_from : ℕ → List Net → List V → List V
    settled_from i [] s = s
    settled_from i (n ∷ ns) s = settled_from (i + 1) ns (settle_net s i n.driver)

    abbrev pub settled : List V → List V
    settled s = settled_from 0 d.nets s

    -- the state one cycle on
    abbrev pub cycled : List V → (ℕ → V) → List V
    cycled s given = settled (edge s given)

    -- ---- start states

    abbrev pub of_start : Tri → V
    of_start Zero = k.of_bit false
    of_start One = k.of_bit true
    of_start X = k.blank

    -- the level of net i in start j, before the gates settle
    abbrev pub begun : ℕ → ℕ → Driver → V
    begun j i (driver.Gate g) = k.blank
    begun j i (driver.Flop «data») = of_start (slice_index_or d.starts (j * flops d + flops_below d i) X)
    begun j i (driver.EnabledFlop «data» enable) = of_start (slice_index_or d.starts (j * flops d + flops_below d i) X)
    begun j i driver.Input = k.blank
    begun j i (driver.RomBit bit) = k.blank
    begun j i (driver.RamBit bit) = k.blank
    begun j i (driver.Constant bit) = k.of_bit bit

    abbrev pub ram_begun : RamWord → ℕ → V
    ram_begun word bit = cond (bit_at word.unknown bit) k.blank (k.of_bit (bit_at word.value bit))

    abbrev pub start_state : ℕ → List V
    start_state j =
        settled
        (map (λ i. begun j i (driver_at d i)) (range_with_len 0 (length d.nets))
        ++ map (λ q. ram_begun (slice_index_or d.ram (q / 16) no_word) (q % 16)) (range_with_len 0 (16 * length d.ram)))

    -- bit i of a key is that of pilot i
    abbrev pub key_from : List ℕ → List V → ℕ
    key_from [] s = 0
    key_from (p ∷ ps) s = cond (k.allows (at s p) true) 1 0 + 2 * key_from ps s

    abbrev pub key_of : List V → ℕ
    key_of s = key_from d.pilots s

    -- the first pilot is the halt flop
    abbrev pub halted : List V → Bool
    halted s = key_of s % 2 == 1
