-- A tag's core, and when it is sound. Assumes nothing.
use Rattle.std.specs.Prelude.{ℕ, ◌+◌, ◌*◌, ◌/◌, ◌%◌, ◌^◌, Bool, true, false, cond, not, ◌&&◌, ◌||◌, ltb, List, [], ◌∷◌, length, get_or, take, ◌==◌, nat_le, nat_lt, slice_index_or}
use Rattle.std.specs.List.{range_with_len}
use Rattle.levels.specs.declared.Tri.{Tri}
use Rattle.levels.specs.declared.Tri.TheVariants.{Zero, One, X}
use Rattle.model.specs.declared.net.Driver.{Driver}
use Rattle.model.specs.declared.net.Driver.TheVariants as driver
use Rattle.model.specs.declared.net.Net.{Net}
use Rattle.model.specs.declared.net.RamWord.{RamWord}

-- Addresses, pilots and the rest name nets by number. The starts stand one after the other, each with a level for each flop,
-- in net order.
pub record Core : Type 0 where
  pub clock : ℕ
  pub window : ℕ
  pub rom_energy : ℕ
  pub ram_energy : ℕ
  pub write_energy : ℕ
  pub nets : List Net
  pub rom : List ℕ
  pub ram : List RamWord
  pub rom_address : List ℕ
  pub ram_address : List ℕ
  pub write_enable : ℕ
  pub write_data : List ℕ
  pub mark : ℕ
  pub pilots : List ℕ
  pub starts : List Tri

abbrev pub no_net : Net
no_net = record { driver = driver.Constant false; rise = 0; fall = 0; idle = 0 }

abbrev pub no_word : RamWord
no_word = record { value = 0; unknown = 0 }

abbrev pub driver_at : Core → ℕ → Driver
driver_at d i = (get_or d.nets i no_net).driver

-- the places of a state: the nets, then 16 bits for each RAM word
abbrev pub places : Core → ℕ
places d = length d.nets + 16 * length d.ram

abbrev pub is_gate : Driver → Bool
is_gate (driver.Gate g) = true
is_gate (driver.Flop «data») = false
is_gate (driver.EnabledFlop «data» enable) = false
is_gate driver.Input = false
is_gate (driver.RomBit bit) = false
is_gate (driver.RamBit bit) = false
is_gate (driver.Constant bit) = false

abbrev pub is_flop : Driver → Bool
is_flop (driver.Gate g) = false
is_flop (driver.Flop «data») = true
is_flop (driver.EnabledFlop «data» enable) = true
is_flop driver.Input = false
is_flop (driver.RomBit bit) = false
is_flop (driver.RamBit bit) = false
is_flop (driver.Constant bit) = false

abbrev pub is_input : Driver → Bool
is_input (driver.Gate g) = false
is_input (driver.Flop «data») = false
is_input (driver.EnabledFlop «data» enable) = false
is_input driver.Input = true
is_input (driver.RomBit bit) = false
is_input (driver.RamBit bit) = false
is_input (driver.Constant bit) = false

-- how many nets of a list have a driver that passes a test
abbrev pub tally : (Driver → Bool) → List Net → ℕ
tally f [] = 0
tally f (n ∷ ns) = cond (f n.driver) 1 0 + tally f ns

-- the flops of a core, and those below a net: the place of its level in a start
abbrev pub flops : Core → ℕ
flops d = tally is_flop d.nets

abbrev pub flops_below : Core → ℕ → ℕ
flops_below d i = tally is_flop (take i d.nets)

-- the inputs of a core, and those below a net: the place of its level in a line of inputs
abbrev pub inputs : Core → ℕ
inputs d = tally is_input d.nets

abbrev pub inputs_below : Core → ℕ → ℕ
inputs_below d i = tally is_input (take i d.nets)

-- ---- soundness

abbrev pub every : {A : Type 0} → (A → Bool) → List A → Bool
every f [] = true
every f (x ∷ xs) = f x && every f xs

abbrev pub among : ℕ → List ℕ → Bool
among x [] = false
among x (y ∷ ys) = x == y || among x ys

abbrev pub distinct : List ℕ → Bool
distinct [] = true
distinct (x ∷ xs) = not (among x xs) && distinct xs

-- every number below n passes
abbrev pub all_below : ℕ → (ℕ → Bool) → Bool
all_below n f = every f (range_with_len 0 n)

-- a pin of net i: it names a net, and a gate only below i
abbrev pub pin_sound : Core → ℕ → ℕ → Bool
pin_sound d i p = nat_lt p (length d.nets) && (nat_lt p i || not (is_gate (driver_at d p)))

-- Net i names only nets. A gate has one to four pins, and no gate among them of its own number or a higher one; the pins
-- that it does not use are 0.
abbrev pub net_sound : Core → ℕ → Driver → Bool
net_sound d i (driver.Gate g) =
    nat_lt 0 g.used && nat_le g.used 4 && length g.pins == 4
    && every (pin_sound d i) (take g.used g.pins) && every (λ p. ltb p (length d.nets)) g.pins
net_sound d i (driver.Flop «data») = ltb «data» (length d.nets)
net_sound d i (driver.EnabledFlop «data» enable) = ltb «data» (length d.nets) && nat_lt enable (length d.nets)
net_sound d i driver.Input = true
net_sound d i (driver.RomBit bit) = nat_lt bit 16
net_sound d i (driver.RamBit bit) = nat_lt bit 16
net_sound d i (driver.Constant bit) = true

abbrev pub nets_sound : Core → Bool
nets_sound d =
    nat_lt 0 (length d.nets) && nat_le (length d.nets) 4096
    && all_below (length d.nets) (λ i. net_sound d i (driver_at d i))

abbrev pub memories_sound : Core → Bool
memories_sound d =
    (length d.rom == 2 ^ length d.rom_address) && nat_le (length d.rom_address) 10
    && length d.ram == 2 ^ length d.ram_address && nat_le (length d.ram_address) 8

abbrev pub wires_sound : Core → Bool
wires_sound d =
    every (λ p. ltb p (length d.nets)) d.rom_address && every (λ p. ltb p (length d.nets)) d.ram_address
    && nat_lt d.write_enable (length d.nets)
    && length d.write_data == 16 && every (λ p. ltb p (length d.nets)) d.write_data

-- the mark names a net; the pilots are one to sixteen distinct flops
abbrev pub pilots_sound : Core → Bool
pilots_sound d =
    nat_lt d.mark (length d.nets)
    && nat_lt 0 (length d.pilots) && nat_le (length d.pilots) 16
    && every (λ p. nat_lt p (length d.nets) && is_flop (driver_at d p)) d.pilots && distinct d.pilots

abbrev pub known : Tri → Bool
known Zero = true
known One = true
known X = false

-- one to eight whole starts, in each of which every pilot is known
abbrev pub starts_sound : Core → Bool
starts_sound d =
    (length d.starts % flops d == 0) && nat_lt 0 (length d.starts) && nat_le (length d.starts / flops d) 8
    && all_below (length d.starts / flops d)
    (λ j. every (λ p. known (slice_index_or d.starts (j * flops d + flops_below d p) X)) d.pilots)

abbrev pub sound : Core → Bool
sound d = nets_sound d && memories_sound d && wires_sound d && pilots_sound d && starts_sound d
