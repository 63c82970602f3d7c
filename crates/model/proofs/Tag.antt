-- Over bits the model is the tag. Assumes nothing.
use Rattle.std.proofs.Common.{◌≡◌, ℕ, zero, suc, ◌+◌, ◌*◌, ◌/◌, ◌%◌, ◌^◌, ◌<◌, Bool, true, false, cond, ◌&&◌, eqb, ltb, leb, List, [], ◌∷◌, ◌++◌, map, length, get_or, set, sum, sym, refl, ap, ◌∙◌, subst, ap₂, pow-suc, arith}
use lib.ListN.{length-map}
use Rattle.std.specs.List.{range_with_len}
use Rattle.std.proofs.lemmas.List.FromFn.{get_or-map-range_with_len, length-map-range_with_len}
use Rattle.std.proofs.lemmas.List.{get_or-map}
use Rattle.std.proofs.lemmas.Bool.{and_parts, eqb-true}
use Rattle.levels.specs.Kinds.{Covers, bit_at, choice}
use Rattle.levels.specs.Bits.{bit_kind, bit_is, bit_of, bit_allows}
use Rattle.levels.specs.declared.Bit.{Bit}
use Rattle.levels.specs.declared.Bit.TheVariants.{Zero, One}
use Rattle.levels.specs.BitLaws.{bit_lawful}
use Rattle.levels.specs.Words.{same_eq}
use Rattle.model.specs.declared.net.Gate.{Gate}
use Rattle.model.specs.declared.net.Driver.{Driver}
use Rattle.model.specs.declared.net.Driver.TheVariants as driver
use Rattle.model.specs.declared.net.Net.{Net}
use Rattle.model.specs.Core.{Core, no_net, driver_at, memories_sound}
use Rattle.model.specs.Cycle.{at, pin, gate_output, picked, written, rom_leaves, ram_leaves, edged, stored, edge, settle_net, settled_from}
use Rattle.model.specs.Energy.{change, net_charge, charge}
use Rattle.model.specs.Exact.{number, Allowed}
use Rattle.model.specs.Tag.{bit, is_one, address, pin_value, row, gate_bit, tag_settle_net, tag_settled_from, ram_place, tag_edged, tag_stored, tag_edge, tag_settled, toggle, net_energy, tag_energy, BitsAreTheTag}
use Rattle.model.proofs.Exact.{gates_are_exact, reads_are_exact, writes_are_exact, choice_gives}

-- a bit that allows what another allows is that bit
one_bit : (v w : Bit) → Covers bit_kind bit_kind w v → v ≡ w
one_bit Zero Zero h = refl
one_bit Zero One h = ap bit_of (h false refl)
one_bit One Zero h = ap bit_of (sym (h true refl))
one_bit One One h = refl

own_bit : (v : Bit) (b : Bool) → bit_allows v b ≡ true → b ≡ bit_is v
own_bit v b h = sym (same_eq (bit_is v) b h)

-- bits allow one choice
own_bits : (vs : List Bit) (cs : List Bool) → Allowed bit_kind vs cs → cs ≡ map bit_is vs
own_bits [] [] h = refl
own_bits [] (c ∷ cs) h = absurd h
own_bits (v ∷ vs) [] h = absurd h
own_bits (v ∷ vs) (c ∷ cs) h = ap₂ (λ (x : Bool) (xs : List Bool). x ∷ xs) (own_bit v c h.0) (own_bits vs cs h.1)

own_number : (s : List Bit) (ps : List ℕ) → number (map bit_is (map (at bit_kind s) ps)) ≡ address s ps
own_number s [] = refl
own_number s (p ∷ ps) = ap (λ (n : ℕ). cond (is_one s p) 1 0 + 2 * n) (own_number s ps)

chosen_number : (s : List Bit) (ps : List ℕ) (cs : List Bool) → Allowed bit_kind (map (at bit_kind s) ps) cs → number cs ≡ address s ps
chosen_number s ps cs h = ap number (own_bits (map (at bit_kind s) ps) cs h) ∙ own_number s ps

-- ---- the cells

pub choice_is : (a x y : Bit) → choice bit_kind a x y ≡ cond (bit_is a) y x
choice_is a x y =
    one_bit (choice bit_kind a x y) (cond (bit_is a) y x)
    (λ b e. let c = choice_gives bit_kind bit_lawful a x y b e in
    subst (λ (z : Bool). bit_allows (cond z y x) b ≡ true) (own_bit a c.0 c.1) c.2)

pub read_is : (s : List Bit) (ps : List ℕ) (leaves : List Bit) → length leaves ≡ 2 ^ length ps →
    picked bit_kind (map (at bit_kind s) ps) leaves ≡ at bit_kind leaves (address s ps)
read_is s ps leaves long =
    one_bit (picked bit_kind (map (at bit_kind s) ps) leaves) (at bit_kind leaves (address s ps))
    (λ b e. let r = ((reads_are_exact bit_kind bit_lawful (map (at bit_kind s) ps) leaves
    (long ∙ ap (λ (n : ℕ). 2 ^ n) (sym (length-map ps (at bit_kind s))))).allowed b).0 e in
    subst (λ (n : ℕ). bit_allows (at bit_kind leaves n) b ≡ true) (chosen_number s ps r.0 r.1) r.2)

pub write_is : (s : List Bit) (enable : ℕ) (ps : List ℕ) (word : ℕ) (old new : Bit) → word < 2 ^ length ps →
    choice bit_kind (written bit_kind (at bit_kind s enable) (map (at bit_kind s) ps) word) old new
    ≡ cond (is_one s enable && eqb (address s ps) word) new old
write_is s enable ps word old new low =
    one_bit (choice bit_kind (written bit_kind (at bit_kind s enable) (map (at bit_kind s) ps) word) old new)
    (cond (is_one s enable && eqb (address s ps) word) new old)
    (λ b e. let r = ((writes_are_exact bit_kind bit_lawful (at bit_kind s enable) (map (at bit_kind s) ps) word old new
    (subst (λ (n : ℕ). word < 2 ^ n) (sym (length-map ps (at bit_kind s))) low)).exact.allowed b).0 e in
    let w = r.1 in
    subst (λ (z : Bool). bit_allows (cond z new old) b ≡ true)
    (sym w.4 ∙ ap₂ (λ (c : Bool) (n : ℕ). c && eqb n word) (own_bit (at bit_kind s enable) w.0 w.2) (chosen_number s ps w.1 w.3))
    r.2)

-- ---- gates

pin_is : (s : List Bit) (g : Gate) (i : ℕ) → cond (bit_is (pin bit_kind s g i)) 1 0 ≡ pin_value s g i
pin_is s g i = go (ltb i g.used)
  where
    go : (b : Bool) → ◌≡◌ {A = ℕ} (cond (bit_is (cond b (at bit_kind s (get_or g.pins i 0)) Zero)) 1 0) (cond (b && is_one s (get_or g.pins i 0)) 1 0)
    go true = refl
    go false = refl

abbrev pins : List Bit → Gate → List Bit
pins s g = pin bit_kind s g 0 ∷ (pin bit_kind s g 1 ∷ (pin bit_kind s g 2 ∷ (pin bit_kind s g 3 ∷ [])))

row_is : (s : List Bit) (g : Gate) → number (map bit_is (pins s g)) ≡ row s g
row_is s g = omega (arith, pin_is s g 0, pin_is s g 1, pin_is s g 2, pin_is s g 3)

pub gate_is : (s : List Bit) (g : Gate) → gate_output bit_kind s g ≡ gate_bit s g
gate_is s g =
    one_bit (gate_output bit_kind s g) (gate_bit s g)
    (λ b e. let r = ((gates_are_exact bit_kind bit_lawful s g).allowed b).0 e in
    let there : bit_at g.truth (row s g) ≡ b =
    ap (bit_at g.truth) (sym (row_is s g) ∙ ap number (sym (own_bits (pins s g) r.0 r.1))) ∙ r.2 in
    ap (λ (x : Bool). bit_allows (bit_of x) b) there ∙ own b)
  where
    own : (b : Bool) → bit_allows (bit_of b) b ≡ true
    own true = refl
    own false = refl

module _ (d : Core) where
  settle_is : (s : List Bit) (i : ℕ) (u : Driver) → settle_net bit_kind d s i u ≡ tag_settle_net s i u
  settle_is s i (driver.Gate g) = ap (set s i) (gate_is s g)
  settle_is s i (driver.Flop «data») = refl
  settle_is s i (driver.EnabledFlop «data» enable) = refl
  settle_is s i driver.Input = refl
  settle_is s i (driver.RomBit b) = refl
  settle_is s i (driver.RamBit b) = refl
  settle_is s i (driver.Constant b) = refl

  settled_from_is : (i : ℕ) (ns : List Net) (s : List Bit) → settled_from bit_kind d i ns s ≡ tag_settled_from i ns s
  settled_from_is i [] s = refl
  settled_from_is i (n ∷ ns) s =
      settled_from_is (i + 1) ns (settle_net bit_kind d s i n.driver) ∙ ap (tag_settled_from (i + 1) ns) (settle_is s i n.driver)

-- ---- the edge

address_below : (s : List Bit) (ps : List ℕ) → address s ps < 2 ^ length ps
address_below s [] = omega arith
address_below s (p ∷ ps) = go (is_one s p) (address_below s ps)
  where
    go : (b : Bool) → address s ps < 2 ^ length ps → cond b 1 0 + 2 * address s ps < 2 ^ length (p ∷ ps)
    go true h = let q = pow-suc 2 (length ps) in omega arith
    go false h = let q = pow-suc 2 (length ps) in omega arith

pub map_below : {X : Type 0} (f g : ℕ → X) (a n : ℕ) → ((i : ℕ) → i < a + n → f i ≡ g i) → map f (range_with_len a n) ≡ map g (range_with_len a n)
map_below f g a zero h = refl
map_below {X} f g a (suc n) h =
    ap₂ (λ (x : X) (xs : List X). x ∷ xs) (h a (omega arith)) (map_below f g (a + 1) n (λ i low. h i (omega arith)))

module _ (d : Core) (ok : memories_sound d ≡ true) where
  abbrev rom_full : Bool
  rom_full = eqb (length d.rom) (2 ^ length d.rom_address)

  abbrev rom_small : Bool
  rom_small = leb (length d.rom_address) 10

  abbrev ram_full : Bool
  ram_full = eqb (length d.ram) (2 ^ length d.ram_address)

  full : ((rom_full && rom_small) && ram_full) ≡ true
  full = (and_parts ((rom_full && rom_small) && ram_full) (leb (length d.ram_address) 8) ok).0

  rom_length : length d.rom ≡ 2 ^ length d.rom_address
  rom_length = eqb-true (length d.rom) (2 ^ length d.rom_address) (and_parts rom_full rom_small (and_parts (rom_full && rom_small) ram_full full).0).0

  ram_length : length d.ram ≡ 2 ^ length d.ram_address
  ram_length = eqb-true (length d.ram) (2 ^ length d.ram_address) (and_parts (rom_full && rom_small) ram_full full).1

  pub edged_is : (s : List Bit) (given : ℕ → Bit) (i : ℕ) (u : Driver) → edged bit_kind d s given i u ≡ tag_edged d s given i u
  edged_is s given i (driver.Gate g) = refl
  edged_is s given i (driver.Flop «data») = refl
  edged_is s given i (driver.EnabledFlop «data» enable) = choice_is (bit s enable) (bit s i) (bit s «data»)
  edged_is s given i driver.Input = refl
  edged_is s given i (driver.RomBit b) =
      read_is s d.rom_address (rom_leaves bit_kind d b) (length-map d.rom (λ word. bit_of (bit_at word b)) ∙ rom_length)
      ∙ get_or-map (λ word. bit_of (bit_at word b)) d.rom (address s d.rom_address) 0 Zero
      (omega (arith, rom_length, address_below s d.rom_address))
  edged_is s given i (driver.RamBit b) =
      read_is s d.ram_address (ram_leaves bit_kind d s b)
      (length-map-range_with_len (λ word. bit s (ram_place d word b)) 0 (length d.ram) ∙ ram_length)
      ∙ get_or-map-range_with_len (λ word. bit s (ram_place d word b)) 0 (length d.ram) (address s d.ram_address) (address s d.ram_address) Zero
      (omega (arith, ram_length, address_below s d.ram_address)) (omega arith)
  edged_is s given i (driver.Constant b) = refl

  pub stored_is : (s : List Bit) (word b : ℕ) → word < length d.ram → stored bit_kind d s word b ≡ tag_stored d s word b
  stored_is s word b low =
      write_is s d.write_enable d.ram_address word (bit s (ram_place d word b)) (bit s (get_or d.write_data b 0)) (omega (arith, ram_length))

  edge_is : (s : List Bit) (given : ℕ → Bit) → edge bit_kind d s given ≡ tag_edge d s given
  edge_is s given =
      ap₂ (λ (x y : List Bit). x ++ y)
      (map_below (λ i. edged bit_kind d s given i (driver_at d i)) (λ i. tag_edged d s given i (driver_at d i)) 0 (length d.nets)
      (λ i low. edged_is s given i (driver_at d i)))
      (map_below (λ q. stored bit_kind d s (q / 16) (q % 16)) (λ q. tag_stored d s (q / 16) (q % 16)) 0 (16 * length d.ram)
      (λ q low. stored_is s (q / 16) (q % 16) (omega arith)))

  -- ---- the energy

  toggle_is : (n : Net) (v w : Bit) → change n (bit_allows v) (bit_allows w) ≡ toggle n v w
  toggle_is n Zero Zero = omega arith
  toggle_is n Zero One = omega arith
  toggle_is n One Zero = omega arith
  toggle_is n One One = omega arith

  enable_is : (v : Bit) → cond (bit_allows v true) d.write_energy 0 ≡ cond (bit_is v) d.write_energy 0
  enable_is Zero = refl
  enable_is One = refl

  charge_is : (s t : List Bit) → charge bit_kind d s t ≡ tag_energy d s t
  charge_is s t =
      ap₂ ◌+◌
      (ap sum (map_below (net_charge bit_kind d s t) (net_energy d s t) 0 (length d.nets)
      (λ i low. ap (λ (x : ℕ). (get_or d.nets i no_net).idle + x) (toggle_is (get_or d.nets i no_net) (bit s i) (bit t i)))))
      (ap (λ (x : ℕ). d.rom_energy + (d.ram_energy + x)) (enable_is (bit s d.write_enable)))

pub bits_are_the_tag : BitsAreTheTag
bits_are_the_tag d ok = record {
  of_gate = gate_is;
  of_edge = edge_is d ok;
  of_settled = settled_from_is d 0 d.nets;
  of_cycle = λ s given. settled_from_is d 0 d.nets (edge bit_kind d s given) ∙ ap (tag_settled d) (edge_is d ok s given);
  of_charge = charge_is d ok;
}
