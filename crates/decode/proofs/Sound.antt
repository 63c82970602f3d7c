-- A bundle that is not refused stands for a sound core.
use Rattle.std.proofs.Common.{◌≡◌, ℕ, ◌+◌, ◌-◌, ◌*◌, ◌/◌, ◌%◌, ◌^◌, ◌<◌, ◌≤◌, Bool, true, false, cond, ◌&&◌, eqb, ltb, List, map, length, get_or, take, drop, is_some, Some, None, Option, unwrap_or, sym, refl, ap, ◌∙◌, subst, arith}
use Rattle.std.specs.List.{AllByRecursion}
use Rattle.std.proofs.lemmas.List.{length-take-le, length-drop}
use Rattle.std.proofs.lemmas.Bool.{and_parts, and_from, lt-ltb, ltb-true, le-leb, eq-eqb}
use Rattle.std.proofs.lemmas.Nat.{mul-add-lt, mod-mul-add, div-add-mod'}
use Rattle.levels.specs.declared.Tri.{Tri}
use Rattle.levels.specs.declared.Tri.TheVariants.{Zero, One, X}
use Rattle.bundle.specs.declared.refusal.Fault.TheVariants as fault
use Rattle.bundle.specs.Format.{ask, byte}
use Rattle.model.specs.Core.{no_word, every, among, is_flop, tally, known, sound, starts_sound, nets_sound, memories_sound, wires_sound, pilots_sound, net_sound, driver_at}
use Rattle.decode.specs.Entries.{only_if, first_unread, entries}
use Rattle.decode.specs.Cells.{cell_count, cell_read}
use Rattle.decode.specs.Nets.{net_count, net_read}
use Rattle.decode.specs.Words.{word, word_count, rom_read, wire_read, ram_count, ram_read}
use Rattle.decode.specs.Pilots.{pilot_read, start_level, start_read}
use Rattle.decode.specs.Decode.{Parts, parts_refusal, cells_of, rom_bits, ram_bits, all_nets, all_wires, all_pilots, whole_starts, core_from}
use Rattle.decode.proofs.Asking.{entry_at, entry_read, length_entries, only_met, only_value}
use Rattle.decode.proofs.Every.{every_from, every_take, every_drop, all_below_from, among_map}
use Rattle.decode.proofs.Refusing.{Passed, each_passed, asked_yes, both_passed, counted_yes}
use Rattle.decode.proofs.Steps.{flop_place, whole_parts}
use Rattle.decode.proofs.Whole.{questions, rom_few, ram_few}
use Rattle.decode.proofs.NetFacts.{each_net_sound}
use Rattle.decode.proofs.PilotFacts.{pilot_names, length_pilots, each_pilot, pilots_distinct}

some_of : (o : Option ℕ) → is_some o ≡ true → o ≡ Some (unwrap_or o 0)
some_of None e = let z : ◌≡◌ {A = ℕ} 0 1 = cc in absurd (omega arith)
some_of (Some a) e = refl

-- a level that a pilot may have is known
pilot_known : (b : ℕ) → is_some (start_level true b) ≡ true → known (unwrap_or (start_level true b) X) ≡ true
pilot_known b h = go (eqb b 0) (eqb b 1) (eqb b 2) h
  where
    go : (x y z : Bool) → is_some (cond x (Some Zero) (cond y (Some One) (cond z (only_if false X) None))) ≡ true
        → known (unwrap_or (cond x (Some Zero) (cond y (Some One) (cond z (only_if false X) None))) X) ≡ true
    go true y z h = refl
    go false true z h = refl
    go false false true h = h
    go false false false h = h

module _ (p : Parts) (taken : Passed (parts_refusal p)) where
  asked : AllByRecursion Passed (questions p)
  asked = each_passed (questions p) taken

  cells_read : (1 ≤ cell_count p.cells) × (cell_count p.cells ≤ 64) × Passed (first_unread (cell_read p.cells) fault.Cells (cell_count p.cells))
  cells_read = counted_yes 1 64 (cell_read p.cells) fault.Cells (cell_count p.cells) asked.1.0

  nets_read : (1 ≤ net_count p.nets) × (net_count p.nets ≤ 4096) × Passed (first_unread (net_read (cells_of p.cells) p.nets) fault.Nets (net_count p.nets))
  nets_read = counted_yes 1 4096 (net_read (cells_of p.cells) p.nets) fault.Nets (net_count p.nets) asked.1.1.0

  pub nets_few : net_count p.nets ≤ 4096
  nets_few = nets_read.1

  pub long : length (all_nets p) ≡ net_count p.nets
  long = length_entries (net_read (cells_of p.cells) p.nets) (net_count p.nets) _

  sound_nets : nets_sound (core_from p) ≡ true
  sound_nets =
      and_from _ _ (and_from _ _ (lt-ltb 0 (length (all_nets p)) (omega (arith, long, nets_read.0))) (le-leb (length (all_nets p)) 4096 (omega (arith, long, nets_read.1))))
      (all_below_from (length (all_nets p)) (λ i. net_sound (core_from p) i (driver_at (core_from p) i))
      (λ i h. each_net_sound p.cells p.nets fault.Cells fault.Nets cells_read.2 nets_read.2 nets_read.0 (core_from p) refl i (omega (arith, long))))

  -- ---- memories and wires

  abbrev a : ℕ
  a = unwrap_or (rom_bits p.rom) 0

  abbrev b : ℕ
  b = unwrap_or (ram_bits p.ram) 0

  both_bits : (rom_bits p.rom ≡ Some a) × (ram_bits p.ram ≡ Some b)
  both_bits =
      let h = both_passed (ask (is_some (rom_bits p.rom) && is_some (ram_bits p.ram)) fault.Words) (first_unread (ram_read p.ram) fault.Words (ram_count p.ram)) asked.1.1.1.0 in
      let t = and_parts (is_some (rom_bits p.rom)) (is_some (ram_bits p.ram)) (asked_yes _ fault.Words h.0) in
      (some_of (rom_bits p.rom) t.0, some_of (ram_bits p.ram) t.1)

  few_rom : (word_count p.rom ≡ 2 ^ a) × (a ≤ 10)
  few_rom = rom_few p a b both_bits.0 both_bits.1

  pub few_ram : (ram_count p.ram ≡ 2 ^ b) × (b ≤ 8)
  few_ram = ram_few p a b both_bits.0 both_bits.1

  wires_read : (a + b + 17 ≤ word_count p.wires) × (word_count p.wires ≤ a + b + 17) × Passed (first_unread (wire_read (net_count p.nets) p.wires) fault.Wires (word_count p.wires))
  wires_read = counted_yes (a + b + 17) (a + b + 17) (wire_read (net_count p.nets) p.wires) fault.Wires (word_count p.wires) asked.1.1.1.1.0

  pub wires_long : length (all_wires p) ≡ a + b + 17
  wires_long = omega (arith, length_entries (wire_read (net_count p.nets) p.wires) (word_count p.wires) 0, wires_read.0, wires_read.1)

  abbrev Named : ℕ → Bool
  Named x = ltb x (length (all_nets p))

  wire_named : (k : ℕ) → k < length (all_wires p) → Named (get_or (all_wires p) k 0) ≡ true
  wire_named k h =
      let l : k < word_count p.wires = omega (arith, wires_long, wires_read.0) in
      let t = only_met (ltb (word p.wires k) (net_count p.nets)) (word p.wires k) (entry_read (wire_read (net_count p.nets) p.wires) (word_count p.wires) fault.Wires wires_read.2 k l) in
      let v : get_or (all_wires p) k 0 ≡ word p.wires k
      = entry_at (wire_read (net_count p.nets) p.wires) (word_count p.wires) 0 0 k l ∙ only_value (ltb (word p.wires k) (net_count p.nets)) (word p.wires k) 0 t in
      lt-ltb (get_or (all_wires p) k 0) (length (all_nets p)) (omega (arith, long, ltb-true (word p.wires k) (net_count p.nets) t))

  wires_named : every Named (all_wires p) ≡ true
  wires_named = every_from Named 0 (all_wires p) wire_named

  part_long : (i m : ℕ) → i + m ≤ a + b + 17 → length (take m (drop i (all_wires p))) ≡ m
  part_long i m h = length-take-le m (drop i (all_wires p)) (omega (arith, length-drop i (all_wires p), wires_long))

  sound_memories : memories_sound (core_from p) ≡ true
  sound_memories =
      let ra = part_long 0 a (omega arith) in
      let rb = part_long a b (omega arith) in
      let lr = length_entries (rom_read p.rom) (word_count p.rom) 0 in
      let lm = length_entries (ram_read p.ram) (ram_count p.ram) no_word in
      and_from _ _ (and_from _ _ (and_from _ _
      (eq-eqb _ _ (lr ∙ (few_rom.0 ∙ ap (λ (m : ℕ). 2 ^ m) (sym ra))))
      (le-leb _ 10 (omega (arith, few_rom.1))))
      (eq-eqb _ _ (lm ∙ (few_ram.0 ∙ ap (λ (m : ℕ). 2 ^ m) (sym rb)))))
      (le-leb _ 8 (omega (arith, few_ram.1)))

  sound_wires : wires_sound (core_from p) ≡ true
  sound_wires =
      and_from _ _ (and_from _ _ (and_from _ _ (and_from _ _
      (every_take Named a (all_wires p) wires_named)
      (every_take Named b (drop a (all_wires p)) (every_drop Named a (all_wires p) wires_named)))
      (wire_named (a + b) (omega (arith, wires_long))))
      (eq-eqb _ 16 (part_long (a + b + 1) 16 (omega arith))))
      (every_take Named 16 (drop (a + b + 1) (all_wires p)) (every_drop Named (a + b + 1) (all_wires p) wires_named))

  -- ---- pilots

  pilots_read : (2 ≤ word_count p.pilots) × (word_count p.pilots ≤ 17) × Passed (first_unread (pilot_read (all_nets p) p.pilots) fault.Pilots (word_count p.pilots))
  pilots_read = counted_yes 2 17 (pilot_read (all_nets p) p.pilots) fault.Pilots (word_count p.pilots) asked.1.1.1.1.1.0

  pub all_pilots_long : 0 < length (all_pilots p)
  all_pilots_long = omega (arith, length_entries (pilot_read (all_nets p) p.pilots) (word_count p.pilots) 0, pilots_read.0)

  pilots_long : length (drop 1 (all_pilots p)) ≡ word_count p.pilots - 1
  pilots_long = length_pilots (all_nets p) p.pilots fault.Pilots pilots_read.2

  sound_pilots : pilots_sound (core_from p) ≡ true
  sound_pilots =
      and_from _ _ (and_from _ _ (and_from _ _ (and_from _ _
      (lt-ltb _ _ (pilot_names (all_nets p) p.pilots fault.Pilots pilots_read.2 0 (omega (arith, pilots_read.0))))
      (lt-ltb 0 _ (omega (arith, pilots_long, pilots_read.0))))
      (le-leb _ 16 (omega (arith, pilots_long, pilots_read.1))))
      (every_from (λ q. ltb q (length (all_nets p)) && is_flop (driver_at (core_from p) q)) 0 (drop 1 (all_pilots p))
      (λ k h. let e = each_pilot (all_nets p) p.pilots fault.Pilots pilots_read.2 k h in
      and_from _ _ (lt-ltb _ _ e.0) e.1)))
      (pilots_distinct (all_nets p) p.pilots fault.Pilots pilots_read.2)

  -- ---- starts

  abbrev Flops : ℕ
  Flops = tally is_flop (all_nets p)

  abbrev Place : ℕ → ℕ
  Place q = tally is_flop (take q (all_nets p))

  abbrev Pilots : List ℕ
  Pilots = drop 1 (all_pilots p)

  abbrev Start : ℕ → Option Tri
  Start = start_read Flops (map Place Pilots) p.starts

  starts_read : (whole_starts Flops (length p.starts) ≡ true) × Passed (first_unread Start fault.Starts (length p.starts))
  starts_read =
      let h = both_passed (ask (whole_starts Flops (length p.starts)) fault.Starts) (first_unread Start fault.Starts (length p.starts)) asked.1.1.1.1.1.1.0 in
      (asked_yes (whole_starts Flops (length p.starts)) fault.Starts h.0, h.1)

  pub starts_whole : (length p.starts % Flops ≡ 0) × (0 < length p.starts) × (length p.starts / Flops ≤ 8)
  starts_whole = whole_parts Flops (length p.starts) starts_read.0

  pub starts_long : length (entries Start X (length p.starts)) ≡ length p.starts
  starts_long = length_entries Start (length p.starts) X

  -- pilot k in start j is known
  start_known : (j k : ℕ) → j < length p.starts / Flops → k < length Pilots → known (get_or (entries Start X (length p.starts)) (j * Flops + Place (get_or Pilots k 0)) X) ≡ true
  start_known j k h l =
      let q : ℕ = get_or Pilots k 0 in
      let e = each_pilot (all_nets p) p.pilots fault.Pilots pilots_read.2 k l in
      let f : Place q < Flops = flop_place (all_nets p) q e.0 e.1 in
      let i : ℕ = j * Flops + Place q in
      let m : i < length p.starts = omega (arith, mul-add-lt j Flops (Place q) (length p.starts / Flops) h f, div-add-mod' (length p.starts) Flops) in
      let r : among (i % Flops) (map Place Pilots) ≡ true
      = ap (λ (x : ℕ). among x (map Place Pilots)) (mod-mul-add j Flops (Place q) f) ∙ among_map Place Pilots k l in
      let s : Start i ≡ start_level true (byte p.starts i) = ap (λ (t : Bool). start_level t (byte p.starts i)) r in
      ap known (entry_at Start (length p.starts) X X i m ∙ ap (λ (o : Option Tri). unwrap_or o X) s)
      ∙ pilot_known (byte p.starts i) (ap is_some (sym s) ∙ entry_read Start (length p.starts) fault.Starts starts_read.1 i m)

  sound_starts : starts_sound (core_from p) ≡ true
  sound_starts =
      and_from _ _ (ap (λ (n : ℕ). whole_starts Flops n) starts_long ∙ starts_read.0)
      (all_below_from (length (entries Start X (length p.starts)) / Flops) _
      (λ j h. every_from (λ q. known (get_or (entries Start X (length p.starts)) (j * Flops + Place q) X)) 0 Pilots
      (λ k l. start_known j k (subst (λ (n : ℕ). j < n / Flops) starts_long h) l)))

  pub some_flop : 0 < Flops
  some_flop =
      let l : 0 < length Pilots = omega (arith, pilots_long, pilots_read.0) in
      let e = each_pilot (all_nets p) p.pilots fault.Pilots pilots_read.2 0 l in
      omega (arith, flop_place (all_nets p) (get_or Pilots 0 0) e.0 e.1)

  pub sound_core : sound (core_from p) ≡ true
  sound_core =
      and_from _ _ (and_from _ _ (and_from _ _ (and_from _ _ sound_nets sound_memories) sound_wires) sound_pilots) sound_starts
