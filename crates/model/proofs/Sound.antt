-- What a sound core's parts are. Assumes nothing.
use Rattle.std.proofs.Common.{◌≡◌, ℕ, zero, suc, ◌+◌, ◌*◌, ◌/◌, ◌%◌, ◌^◌, ◌<◌, ◌≤◌, Bool, true, ◌&&◌, eqb, ltb, leb, List, [], ◌∷◌, length, get_or, take, sym, ap, ◌∙◌, subst, arith, ltb-true, leb-true}
use Rattle.std.specs.List.{range_with_len}
use Rattle.std.proofs.lemmas.List.FromFn.{length-range_with_len, get_or-range_with_len}
use Rattle.std.proofs.lemmas.Bool.{and_parts, eqb-true}
use Rattle.levels.specs.declared.Tri.TheVariants.{X}
use Rattle.model.specs.declared.net.Gate.{Gate}
use Rattle.model.specs.declared.net.Driver.TheVariants as driver
use Rattle.model.specs.Core.{Core, driver_at, every, all_below, distinct, is_flop, flops, pin_sound, net_sound, nets_sound, memories_sound, wires_sound, pilots_sound, starts_sound, sound, known, flops_below}

pub every_at : {A : Type 0} (f : A → Bool) (xs : List A) (i : ℕ) (x : A) → every f xs ≡ true → i < length xs → f (get_or xs i x) ≡ true
every_at f [] i x e h = absurd (omega arith)
every_at f (y ∷ ys) zero x e h = (and_parts (f y) (every f ys) e).0
every_at f (y ∷ ys) (suc i) x e h = every_at f ys i x (and_parts (f y) (every f ys) e).1 (omega arith)

pub all_below_at : (n : ℕ) (f : ℕ → Bool) (i : ℕ) → all_below n f ≡ true → i < n → f i ≡ true
all_below_at n f i e h =
    let long : i < length (range_with_len 0 n) = subst (λ (m : ℕ). i < m) (sym (length-range_with_len 0 n)) h in
    let here : get_or (range_with_len 0 n) i 0 ≡ i = get_or-range_with_len 0 n i 0 h ∙ omega arith in
    ap f (sym here) ∙ every_at f (range_with_len 0 n) i 0 e long

-- a list of which each number is below n, at any place where 0 is below n too
pub below_at : (n : ℕ) (xs : List ℕ) (i : ℕ) → 0 < n → every (λ p. ltb p n) xs ≡ true → get_or xs i 0 < n
below_at n [] i h e = h
below_at n (x ∷ xs) zero h e = ltb-true x n (and_parts (ltb x n) (every (λ p. ltb p n) xs) e).0
below_at n (x ∷ xs) (suc i) h e = below_at n xs i h (and_parts (ltb x n) (every (λ p. ltb p n) xs) e).1

-- A sound core, part by part.
pub record Parts (d : Core) : Type 0 where
  pub some_nets : 0 < length d.nets
  pub few_nets : length d.nets ≤ 4096
  pub net : (i : ℕ) → i < length d.nets → net_sound d i (driver_at d i) ≡ true
  pub rom_words : length d.rom ≡ 2 ^ length d.rom_address
  pub rom_bits : length d.rom_address ≤ 10
  pub ram_words : length d.ram ≡ 2 ^ length d.ram_address
  pub ram_bits : length d.ram_address ≤ 8
  pub rom_wire : (i : ℕ) → get_or d.rom_address i 0 < length d.nets
  pub ram_wire : (i : ℕ) → get_or d.ram_address i 0 < length d.nets
  pub enable_wire : d.write_enable < length d.nets
  pub data_wires : length d.write_data ≡ 16
  pub data_wire : (i : ℕ) → get_or d.write_data i 0 < length d.nets
  pub mark_net : d.mark < length d.nets
  pub some_pilots : 0 < length d.pilots
  pub few_pilots : length d.pilots ≤ 16
  pub pilot : (i : ℕ) → i < length d.pilots → (get_or d.pilots i 0 < length d.nets) × (is_flop (driver_at d (get_or d.pilots i 0)) ≡ true)
  pub pilots_distinct : distinct d.pilots ≡ true
  pub whole_starts : length d.starts % flops d ≡ 0
  pub some_starts : 0 < length d.starts
  pub few_starts : length d.starts / flops d ≤ 8

first : (p q : Bool) → (p && q) ≡ true → p ≡ true
first p q e = (and_parts p q e).0

second : (p q : Bool) → (p && q) ≡ true → q ≡ true
second p q e = (and_parts p q e).1

three : (p q r : Bool) → (p && q && r) ≡ true → (p ≡ true) × (q ≡ true) × (r ≡ true)
three p q r e = let h = first (p && q) r e in (first p q h, second p q h, second (p && q) r e)

four : (p q r s : Bool) → (p && q && r && s) ≡ true → (p ≡ true) × (q ≡ true) × (r ≡ true) × (s ≡ true)
four p q r s e = let h = three p q r (first (p && q && r) s e) in (h.0, h.1, h.2, second (p && q && r) s e)

five : (p q r s t : Bool) → (p && q && r && s && t) ≡ true → (p ≡ true) × (q ≡ true) × (r ≡ true) × (s ≡ true) × (t ≡ true)
five p q r s t e = let h = four p q r s (first (p && q && r && s) t e) in (h.0, h.1, h.2, h.3, second (p && q && r && s) t e)

abbrev on_nets : Core → List ℕ → Bool
on_nets d ps = every (λ p. ltb p (length d.nets)) ps

pub sound_parts : (d : Core) → sound d ≡ true → Parts d
sound_parts d e =
    let all = five (nets_sound d) (memories_sound d) (wires_sound d) (pilots_sound d) (starts_sound d) e in
    let n = three (ltb 0 (length d.nets)) (leb (length d.nets) 4096) (all_below (length d.nets) (λ i. net_sound d i (driver_at d i))) all.0 in
    let m = four (eqb (length d.rom) (2 ^ length d.rom_address)) (leb (length d.rom_address) 10)
    (eqb (length d.ram) (2 ^ length d.ram_address)) (leb (length d.ram_address) 8) all.1 in
    let w = five (on_nets d d.rom_address) (on_nets d d.ram_address) (ltb d.write_enable (length d.nets))
    (eqb (length d.write_data) 16) (on_nets d d.write_data) all.2 in
    let p = five (ltb d.mark (length d.nets)) (ltb 0 (length d.pilots)) (leb (length d.pilots) 16)
    (every (λ q. ltb q (length d.nets) && is_flop (driver_at d q)) d.pilots) (distinct d.pilots) all.3 in
    let s = four (eqb (length d.starts % flops d) 0) (ltb 0 (length d.starts)) (leb (length d.starts / flops d) 8)
    (all_below (length d.starts / flops d) (λ j. every (λ q. known (get_or d.starts (j * flops d + flops_below d q) X)) d.pilots)) all.4 in
    let some : 0 < length d.nets = ltb-true 0 (length d.nets) n.0 in
    record {
      some_nets = some;
      few_nets = leb-true (length d.nets) 4096 n.1;
      net = λ i h. all_below_at (length d.nets) (λ i. net_sound d i (driver_at d i)) i n.2 h;
      rom_words = eqb-true (length d.rom) (2 ^ length d.rom_address) m.0;
      rom_bits = leb-true (length d.rom_address) 10 m.1;
      ram_words = eqb-true (length d.ram) (2 ^ length d.ram_address) m.2;
      ram_bits = leb-true (length d.ram_address) 8 m.3;
      rom_wire = λ i. below_at (length d.nets) d.rom_address i some w.0;
      ram_wire = λ i. below_at (length d.nets) d.ram_address i some w.1;
      enable_wire = ltb-true d.write_enable (length d.nets) w.2;
      data_wires = eqb-true (length d.write_data) 16 w.3;
      data_wire = λ i. below_at (length d.nets) d.write_data i some w.4;
      mark_net = ltb-true d.mark (length d.nets) p.0;
      some_pilots = ltb-true 0 (length d.pilots) p.1;
      few_pilots = leb-true (length d.pilots) 16 p.2;
      pilot = λ i h.
          let q : ℕ = get_or d.pilots i 0 in
          let b = and_parts (ltb q (length d.nets)) (is_flop (driver_at d q))
          (every_at (λ q. ltb q (length d.nets) && is_flop (driver_at d q)) d.pilots i 0 p.3 h) in
          (ltb-true q (length d.nets) b.0, b.1);
      pilots_distinct = p.4;
      whole_starts = eqb-true (length d.starts % flops d) 0 s.0;
      some_starts = ltb-true 0 (length d.starts) s.1;
      few_starts = leb-true (length d.starts / flops d) 8 s.2;
    }

pub nets_from_sound : (d : Core) → sound d ≡ true → nets_sound d ≡ true
nets_from_sound d e = (five (nets_sound d) (memories_sound d) (wires_sound d) (pilots_sound d) (starts_sound d) e).0

pub memories_from_sound : (d : Core) → sound d ≡ true → memories_sound d ≡ true
memories_from_sound d e = (five (nets_sound d) (memories_sound d) (wires_sound d) (pilots_sound d) (starts_sound d) e).1

-- a gate that net_sound passes: every pin field names a net
pub gate_pin : (d : Core) (i : ℕ) (g : Gate) → 0 < length d.nets → net_sound d i (driver.Gate g) ≡ true → (j : ℕ) → get_or g.pins j 0 < length d.nets
gate_pin d i g some e j =
    below_at (length d.nets) g.pins j some
    (five (ltb 0 g.used) (leb g.used 4) (eqb (length g.pins) 4) (every (pin_sound d i) (take g.used g.pins)) (on_nets d g.pins) e).4

pub gate_used : (d : Core) (i : ℕ) (g : Gate) → net_sound d i (driver.Gate g) ≡ true → (0 < g.used) × (g.used ≤ 4) × (length g.pins ≡ 4)
gate_used d i g e =
    let h = five (ltb 0 g.used) (leb g.used 4) (eqb (length g.pins) 4) (every (pin_sound d i) (take g.used g.pins)) (on_nets d g.pins) e in
    (ltb-true 0 g.used h.0, leb-true g.used 4 h.1, eqb-true (length g.pins) 4 h.2)
