-- What nets that can be read are.
use Rattle.std.proofs.Common.{◌≡◌, ℕ, zero, suc, ◌+◌, ◌*◌, ◌^◌, ◌<◌, ◌≤◌, Bool, true, false, cond, not, ◌&&◌, ◌||◌, eqb, ltb, leb, ◌⊎◌, List, [], ◌∷◌, length, get_or, take, is_some, Some, None, Option, unwrap_or, sym, refl, ap, ◌∙◌, subst, inl, inr, arith}
use Rattle.std.specs.List.{slice_get}
use Rattle.std.proofs.lemmas.Option.{slice_get-get_or, slice_get_past}
use Rattle.std.proofs.lemmas.Bool.{and_parts, and_from, leb-true, lt-ltb, ltb-true, eqb-true, cases_lt, both_ways}
use Rattle.bundle.specs.declared.refusal.Fault.{Fault}
use Rattle.bundle.specs.Format.{byte, two_bytes}
use Rattle.model.specs.declared.net.Driver.{Driver}
use Rattle.model.specs.declared.net.Driver.TheVariants as driver
use Rattle.model.specs.declared.net.Net.{Net}
use Rattle.model.specs.Core.{Core, no_net, driver_at, is_gate, every, pin_sound, net_sound}
use Rattle.decode.specs.declared.cells.Use.{Use}
use Rattle.decode.specs.declared.cells.Use.TheVariants as usage
use Rattle.decode.specs.declared.cells.Cell.{Cell}
use Rattle.decode.specs.Entries.{only_if, first_unread}
use Rattle.decode.specs.Cells.{no_cell, cell_count, cell_right, cell_from, cell_of_use, cell_read, use_of}
use Rattle.decode.specs.Nets.{gate_use, gate_cell, fields_right, net_count, cell_number, pin_field, pin_fields, cell_of, pin_right, driver_read, net_of_driver, net_of_cell, net_read}
use Rattle.decode.specs.Decode.{cells_of, nets_of}
use Rattle.decode.proofs.Asking.{entry_at, entry_read, length_entries, only_met, only_value}
use Rattle.decode.proofs.Every.{every_weaker}

-- ---- cells

-- a cell that was read is right
abbrev Right : Cell → Type 0
Right c = cell_right c.usage c.pins c.truth ≡ true

read_right : (bs : List ℕ) (at : ℕ) (u : Option Use) → is_some (cell_of_use bs at u) ≡ true → (d : Cell) → Right (unwrap_or (cell_of_use bs at u) d)
read_right bs at None h d = let z : ◌≡◌ {A = ℕ} 0 1 = cc in absurd (omega arith)
read_right bs at (Some u) h d =
    let t = only_met (cell_right u (byte bs at) (two_bytes bs (at + 2))) (cell_from bs at u) h in
    subst Right (sym (only_value (cell_right u (byte bs at) (two_bytes bs (at + 2))) (cell_from bs at u) d t)) t

module _ (cells : List ℕ) (f : Fault) (read : None ≡ first_unread (cell_read cells) f (cell_count cells)) where
  cell_known : (k : ℕ) (c : Cell) → slice_get (cells_of cells) k ≡ Some c → Right c
  cell_known k c e = go (cases_lt k (cell_count cells))
    where
      go : ((k < cell_count cells) ⊎ (cell_count cells ≤ k)) → Right c
      go (inl h) =
          let l = length_entries (cell_read cells) (cell_count cells) no_cell in
          let v = entry_at (cell_read cells) (cell_count cells) no_cell no_cell k h in
          let n = slice_get-get_or (cells_of cells) k no_cell (omega arith) in
          let q : c ≡ unwrap_or (cell_read cells k) no_cell = cc in
          subst Right (sym q) (read_right cells (10 * k) (use_of (byte cells (10 * k + 1))) (entry_read (cell_read cells) (cell_count cells) f read k h) no_cell)
      go (inr h) =
          let l = length_entries (cell_read cells) (cell_count cells) no_cell in
          let n = slice_get_past (cells_of cells) k (omega arith) in
          let z : ◌≡◌ {A = ℕ} 0 1 = cc in absurd (omega arith)

-- ---- fields

pub only_some : {A : Type 0} (t : Bool) (x y : A) → only_if t x ≡ Some y → (t ≡ true) × (x ≡ y)
only_some true x y e = (refl, cc)
only_some false x y e = let z : ◌≡◌ {A = ℕ} 0 1 = cc in absurd (omega arith)

fields_front : (test : ℕ → Bool) (k : ℕ) (xs : List ℕ) → fields_right test k xs ≡ true → every test (take k xs) ≡ true
fields_front test zero xs h = refl
fields_front test (suc k) [] h = refl
fields_front test (suc k) (x ∷ xs) h =
    let t = and_parts (test x) (fields_right test k xs) h in
    and_from (test x) (every test (take k xs)) t.0 (fields_front test k xs t.1)

module _ (test g : ℕ → Bool) (weaker : (x : ℕ) → test x ≡ true → g x ≡ true) (spare : g 0 ≡ true) where
  fields_every : (k : ℕ) (xs : List ℕ) → fields_right test k xs ≡ true → every g xs ≡ true
  fields_every zero [] h = refl
  fields_every (suc k) [] h = refl
  fields_every zero (x ∷ xs) h =
      let t = and_parts (eqb x 0) (fields_right test zero xs) h in
      let e = eqb-true x 0 t.0 in
      and_from (g x) (every g xs) (ap g e ∙ spare) (fields_every zero xs t.1)
  fields_every (suc k) (x ∷ xs) h =
      let t = and_parts (test x) (fields_right test k xs) h in
      and_from (g x) (every g xs) (weaker x t.0) (fields_every k xs t.1)

-- ---- nets

module _ (cs : List Cell) (bs : List ℕ) where
  record AsRead (i : ℕ) : Type 0 where
    cell : Cell
    from : cell_of cs bs i ≡ Some cell
    its : Driver
    by_use : driver_read cs bs i cell cell.usage ≡ Some its
    stands : (unwrap_or (net_read cs bs i) no_net).driver ≡ its

  as_read : (i : ℕ) → is_some (net_read cs bs i) ≡ true → AsRead i
  as_read i h = go (cell_of cs bs i) refl
    where
      more : (c : Cell) (e : cell_of cs bs i ≡ Some c) (o : Option Driver) → driver_read cs bs i c c.usage ≡ o → AsRead i
      more c e None d =
          let z : net_read cs bs i ≡ None = ap (net_of_cell cs bs i) e ∙ ap (net_of_driver cs bs c) d in
          let y = ap is_some z in let x : ◌≡◌ {A = Bool} false true = cc in absurd (both_ways true (sym x) refl)
      more c e (Some dr) d = record {
        cell = c;
        from = e;
        its = dr;
        by_use = d;
        stands = ap (λ (o : Option Net). (unwrap_or o no_net).driver) (ap (net_of_cell cs bs i) e ∙ ap (net_of_driver cs bs c) d);
      }

      go : (o : Option Cell) → cell_of cs bs i ≡ o → AsRead i
      go None e =
          let z : net_read cs bs i ≡ None = ap (net_of_cell cs bs i) e in
          let y = ap is_some z in let x : ◌≡◌ {A = Bool} false true = cc in absurd (both_ways true (sym x) refl)
      go (Some c) e = more c e (driver_read cs bs i c c.usage) refl

  -- a net is a gate where its cell is one
  memory_no_gate : (b : Bool) (bit : ℕ) → is_gate (cond b (driver.RomBit bit) (driver.RamBit bit)) ≡ false
  memory_no_gate true bit = refl
  memory_no_gate false bit = refl

  by_gate_use : (i : ℕ) (c : Cell) (u : Use) (dr : Driver) → driver_read cs bs i c u ≡ Some dr → is_gate dr ≡ gate_use u
  by_gate_use i c usage.Gate dr e = ap is_gate (sym (only_some _ _ dr e).1)
  by_gate_use i c usage.Flop dr e = ap is_gate (sym (only_some _ _ dr e).1)
  by_gate_use i c usage.EnabledFlop dr e = ap is_gate (sym (only_some _ _ dr e).1)
  by_gate_use i c usage.Input dr e = ap is_gate (sym (only_some _ _ dr e).1)
  by_gate_use i c usage.MemoryBit dr e =
      ap is_gate (sym (only_some _ _ dr e).1) ∙ memory_no_gate (eqb (pin_field bs i 0) 0) (pin_field bs i 1)
  by_gate_use i c (usage.Constant bit) dr e = ap is_gate (sym (only_some _ _ dr e).1)

  gate_agrees : (i : ℕ) (r : AsRead i) → is_gate (unwrap_or (net_read cs bs i) no_net).driver ≡ gate_cell (cell_of cs bs i)
  gate_agrees i r =
      ap is_gate r.stands ∙ (by_gate_use i r.cell r.cell.usage r.its r.by_use ∙ sym (ap gate_cell r.from))

  module _ (d : Core) (long : length d.nets ≡ net_count bs) (some : 0 < net_count bs) (gates : (p : ℕ) → p < net_count bs → is_gate (driver_at d p) ≡ gate_cell (cell_of cs bs p)) where
    abbrev Named : ℕ → Bool
    Named p = ltb p (length d.nets)

    named : (u : Use) (i p : ℕ) → pin_right cs bs u i p ≡ true → Named p ≡ true
    named u i p h =
        let t = and_parts (ltb p (net_count bs)) (not (gate_use u) || (ltb p i || not (gate_cell (cell_of cs bs p)))) h in
        lt-ltb p (length d.nets) (omega (arith, ltb-true p (net_count bs) t.0))

    gate_pin : (i p : ℕ) → pin_right cs bs usage.Gate i p ≡ true → pin_sound d i p ≡ true
    gate_pin i p h =
        let t = and_parts (ltb p (net_count bs)) (ltb p i || not (gate_cell (cell_of cs bs p))) h in
        and_from (Named p) (ltb p i || not (is_gate (driver_at d p))) (named usage.Gate i p h)
        (ap (λ (b : Bool). ltb p i || not b) (gates p (ltb-true p (net_count bs) t.0)) ∙ t.1)

    memory_sound : (i bit : ℕ) (b : Bool) → leb bit 15 ≡ true → net_sound d i (cond b (driver.RomBit bit) (driver.RamBit bit)) ≡ true
    memory_sound i bit true h = lt-ltb bit 16 (omega (arith, leb-true bit 15 h))
    memory_sound i bit false h = lt-ltb bit 16 (omega (arith, leb-true bit 15 h))

    driver_sound : (i : ℕ) (c : Cell) (u : Use) (dr : Driver) → cell_right u c.pins c.truth ≡ true → driver_read cs bs i c u ≡ Some dr → net_sound d i dr ≡ true
    driver_sound i c usage.Gate dr right e =
        let o = only_some (fields_right (pin_right cs bs usage.Gate i) c.pins (pin_fields bs i)) _ dr e in
        let r = and_parts (ltb 0 c.pins && leb c.pins 4) (ltb c.truth (2 ^ (2 ^ c.pins))) right in
        let front = every_weaker (pin_right cs bs usage.Gate i) (pin_sound d i) (gate_pin i) (take c.pins (pin_fields bs i))
        (fields_front (pin_right cs bs usage.Gate i) c.pins (pin_fields bs i) o.0) in
        let all = fields_every (pin_right cs bs usage.Gate i) Named (named usage.Gate i) (lt-ltb 0 (length d.nets) (omega arith)) c.pins (pin_fields bs i) o.0 in
        ap (net_sound d i) (sym o.1) ∙ and_from _ _ (and_from _ _ (and_from _ _ r.0 refl) front) all
    driver_sound i c usage.Flop dr right e =
        let o = only_some (fields_right (pin_right cs bs usage.Flop i) c.pins (pin_fields bs i)) _ dr e in
        let one = eqb-true c.pins 1 (and_parts (eqb c.pins 1) (eqb c.truth 0) right).0 in
        let t : fields_right (pin_right cs bs usage.Flop i) 1 (pin_fields bs i) ≡ true
        = ap (λ (k : ℕ). fields_right (pin_right cs bs usage.Flop i) k (pin_fields bs i)) (sym one) ∙ o.0 in
        let a = and_parts (pin_right cs bs usage.Flop i (pin_field bs i 0)) _ t in
        ap (net_sound d i) (sym o.1) ∙ named usage.Flop i (pin_field bs i 0) a.0
    driver_sound i c usage.EnabledFlop dr right e =
        let o = only_some (fields_right (pin_right cs bs usage.EnabledFlop i) c.pins (pin_fields bs i)) _ dr e in
        let two = eqb-true c.pins 2 (and_parts (eqb c.pins 2) (eqb c.truth 0) right).0 in
        let t : fields_right (pin_right cs bs usage.EnabledFlop i) 2 (pin_fields bs i) ≡ true
        = ap (λ (k : ℕ). fields_right (pin_right cs bs usage.EnabledFlop i) k (pin_fields bs i)) (sym two) ∙ o.0 in
        let a = and_parts (pin_right cs bs usage.EnabledFlop i (pin_field bs i 0)) _ t in
        let b = and_parts (pin_right cs bs usage.EnabledFlop i (pin_field bs i 1)) _ a.1 in
        ap (net_sound d i) (sym o.1)
        ∙ and_from _ _ (named usage.EnabledFlop i (pin_field bs i 0) a.0) (named usage.EnabledFlop i (pin_field bs i 1) b.0)
    driver_sound i c usage.Input dr right e = ap (net_sound d i) (sym (only_some _ _ dr e).1)
    driver_sound i c usage.MemoryBit dr right e =
        let m : Bool = leb (pin_field bs i 0) 1 in
        let b : Bool = leb (pin_field bs i 1) 15 in
        let o = only_some (m && b && eqb (pin_field bs i 2) 0 && eqb (pin_field bs i 3) 0) _ dr e in
        let t = and_parts (m && b && eqb (pin_field bs i 2) 0) (eqb (pin_field bs i 3) 0) o.0 in
        let u = and_parts (m && b) (eqb (pin_field bs i 2) 0) t.0 in
        ap (net_sound d i) (sym o.1) ∙ memory_sound i (pin_field bs i 1) (eqb (pin_field bs i 0) 0) (and_parts m b u.0).1
    driver_sound i c (usage.Constant bit) dr right e = ap (net_sound d i) (sym (only_some _ _ dr e).1)

-- all nets of a bundle whose cells and nets can be read
module _ (cells bs : List ℕ) (f g : Fault) (cells_read : None ≡ first_unread (cell_read cells) f (cell_count cells)) (nets_read : None ≡ first_unread (net_read (cells_of cells) bs) g (net_count bs)) (some : 0 < net_count bs) (d : Core) (nets : d.nets ≡ nets_of cells bs) where
  net_known : (i : ℕ) → i < net_count bs → AsRead (cells_of cells) bs i
  net_known i h = as_read (cells_of cells) bs i (entry_read (net_read (cells_of cells) bs) (net_count bs) g nets_read i h)

  driver_is : (i : ℕ) → i < net_count bs → driver_at d i ≡ (unwrap_or (net_read (cells_of cells) bs i) no_net).driver
  driver_is i h =
      ap (λ (ns : List Net). (get_or ns i no_net).driver) nets
      ∙ ap (λ (n : Net). n.driver) (entry_at (net_read (cells_of cells) bs) (net_count bs) no_net no_net i h)

  pub nets_long : length d.nets ≡ net_count bs
  nets_long = ap length nets ∙ length_entries (net_read (cells_of cells) bs) (net_count bs) no_net

  pub each_net_sound : (i : ℕ) → i < net_count bs → net_sound d i (driver_at d i) ≡ true
  each_net_sound i h =
      let r = net_known i h in
      ap (net_sound d i) (driver_is i h ∙ r.stands)
      ∙ driver_sound (cells_of cells) bs d nets_long some
      (λ p l. ap is_gate (driver_is p l) ∙ gate_agrees (cells_of cells) bs p (net_known p l))
      i r.cell r.cell.usage r.its (cell_known cells f cells_read (cell_number bs i) r.cell r.from) r.by_use
