-- Settled gates agree with their pins, and only so. Assumes nothing.
use Rattle.std.proofs.Common.{◌≡◌, ℕ, zero, suc, ◌+◌, ◌<◌, ◌≤◌, Bool, true, false, cond, not, ◌||◌, eqb, ltb, leb, List, [], ◌∷◌, length, get_or, take, set, sym, refl, ap, ◌∙◌, ⊎_elim, arith, length-set, get_or-set_other, get_or-set_same}
use Rattle.std.specs.List.{range_with_len}
use Rattle.std.proofs.lemmas.List.FromFn.{length-range_with_len, get_or-range_with_len}
use Rattle.std.proofs.lemmas.List.{get_or-take, length-take-le, get_or_past, ext_get_or}
use Rattle.std.proofs.lemmas.Bool.{and_parts, or_cases, cases_eq, cases_lt, ltb-true, leb-true, eqb-true, not-true, both_ways}
use Rattle.levels.specs.Kinds.{Kind}
use Rattle.model.specs.declared.net.Gate.{Gate}
use Rattle.model.specs.declared.net.Driver.{Driver}
use Rattle.model.specs.declared.net.Driver.TheVariants as driver
use Rattle.model.specs.declared.net.Net.{Net}
use Rattle.model.specs.Core.{Core, no_net, driver_at, is_gate, every, all_below, pin_sound, net_sound, nets_sound}
use Rattle.model.specs.Cycle.{at, pin, gate_output, settle_net, settled_from, settled}
use Rattle.model.specs.Settle.{Agrees, GatesSettle}

each_of : {A : Type 0} (f : A → Bool) (xs : List A) → every f xs ≡ true → (i : ℕ) (x : A) → i < length xs → f (get_or xs i x) ≡ true
each_of f [] e i x low = absurd (omega arith)
each_of f (y ∷ ys) e zero x low = (and_parts (f y) (every f ys) e).0
each_of f (y ∷ ys) e (suc i) x low = each_of f ys (and_parts (f y) (every f ys) e).1 i x (omega arith)

module _ (d : Core) (ok : nets_sound d ≡ true) where
  net_is_sound : (i : ℕ) → i < length d.nets → net_sound d i (driver_at d i) ≡ true
  net_is_sound i low =
      ap (λ (n : ℕ). net_sound d n (driver_at d n)) (sym (get_or-range_with_len 0 (length d.nets) i 0 low ∙ omega arith))
      ∙ each_of (λ n. net_sound d n (driver_at d n)) (range_with_len 0 (length d.nets)) (and_parts _ (all_below (length d.nets) (λ n. net_sound d n (driver_at d n))) ok).1 i 0
      (omega (arith, length-range_with_len 0 (length d.nets)))

  -- a pin that a gate uses is a lower net or no gate's
  pin_is_sound : (i : ℕ) (g : Gate) → net_sound d i (driver.Gate g) ≡ true → (j : ℕ) → j < g.used →
      (ltb (get_or g.pins j 0) i || not (is_gate (driver_at d (get_or g.pins j 0)))) ≡ true
  pin_is_sound i g e j low =
      let p : ℕ = get_or g.pins j 0 in
      let outer = (and_parts _ (every (λ n. ltb n (length d.nets)) g.pins) e).0 in
      let pins = and_parts _ (every (pin_sound d i) (take g.used g.pins)) outer in
      let counts = and_parts _ (eqb (length g.pins) 4) pins.0 in
      let most = leb-true g.used 4 (and_parts (ltb 0 g.used) (leb g.used 4) counts.0).1 in
      let four = eqb-true (length g.pins) 4 counts.1 in
      let all = length-take-le g.used g.pins (omega arith) in
      let one = each_of (pin_sound d i) (take g.used g.pins) pins.1 j 0 (omega arith) in
      (and_parts (ltb p (length d.nets)) (ltb p i || not (is_gate (driver_at d p)))
      (ap (pin_sound d i) (sym (get_or-take g.used g.pins j 0 low)) ∙ one)).1

-- only nets have gates
net_below : (d : Core) (i : ℕ) (g : Gate) → driver_at d i ≡ driver.Gate g → i < length d.nets
net_below d i g e =
    ⊎_elim (λ low. low)
    (λ past. absurd (both_ways (is_gate (driver_at d i)) (ap (λ (n : Net). is_gate n.driver) (get_or_past d.nets i no_net past)) (ap is_gate e)))
    (cases_lt i (length d.nets))

module _ {V : Type 0} (k : Kind V) (d : Core) where
  -- ---- what settling leaves as it was

  settle_length : (s : List V) (i : ℕ) (u : Driver) → length (settle_net k d s i u) ≡ length s
  settle_length s i (driver.Gate g) = length-set s i (gate_output k s g)
  settle_length s i (driver.Flop «data») = refl
  settle_length s i (driver.EnabledFlop «data» enable) = refl
  settle_length s i driver.Input = refl
  settle_length s i (driver.RomBit bit) = refl
  settle_length s i (driver.RamBit bit) = refl
  settle_length s i (driver.Constant bit) = refl

  settle_other : (s : List V) (i : ℕ) (u : Driver) (p : ℕ) → (p ≡ i → ⊥) → at k (settle_net k d s i u) p ≡ at k s p
  settle_other s i (driver.Gate g) p ne = get_or-set_other s i p (gate_output k s g) k.blank ne
  settle_other s i (driver.Flop «data») p ne = refl
  settle_other s i (driver.EnabledFlop «data» enable) p ne = refl
  settle_other s i driver.Input p ne = refl
  settle_other s i (driver.RomBit bit) p ne = refl
  settle_other s i (driver.RamBit bit) p ne = refl
  settle_other s i (driver.Constant bit) p ne = refl

  settle_plain : (s : List V) (i : ℕ) (u : Driver) → is_gate u ≡ false → settle_net k d s i u ≡ s
  settle_plain s i (driver.Gate g) e = absurd (both_ways true e refl)
  settle_plain s i (driver.Flop «data») e = refl
  settle_plain s i (driver.EnabledFlop «data» enable) e = refl
  settle_plain s i driver.Input e = refl
  settle_plain s i (driver.RomBit bit) e = refl
  settle_plain s i (driver.RamBit bit) e = refl
  settle_plain s i (driver.Constant bit) e = refl

  pub settled_length : (i : ℕ) (ns : List Net) (s : List V) → length (settled_from k d i ns s) ≡ length s
  settled_length i [] s = refl
  settled_length i (n ∷ ns) s = settled_length (i + 1) ns (settle_net k d s i n.driver) ∙ settle_length s i n.driver

  settled_below : (i : ℕ) (ns : List Net) (s : List V) (p : ℕ) → p < i → at k (settled_from k d i ns s) p ≡ at k s p
  settled_below i [] s p low = refl
  settled_below i (n ∷ ns) s p low =
      settled_below (i + 1) ns (settle_net k d s i n.driver) p (omega arith) ∙ settle_other s i n.driver p (λ e. omega arith)

  -- the nets from i on
  abbrev From : ℕ → List Net → Type 0
  From i ns = (m p : ℕ) → p ≡ i + m → get_or ns m no_net ≡ get_or d.nets p no_net

  from_next : (i : ℕ) (n : Net) (ns : List Net) → From i (n ∷ ns) → From (i + 1) ns
  from_next i n ns h m p e = h (suc m) p (omega arith)

  first : (i : ℕ) (n : Net) (ns : List Net) → From i (n ∷ ns) → n.driver ≡ driver_at d i
  first i n ns h = ap (λ (x : Net). x.driver) (h 0 i (omega arith))

  settled_other : (i : ℕ) (ns : List Net) → From i ns → (s : List V) (p : ℕ) → is_gate (driver_at d p) ≡ false →
      at k (settled_from k d i ns s) p ≡ at k s p
  settled_other i [] h s p plain = refl
  settled_other i (n ∷ ns) h s p plain =
      settled_other (i + 1) ns (from_next i n ns h) (settle_net k d s i n.driver) p plain
      ∙ ⊎_elim
      (λ (e : p ≡ i). ap (λ (t : List V). at k t p)
      (settle_plain s i n.driver (ap is_gate (first i n ns h) ∙ ap (λ (x : ℕ). is_gate (driver_at d x)) (sym e) ∙ plain)))
      (λ (ne : p ≡ i → ⊥). settle_other s i n.driver p ne)
      (cases_eq p i)

  module _ (ok : nets_sound d ≡ true) where
    -- ---- a gate reads only lower nets and nets that no gate drives

    module _ (i : ℕ) (g : Gate) (e : driver_at d i ≡ driver.Gate g) (t u : List V) (lower : (p : ℕ) → p < i → at k t p ≡ at k u p)
        (plain : (p : ℕ) → is_gate (driver_at d p) ≡ false → at k t p ≡ at k u p) where
      pin_same : (j : ℕ) → pin k t g j ≡ pin k u g j
      pin_same j = go (ltb j g.used) refl
        where
          go : (b : Bool) → ltb j g.used ≡ b → cond b (at k t (get_or g.pins j 0)) (k.of_bit false) ≡ cond b (at k u (get_or g.pins j 0)) (k.of_bit false)
          go false out = refl
          go true used =
              ⊎_elim (λ low. lower (get_or g.pins j 0) (ltb-true (get_or g.pins j 0) i low))
              (λ none. plain (get_or g.pins j 0) (not-true (is_gate (driver_at d (get_or g.pins j 0))) none))
              (or_cases (ltb (get_or g.pins j 0) i) (not (is_gate (driver_at d (get_or g.pins j 0))))
              (pin_is_sound d ok i g (ap (net_sound d i) (sym e) ∙ net_is_sound d ok i (net_below d i g e)) j (ltb-true j g.used used)))

      reads_same : gate_output k t g ≡ gate_output k u g
      reads_same = cc (pin_same 0, pin_same 1, pin_same 2, pin_same 3)

    settled_gate : (i : ℕ) (ns : List Net) → From i ns → (s : List V) (m p : ℕ) → p ≡ i + m → m < length ns → p < length s →
        (g : Gate) → driver_at d p ≡ driver.Gate g → at k (settled_from k d i ns s) p ≡ gate_output k (settled_from k d i ns s) g
    settled_gate i [] h s m p e low fits g is = absurd (omega arith)
    settled_gate i (n ∷ ns) h s zero p e low fits g is =
        let here : p ≡ i = omega arith in
        let done : settle_net k d s i n.driver ≡ set s i (gate_output k s g) =
        ap (settle_net k d s i) (first i n ns h ∙ ap (driver_at d) (sym here) ∙ is) in
        settled_below (i + 1) ns (settle_net k d s i n.driver) p (omega arith)
        ∙ ap (λ (t : List V). at k t p) done
        ∙ ap (at k (set s i (gate_output k s g))) here
        ∙ get_or-set_same s i (gate_output k s g) k.blank (omega arith)
        ∙ sym (reads_same p g is (settled_from k d i (n ∷ ns) s) s
        (λ q below. settled_below i (n ∷ ns) s q (omega arith)) (settled_other i (n ∷ ns) h s))
    settled_gate i (n ∷ ns) h s (suc m) p e low fits g is =
        settled_gate (i + 1) ns (from_next i n ns h) (settle_net k d s i n.driver) m p (omega arith) (omega arith)
        (omega (arith, settle_length s i n.driver)) g is

    module _ (s : List V) (long : length d.nets ≤ length s) where
      all_nets : From 0 d.nets
      all_nets m p e = ap (λ (x : ℕ). get_or d.nets x no_net) (omega arith)

      settled_agrees : Agrees k d s (settled k d s)
      settled_agrees = record {
        as_long = settled_length 0 d.nets s;
        gates = λ i g is. let low = net_below d i g is in settled_gate 0 d.nets all_nets s i i (omega arith) low (omega arith) g is;
        others = settled_other 0 d.nets all_nets s;
      }

      -- ---- two states that agree so are one

      module _ (t u : List V) (ht : Agrees k d s t) (hu : Agrees k d s u) where
        plain_same : (p : ℕ) → is_gate (driver_at d p) ≡ false → at k t p ≡ at k u p
        plain_same p plain = ht.others p plain ∙ sym (hu.others p plain)

        place_same : (i : ℕ) (v : Driver) → driver_at d i ≡ v → ((p : ℕ) → p < i → at k t p ≡ at k u p) → at k t i ≡ at k u i
        place_same i (driver.Gate g) is lower = ht.gates i g is ∙ reads_same i g is t u lower plain_same ∙ sym (hu.gates i g is)
        place_same i (driver.Flop «data») is lower = plain_same i (ap is_gate is)
        place_same i (driver.EnabledFlop «data» enable) is lower = plain_same i (ap is_gate is)
        place_same i driver.Input is lower = plain_same i (ap is_gate is)
        place_same i (driver.RomBit bit) is lower = plain_same i (ap is_gate is)
        place_same i (driver.RamBit bit) is lower = plain_same i (ap is_gate is)
        place_same i (driver.Constant bit) is lower = plain_same i (ap is_gate is)

        below_same : (n p : ℕ) → p < n → at k t p ≡ at k u p
        below_same zero p low = absurd (omega arith)
        below_same (suc n) p low = place_same p (driver_at d p) refl (λ q below. below_same n q (omega arith))

        agree_same : t ≡ u
        agree_same = ext_get_or k.blank t u (ht.as_long ∙ sym hu.as_long) (λ p low. below_same (suc p) p (omega arith))

pub gates_settle : {V : Type 0} (k : Kind V) → GatesSettle k
gates_settle k d ok s long = record {
  agrees = settled_agrees k d ok s long;
  alone = λ t h. agree_same k d ok s long t (settled k d s) h (settled_agrees k d ok s long);
}
