-- What the states of a record show: their key and the constants. Assumes nothing.
use Rattle.std.proofs.Common.{◌≡◌, ℕ, zero, suc, ◌+◌, ◌*◌, ◌/◌, ◌%◌, ◌^◌, ◌<◌, ◌≤◌, Bool, true, false, cond, not, ◌||◌, eqb, List, [], ◌∷◌, ◌++◌, map, length, get_or, set, sym, refl, ap, ◌∙◌, subst, ap₂, pow-suc, arith, length-append, length-set, get_or-set_other, get_or-set_same}
use lib.ListN.{get_or-append}
use Rattle.std.specs.List.{range_with_len, ContainsAt as Has, AllByRecursion}
use Rattle.std.proofs.lemmas.List.FromFn.{length-map-range_with_len, get_or-map-range_with_len}
use Rattle.std.proofs.ByRecursion.{All-weaker, All-from_get_or}
use Rattle.std.proofs.lemmas.Bool.{and_parts, or_left, or_right, not-true, both_ways, eq-eqb}
use Rattle.levels.specs.Kinds.{Kind, Lawful, Covers, Cover, same}
use Rattle.levels.specs.declared.Tri.{Tri}
use Rattle.levels.specs.declared.Tri.TheVariants.{Zero, One, X}
use Rattle.model.specs.declared.net.Driver.{Driver}
use Rattle.model.specs.declared.net.Driver.TheVariants as driver
use Rattle.model.specs.declared.net.Net.{Net}
use Rattle.model.specs.Core.{Core, no_net, no_word, driver_at, places, is_gate, is_flop, flops, flops_below, every, among, distinct, known, nets_sound, memories_sound, wires_sound, pilots_sound, starts_sound, sound}
use Rattle.model.specs.Cycle.{at, edged, stored, edge, settled, cycled, of_start, begun, ram_begun, start_state, key_from, key_of}
use Rattle.model.specs.Energy.{charge}
use Rattle.model.proofs.Cover.{covers_at, covers_length, covers_edge, covers_settled}
use Rattle.model.proofs.Charge.{charge_more}
use Rattle.model.proofs.Settle.{gates_settle}
use Rattle.model.proofs.Sound.{all_below_at, Parts, sound_parts}
use Rattle.record.specs.Record.{keyed, keys, constant_at, with_constants, restored, successor_keys, after_key, unknown_inputs, start_count}
use Rattle.record.specs.Escape.{Wide, Definite}
use Rattle.record.proofs.Keys.{low_bit, high_bits, bit_value, own_bit, AllowsBits, has_key}
use Rattle.record.proofs.Covering.{covers_put}

same_is : (a b : Bool) → same a b ≡ true → b ≡ a
same_is true b e = e
same_is false true e = sym e
same_is false false e = refl

-- ---- the key of bits, and a state that covers them

module _ {V : Type 0} (k : Kind V) where
  pub key_below : (d : Core) (ps : List ℕ) (s : List V) → key_from k d ps s < 2 ^ length ps
  key_below d [] s = omega arith
  key_below d (p ∷ ps) s = go (k.allows (at k s p) true) (key_below d ps s)
    where
      go : (b : Bool) → key_from k d ps s < 2 ^ length ps → cond b 1 0 + 2 * key_from k d ps s < 2 ^ suc (length ps)
      go true h = omega (arith, pow-suc 2 (length ps))
      go false h = omega (arith, pow-suc 2 (length ps))

module _ {V : Type 0} (k : Kind V) where
  -- each pilot at its bit of the key
  abbrev pub Pinned : List ℕ → ℕ → List V → Type 0
  Pinned [] key s = Unit {0}
  Pinned (p ∷ ps) key s = (at k s p ≡ k.of_bit (eqb (key % 2) 1)) × Pinned ps (key / 2) s

  -- each pilot's bit of the key covers what stands there
  abbrev pub FitsKey : {W : Type 0} → Kind W → List ℕ → ℕ → List W → Type 0
  FitsKey j [] key c = Unit {0}
  FitsKey j (p ∷ ps) key c = Covers k j (k.of_bit (eqb (key % 2) 1)) (at j c p) × FitsKey j ps (key / 2) c

  pub covers_keyed : {W : Type 0} (j : Kind W) (ps : List ℕ) (key : ℕ) (s : List V) (c : List W) →
      FitsKey j ps key c → Cover k j s c → Cover k j (keyed k ps key s) c
  covers_keyed j [] key s c f h = h
  covers_keyed j (p ∷ ps) key s c f h =
      let v : V = k.of_bit (eqb (key % 2) 1) in
      covers_keyed j ps (key / 2) (set s p v) c f.1 (covers_put k j s c p v h f.0)

  pub fits_pinned : (ps : List ℕ) (key : ℕ) (s : List V) → Pinned ps key s → FitsKey k ps key s
  fits_pinned [] key s h = tt
  fits_pinned (p ∷ ps) key s h = (λ b e. rw (← h.0) e, fits_pinned ps (key / 2) s h.1)

  module _ {W : Type 0} (j : Kind W) (d : Core) (lk : Lawful k) (lj : Lawful j) (wide : Wide k) where
    allows_own : (ps : List ℕ) (s : List V) (c : List W) → Cover k j s c → AllowsBits k ps (key_from j d ps c) s
    allows_own [] s c h = tt
    allows_own (p ∷ ps) s c h =
        let b : Bool = j.allows (at j c p) true in
        let rest : ℕ = key_from j d ps c in (
          ap (k.allows (at k s p)) (low_bit b rest)
              ∙ covers_at k j lk lj wide s c h p b (own_bit (j.allows (at j c p)) (lj.some (at j c p))),
          subst (λ (x : ℕ). AllowsBits k ps x s) (sym (high_bits b rest)) (allows_own ps s c h),
        )

    pub key_member : (ps : List ℕ) (s : List V) (c : List W) → Cover k j s c → Has (keys k ps s) (key_from j d ps c)
    key_member ps s c h = has_key k ps s (key_from j d ps c) (key_below j d ps c) (allows_own ps s c h)

    pub fits_own : Definite j → (ps : List ℕ) (c : List W) → FitsKey j ps (key_from j d ps c) c
    fits_own def [] c = tt
    fits_own def (p ∷ ps) c =
        let b : Bool = j.allows (at j c p) true in
        let h : ℕ = key_from j d ps c in (
          (λ x e. ap (λ (y : Bool). k.allows (k.of_bit y) x) (low_bit b h) ∙ lk.exact_bit b x ∙ sym (def (at j c p) x) ∙ e),
          subst (λ (y : ℕ). FitsKey j ps y c) (sym (high_bits b h)) (fits_own def ps c),
        )

    pub key_shown : (ps : List ℕ) (key : ℕ) (s : List V) (c : List W) → key < 2 ^ length ps → Pinned ps key s → Cover k j s c →
        key_from j d ps c ≡ key
    key_shown [] key s c small f h = omega arith
    key_shown (p ∷ ps) key s c small f h =
        let b : Bool = j.allows (at j c p) true in
        let t : Bool = eqb (key % 2) 1 in
        let seen : k.allows (at k s p) b ≡ true =
        covers_at k j lk lj wide s c h p b (own_bit (j.allows (at j c p)) (lj.some (at j c p))) in
        let e : b ≡ t = same_is t b (sym (lk.exact_bit t b) ∙ ap (λ (v : V). k.allows v b) (sym f.0) ∙ seen) in
        let low : cond b 1 0 ≡ key % 2 = ap (λ (x : Bool). cond x 1 0) e ∙ bit_value key in
        let half : key / 2 < 2 ^ length ps = omega (arith, pow-suc 2 (length ps)) in
        let high : key_from j d ps c ≡ key / 2 = key_shown ps (key / 2) s c half f.1 h in
        omega arith

-- ---- what the drivers are

flop_plain : (u : Driver) → is_flop u ≡ true → is_gate u ≡ false
flop_plain (driver.Gate g) e = absurd (both_ways false refl e)
flop_plain (driver.Flop «data») e = refl
flop_plain (driver.EnabledFlop «data» enable) e = refl
flop_plain driver.Input e = refl
flop_plain (driver.RomBit bit) e = refl
flop_plain (driver.RamBit bit) e = refl
flop_plain (driver.Constant bit) e = refl

-- a driver that holds no constant
abbrev Loose : Driver → Type 0
Loose u = (b : Bool) → u ≡ driver.Constant b → ⊥

flop_loose : (u : Driver) → is_flop u ≡ true → Loose u
flop_loose u e b c = both_ways false refl (ap is_flop (sym c) ∙ e)

abbrev Apart : List ℕ → Type 0
Apart [] = Unit {0}
Apart (x ∷ xs) = AllByRecursion (λ y. x ≡ y → ⊥) xs × Apart xs

not_among : (x : ℕ) (xs : List ℕ) → among x xs ≡ false → AllByRecursion (λ y. x ≡ y → ⊥) xs
not_among x [] e = tt
not_among x (y ∷ ys) e = (
  (λ h. both_ways (eqb x y || among x ys) e (or_left (eqb x y) (among x ys) (eq-eqb x y h))),
  not_among x ys (apart (among x ys) refl),
)
  where
    apart : (b : Bool) → among x ys ≡ b → among x ys ≡ false
    apart false h = h
    apart true h = absurd (both_ways (eqb x y || among x ys) e (or_right (eqb x y) (among x ys) h))

apart_from : (xs : List ℕ) → distinct xs ≡ true → Apart xs
apart_from [] e = tt
apart_from (x ∷ xs) e =
    let h = and_parts (not (among x xs)) (distinct xs) e in
    (not_among x xs (not-true (among x xs) h.0), apart_from xs h.1)

all_every : {A : Type 0} (f : A → Bool) (xs : List A) → every f xs ≡ true → AllByRecursion (λ x. f x ≡ true) xs
all_every f [] e = tt
all_every f (x ∷ xs) e = let h = and_parts (f x) (every f xs) e in (h.0, all_every f xs h.1)

module _ {V : Type 0} (k : Kind V) where
  -- ---- lengths, and what is left as it was

  length_keyed : (ps : List ℕ) (key : ℕ) (s : List V) → length (keyed k ps key s) ≡ length s
  length_keyed [] key s = refl
  length_keyed (p ∷ ps) key s =
      length_keyed ps (key / 2) (set s p (k.of_bit (eqb (key % 2) 1))) ∙ length-set s p (k.of_bit (eqb (key % 2) 1))

  keyed_keeps : (ps : List ℕ) (key : ℕ) (s : List V) (q : ℕ) → AllByRecursion (λ y. q ≡ y → ⊥) ps → at k (keyed k ps key s) q ≡ at k s q
  keyed_keeps [] key s q h = refl
  keyed_keeps (p ∷ ps) key s q h =
      keyed_keeps ps (key / 2) (set s p (k.of_bit (eqb (key % 2) 1))) q h.1
      ∙ get_or-set_other s p q (k.of_bit (eqb (key % 2) 1)) k.blank h.0

  pinned_alike : (ps : List ℕ) (key : ℕ) (s t : List V) → AllByRecursion (λ p. at k t p ≡ at k s p) ps → Pinned k ps key s → Pinned k ps key t
  pinned_alike [] key s t e h = tt
  pinned_alike (p ∷ ps) key s t e h = (e.0 ∙ h.0, pinned_alike ps (key / 2) s t e.1 h.1)

  keyed_pinned : (ps : List ℕ) (key : ℕ) (s : List V) → Apart ps → AllByRecursion (λ p. p < length s) ps → Pinned k ps key (keyed k ps key s)
  keyed_pinned [] key s apart inside = tt
  keyed_pinned (p ∷ ps) key s apart inside =
      let v : V = k.of_bit (eqb (key % 2) 1) in (
        keyed_keeps ps (key / 2) (set s p v) p apart.0 ∙ get_or-set_same s p v k.blank inside.0,
        keyed_pinned ps (key / 2) (set s p v) apart.1
            (All-weaker (λ q. q < length s) (λ q. q < length (set s p v)) (λ q h. rw (length-set s p v) h) ps inside.1),
      )

  module _ (d : Core) where
    length_constant : (u : Driver) (s : List V) (i : ℕ) → length (constant_at k d u s i) ≡ length s
    length_constant (driver.Gate g) s i = refl
    length_constant (driver.Flop «data») s i = refl
    length_constant (driver.EnabledFlop «data» enable) s i = refl
    length_constant driver.Input s i = refl
    length_constant (driver.RomBit bit) s i = refl
    length_constant (driver.RamBit bit) s i = refl
    length_constant (driver.Constant bit) s i = length-set s i (k.of_bit bit)

    length_constants : (i : ℕ) (ns : List Net) (s : List V) → length (with_constants k d i ns s) ≡ length s
    length_constants i [] s = refl
    length_constants i (n ∷ ns) s = length_constants (i + 1) ns (constant_at k d n.driver s i) ∙ length_constant n.driver s i

    constant_keeps : (u : Driver) (s : List V) (i q : ℕ) → (q ≡ i → Loose u) → at k (constant_at k d u s i) q ≡ at k s q
    constant_keeps (driver.Gate g) s i q h = refl
    constant_keeps (driver.Flop «data») s i q h = refl
    constant_keeps (driver.EnabledFlop «data» enable) s i q h = refl
    constant_keeps driver.Input s i q h = refl
    constant_keeps (driver.RomBit bit) s i q h = refl
    constant_keeps (driver.RamBit bit) s i q h = refl
    constant_keeps (driver.Constant bit) s i q h = get_or-set_other s i q (k.of_bit bit) k.blank (λ e. h e bit refl)

    constants_keep : (i : ℕ) (ns : List Net) (s : List V) (q : ℕ) →
        ((m : ℕ) → q ≡ i + m → m < length ns → Loose (get_or ns m no_net).driver) → at k (with_constants k d i ns s) q ≡ at k s q
    constants_keep i [] s q h = refl
    constants_keep i (n ∷ ns) s q h =
        constants_keep (i + 1) ns (constant_at k d n.driver s i) q (λ m e l. h (suc m) (omega arith) (omega arith))
        ∙ constant_keeps n.driver s i q (λ e. h 0 (omega arith) (omega arith))

    constants_set : (i : ℕ) (ns : List Net) (s : List V) (q m : ℕ) (b : Bool) → q ≡ i + m → m < length ns → q < length s →
        (get_or ns m no_net).driver ≡ driver.Constant b → at k (with_constants k d i ns s) q ≡ k.of_bit b
    constants_set i [] s q m b e l inside u = absurd (omega arith)
    constants_set i (n ∷ ns) s q zero b e l inside u =
        constants_keep (i + 1) ns (constant_at k d n.driver s i) q (λ m' e' l'. absurd (omega arith))
        ∙ subst (λ (w : Driver). at k (constant_at k d w s i) q ≡ k.of_bit b) (sym u)
        (subst (λ (x : ℕ). at k (set s x (k.of_bit b)) q ≡ k.of_bit b) (let f : q ≡ i = omega arith in f)
        (get_or-set_same s q (k.of_bit b) k.blank inside))
    constants_set i (n ∷ ns) s q (suc m) b e l inside u =
        constants_set (i + 1) ns (constant_at k d n.driver s i) q m b (omega arith) (omega arith)
        (rw (length_constant n.driver s i) inside) u

    covers_constant : (u : Driver) (t s : List V) (i : ℕ) → Cover k k t s → ((b : Bool) → u ≡ driver.Constant b → at k s i ≡ k.of_bit b) →
        Cover k k (constant_at k d u t i) s
    covers_constant (driver.Gate g) t s i h f = h
    covers_constant (driver.Flop «data») t s i h f = h
    covers_constant (driver.EnabledFlop «data» enable) t s i h f = h
    covers_constant driver.Input t s i h f = h
    covers_constant (driver.RomBit bit) t s i h f = h
    covers_constant (driver.RamBit bit) t s i h f = h
    covers_constant (driver.Constant bit) t s i h f = covers_put k k t s i (k.of_bit bit) h (λ x e. rw (← f bit refl) e)

    covers_constants : (i : ℕ) (ns : List Net) (t s : List V) → Cover k k t s →
        ((q m : ℕ) (b : Bool) → q ≡ i + m → m < length ns → (get_or ns m no_net).driver ≡ driver.Constant b → at k s q ≡ k.of_bit b) →
        Cover k k (with_constants k d i ns t) s
    covers_constants i [] t s h f = h
    covers_constants i (n ∷ ns) t s h f =
        covers_constants (i + 1) ns (constant_at k d n.driver t i) s
        (covers_constant n.driver t s i h (λ b e. f i 0 b (omega arith) (omega arith) e))
        (λ q m b e l u. f q (suc m) b (omega arith) (omega arith) u)

    -- ---- a state laid out net by net, then RAM bit by RAM bit

    module _ (net ram : ℕ → V) where
      abbrev laid : List V
      laid = map net (range_with_len 0 (length d.nets)) ++ map ram (range_with_len 0 (16 * length d.ram))

      length_laid : length laid ≡ places d
      length_laid = simp (length-append, length-map-range_with_len)

      at_laid : (m : ℕ) → m < length d.nets → at k laid m ≡ net m
      at_laid m l =
          get_or-append (map net (range_with_len 0 (length d.nets))) (map ram (range_with_len 0 (16 * length d.ram))) k.blank m
          (rw (length-map-range_with_len net 0 (length d.nets)) l)
          ∙ get_or-map-range_with_len net 0 (length d.nets) m m k.blank l (omega arith)

    -- ---- the states of a record

    abbrev pub Constants : List V → Type 0
    Constants s = (m : ℕ) (b : Bool) → m < length d.nets → driver_at d m ≡ driver.Constant b → at k s m ≡ k.of_bit b

    -- a state of the core whose pilots are known and show the key, and whose constants hold
    pub record Good (key : ℕ) (s : List V) : Type 0 where
      pub small : key < 2 ^ length d.pilots
      pub pinned : Pinned k d.pilots key s
      pub constants : Constants s
      pub full : length s ≡ places d

    module _ (ok : sound d ≡ true) where
      parts : Parts d
      parts = sound_parts d ok

      pilots_flops : AllByRecursion (λ p. (p < length d.nets) × (is_flop (driver_at d p) ≡ true)) d.pilots
      pilots_flops = All-from_get_or (λ p. (p < length d.nets) × (is_flop (driver_at d p) ≡ true)) d.pilots 0 parts.pilot

      pilots_apart : Apart d.pilots
      pilots_apart = apart_from d.pilots parts.pilots_distinct

      nets_ok : nets_sound d ≡ true
      nets_ok =
          (and_parts (nets_sound d) (memories_sound d)
          (and_parts _ (wires_sound d) (and_parts _ (pilots_sound d) (and_parts _ (starts_sound d) ok).0).0).0).0

      pilots_inside : (s : List V) → length s ≡ places d → AllByRecursion (λ p. p < length s) d.pilots
      pilots_inside s e =
          All-weaker (λ p. (p < length d.nets) × (is_flop (driver_at d p) ≡ true)) (λ p. p < length s)
          (λ p h. let l : p < length d.nets = h.0 in omega arith) d.pilots pilots_flops

      settled_keeps : (s : List V) → length s ≡ places d → (q : ℕ) → is_gate (driver_at d q) ≡ false → at k (settled k d s) q ≡ at k s q
      settled_keeps s e q plain = (gates_settle k d nets_ok s (omega arith)).agrees.others q plain

      settled_full : (s : List V) → length s ≡ places d → length (settled k d s) ≡ places d
      settled_full s e = (gates_settle k d nets_ok s (omega arith)).agrees.as_long ∙ e

      pub still_pilots : (s : List V) → length s ≡ places d → AllByRecursion (λ p. at k (settled k d s) p ≡ at k s p) d.pilots
      still_pilots s e =
          All-weaker (λ p. (p < length d.nets) × (is_flop (driver_at d p) ≡ true)) (λ p. at k (settled k d s) p ≡ at k s p)
          (λ p h. settled_keeps s e p (flop_plain (driver_at d p) h.1)) d.pilots pilots_flops

      settled_constants : (s : List V) → length s ≡ places d → Constants s → Constants (settled k d s)
      settled_constants s e h m b l u = settled_keeps s e m (ap is_gate u) ∙ h m b l u

      loose_pilots : (s : List V) → AllByRecursion (λ p. at k (with_constants k d 0 d.nets s) p ≡ at k s p) d.pilots
      loose_pilots s =
          All-weaker (λ p. (p < length d.nets) × (is_flop (driver_at d p) ≡ true))
          (λ p. at k (with_constants k d 0 d.nets s) p ≡ at k s p)
          (λ p h. constants_keep 0 d.nets s p (λ m e l.
          let f : p ≡ m = omega arith in
          subst (λ (x : ℕ). Loose (driver_at d x)) f (flop_loose (driver_at d p) h.1)))
          d.pilots pilots_flops

      not_pilot : (m : ℕ) (b : Bool) → driver_at d m ≡ driver.Constant b → AllByRecursion (λ y. m ≡ y → ⊥) d.pilots
      not_pilot m b u =
          All-weaker (λ p. (p < length d.nets) × (is_flop (driver_at d p) ≡ true)) (λ y. m ≡ y → ⊥)
          (λ p h e. both_ways false refl (ap is_flop (sym u) ∙ ap (λ (x : ℕ). is_flop (driver_at d x)) e ∙ h.1)) d.pilots pilots_flops

      -- ---- merged states, pilots and constants set again

      pub good_restored : (key : ℕ) (s t : List V) → Cover k k t s → Good key s → Good key (restored k d key t)
      good_restored key s t h g =
          let full : length t ≡ places d = covers_length k k t s h ∙ g.full in
          let x : List V = keyed k d.pilots key t in
          let long : length x ≡ places d = length_keyed d.pilots key t ∙ full in
          record {
            small = g.small;
            pinned = pinned_alike d.pilots key x (with_constants k d 0 d.nets x) (loose_pilots x)
                (keyed_pinned d.pilots key t pilots_apart (pilots_inside t full));
            constants = λ m b l u. constants_set 0 d.nets x m m b (omega arith) l (omega arith) u;
            full = length_constants 0 d.nets x ∙ long;
          }

      pub covers_restored : (key : ℕ) (s t : List V) → Cover k k t s → Good key s → Cover k k (restored k d key t) s
      covers_restored key s t h g =
          covers_constants 0 d.nets (keyed k d.pilots key t) s
          (covers_keyed k k d.pilots key t s (fits_pinned k d.pilots key s g.pinned) h)
          (λ q m b e l u. let f : q ≡ m = omega arith in g.constants q b (omega arith) (ap (driver_at d) f ∙ u))

      -- ---- successors

      pub edge_full : (s : List V) (given : ℕ → V) → length (edge k d s given) ≡ places d
      edge_full s given = length_laid (λ i. edged k d s given i (driver_at d i)) (λ q. stored k d s (q / 16) (q % 16))

      edge_constants : (s : List V) (given : ℕ → V) → Constants (edge k d s given)
      edge_constants s given m b l u =
          at_laid (λ i. edged k d s given i (driver_at d i)) (λ q. stored k d s (q / 16) (q % 16)) m l
          ∙ ap (edged k d s given m) u

      pub good_after : (key : ℕ) (s : List V) → key < 2 ^ length d.pilots → Good key (after_key k d s key)
      good_after key s small =
          let e : List V = edge k d s (unknown_inputs k d) in
          let x : List V = keyed k d.pilots key e in
          let full : length e ≡ places d = edge_full s (unknown_inputs k d) in
          let long : length x ≡ places d = length_keyed d.pilots key e ∙ full in
          record {
            small = small;
            pinned = pinned_alike d.pilots key x (settled k d x) (still_pilots x long)
                (keyed_pinned d.pilots key e pilots_apart (pilots_inside e full));
            constants = settled_constants x long (λ m b l u.
                keyed_keeps d.pilots key e m (not_pilot m b u) ∙ edge_constants s (unknown_inputs k d) m b l u);
            full = settled_full x long;
          }

      -- ---- starts

      module _ (law : Lawful k) (n : ℕ) (l : n < start_count d) where
        abbrev begins : List V
        begins =
            laid (λ i. begun k d n i (driver_at d i)) (λ q. ram_begun k d (get_or d.ram (q / 16) no_word) (q % 16))

        begins_full : length begins ≡ places d
        begins_full = length_laid (λ i. begun k d n i (driver_at d i)) (λ q. ram_begun k d (get_or d.ram (q / 16) no_word) (q % 16))

        at_begins : (m : ℕ) → m < length d.nets → at k begins m ≡ begun k d n m (driver_at d m)
        at_begins = at_laid (λ i. begun k d n i (driver_at d i)) (λ q. ram_begun k d (get_or d.ram (q / 16) no_word) (q % 16))

        abbrev given_start : ℕ → Tri
        given_start p = get_or d.starts (n * flops d + flops_below d p) X

        pilots_known : AllByRecursion (λ p. known (given_start p) ≡ true) d.pilots
        pilots_known =
            all_every (λ p. known (given_start p)) d.pilots
            (all_below_at (start_count d) (λ j. every (λ p. known (get_or d.starts (j * flops d + flops_below d p) X)) d.pilots) n
            (and_parts _ _ (and_parts _ (starts_sound d) ok).1).1 l)

        of_flop : (p : ℕ) (u : Driver) → is_flop u ≡ true → begun k d n p u ≡ of_start k d (given_start p)
        of_flop p (driver.Gate g) e = absurd (both_ways false refl e)
        of_flop p (driver.Flop «data») e = refl
        of_flop p (driver.EnabledFlop «data» enable) e = refl
        of_flop p driver.Input e = absurd (both_ways false refl e)
        of_flop p (driver.RomBit bit) e = absurd (both_ways false refl e)
        of_flop p (driver.RamBit bit) e = absurd (both_ways false refl e)
        of_flop p (driver.Constant bit) e = absurd (both_ways false refl e)

        -- a level of a bit is that of the bit read from it
        abbrev Own : V → Type 0
        Own v = v ≡ k.of_bit (k.allows v true)

        own_of_bit : (b : Bool) → Own (k.of_bit b)
        own_of_bit b = ap k.of_bit (sym (law.exact_bit b true ∙ same_true b))
          where
            same_true : (b : Bool) → same b true ≡ b
            same_true true = refl
            same_true false = refl

        own_known : (t : Tri) → known t ≡ true → Own (of_start k d t)
        own_known Zero e = own_of_bit false
        own_known One e = own_of_bit true
        own_known X e = absurd (both_ways false refl e)

        own_pinned : (s : List V) (ps : List ℕ) → AllByRecursion (λ p. Own (at k s p)) ps → Pinned k ps (key_from k d ps s) s
        own_pinned s [] h = tt
        own_pinned s (p ∷ ps) h =
            let b : Bool = k.allows (at k s p) true in
            let rest : ℕ = key_from k d ps s in (
              h.0 ∙ ap k.of_bit (sym (low_bit b rest)),
              subst (λ (x : ℕ). Pinned k ps x s) (sym (high_bits b rest)) (own_pinned s ps h.1),
            )

        own_pilots : (ps : List ℕ) → AllByRecursion (λ p. (p < length d.nets) × (is_flop (driver_at d p) ≡ true)) ps →
            AllByRecursion (λ p. known (given_start p) ≡ true) ps → AllByRecursion (λ p. Own (at k (start_state k d n) p)) ps
        own_pilots [] h g = tt
        own_pilots (p ∷ ps) h g = (
          subst Own
              (sym (settled_keeps begins begins_full p (flop_plain (driver_at d p) h.0.1) ∙ at_begins p h.0.0
              ∙ of_flop p (driver_at d p) h.0.1))
              (own_known (given_start p) g.0),
          own_pilots ps h.1 g.1,
        )

        pub good_start : Good (key_of k d (start_state k d n)) (start_state k d n)
        good_start = record {
          small = key_below k d d.pilots (start_state k d n);
          pinned = own_pinned (start_state k d n) d.pilots (own_pilots d.pilots pilots_flops pilots_known);
          constants = settled_constants begins begins_full (λ m b low u. at_begins m low ∙ ap (begun k d n m) u);
          full = settled_full begins begins_full;
        }

-- ---- one cycle of bits, and the successor that covers it

pub key_alike : {W : Type 0} (j : Kind W) (d : Core) (ps : List ℕ) (t s : List W) → AllByRecursion (λ p. at j t p ≡ at j s p) ps →
    key_from j d ps t ≡ key_from j d ps s
key_alike j d [] t s e = refl
key_alike {W} j d (p ∷ ps) t s e =
    ap₂ (λ (v : W) (n : ℕ). cond (j.allows v true) 1 0 + 2 * n) e.0 (key_alike j d ps t s e.1)

module _ {V W : Type 0} (k : Kind V) (j : Kind W) (d : Core) (ok : sound d ≡ true) (lk : Lawful k) (lj : Lawful j)
    (wide : Wide k) (def : Definite j) where
  pub record Follows (s : List V) (c e : List W) : Type 0 where
    pub listed : Has (successor_keys k d s) (key_of j d e)
    pub covered : Cover k j (after_key k d s (key_of j d e)) e
    pub charged : charge j d c e ≤ charge k d s (after_key k d s (key_of j d e))

  pub follows : (s : List V) (c : List W) (given : ℕ → W) → Cover k j s c → Follows s c (cycled j d c given)
  follows s c given h = record {
    listed = subst (Has (keys k d.pilots before)) (sym alike) (key_member k j d lk lj wide d.pilots before bits over);
    covered = next;
    charged = charge_more k j lk lj wide d s (after_key k d s (key_of j d (cycled j d c given))) c (cycled j d c given) h next;
  }
    where
      before : List V
      before = edge k d s (unknown_inputs k d)

      bits : List W
      bits = edge j d c given

      over : Cover k j before bits
      over = covers_edge k j lk lj wide d s c h (unknown_inputs k d) given (λ i b e. wide b)

      alike : key_of j d (cycled j d c given) ≡ key_of j d bits
      alike = key_alike j d d.pilots (cycled j d c given) bits (still_pilots j d ok bits (edge_full j d ok c given))

      next : Cover k j (after_key k d s (key_of j d (cycled j d c given))) (cycled j d c given)
      next =
          let key : ℕ = key_of j d (cycled j d c given) in
          covers_settled k j lk lj wide d (keyed k d.pilots key before) bits
          (covers_keyed k j d.pilots key before bits
          (subst (λ (n : ℕ). FitsKey k j d.pilots n bits) (sym alike) (fits_own k j d lk lj wide def d.pilots bits)) over)
