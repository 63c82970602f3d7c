-- What an exploration records, and one open point taken. Assumes nothing.
use Rattle.std.specs.Prelude.{◌≡◌, ℕ, ◌+◌, ◌*◌, ◌/◌, ◌%◌, ◌^◌, Bool, true, false, cond, not, ◌&&◌, ◌||◌, List, [], ◌∷◌, ◌++◌, map, reverse, length, get_or, Some, None, Option, ◌==◌, slice_index, slice_index_or, slice_set}
use Rattle.std.specs.List.{range_with_len}
use Rattle.levels.specs.Kinds.{Kind}
use Rattle.model.specs.declared.net.Driver.{Driver}
use Rattle.model.specs.declared.net.Driver.TheVariants as driver
use Rattle.model.specs.declared.net.Net.{Net}
use Rattle.model.specs.Core.{Core, flops}
use Rattle.model.specs.Cycle.{at, edge, settled, start_state, key_of}
use Rattle.model.specs.Energy.{charge}
use Rattle.record.specs.declared.point.Origin.TheVariants as origin
use Rattle.record.specs.declared.point.Fate.{Fate}
use Rattle.record.specs.declared.point.Fate.TheVariants as fate
use Rattle.record.specs.declared.point.Point.{Point}

-- an open point and its state
pub record Waiting (V : Type 0) : Type 0 where
  pub number : ℕ
  pub state : List V

-- a key, the point that kept its state, how often the state was replaced so far, and the kept state
pub record Entry (V : Type 0) : Type 0 where
  pub key : ℕ
  pub point : ℕ
  pub count : ℕ
  pub state : List V

-- the open points stand with the highest number first
pub record Record (V : Type 0) : Type 0 where
  pub points : List Point
  pub waiting : List (Waiting V)
  pub entries : List (Entry V)

-- A merge rule's meaning: which answers each of its two questions may give. Watch is told the key, the replacements so far and
-- whether the mark net allows 1; merge is told the kept state, the new one, the number of nets and the replacements.
pub record Meaning (V : Type 0) : Type 0 where
  pub watches : (key count : ℕ) (marked : Bool) → Bool → Bool
  pub merges : (kept new : List V) (nets count : ℕ) → List V → Bool

abbrev pub nowhere : Point
nowhere = record { origin = origin.Start; key = 0; charge = 0; fate = fate.Open }

abbrev pub with_fate : Fate → Point → Point
with_fate f p = record { origin = p.origin; key = p.key; charge = p.charge; fate = f }

abbrev pub marked_as : Fate → ℕ → List Point → List Point
marked_as f i ps = slice_set ps i (with_fate f (slice_index_or ps i nowhere))

-- how many starts a core has
abbrev pub start_count : Core → ℕ
start_count d = length d.starts / flops d

module _ {V : Type 0} (k : Kind V) where
  -- every pilot at its bit of the key
  abbrev pub keyed : List ℕ → ℕ → List V → List V
  keyed [] key s = s
  keyed (p ∷ ps) key s = keyed ps (key / 2) (slice_set s p (k.of_bit (key % 2 == 1)))

  -- ---- the keys that the pilots allow

  abbrev pub is_unknown : V → Bool
  is_unknown v = k.allows v false && k.allows v true

  -- how many pilots may be either bit
  abbrev pub unknowns : List ℕ → List V → ℕ
  unknowns [] s = 0
  unknowns (p ∷ ps) s = cond (is_unknown (at k s p)) 1 0 + unknowns ps s

  -- The key of choice j: the bits of j go to the unknown pilots in turn, the lowest first, and a known pilot has its own bit.
  abbrev pub choice_key : List ℕ → List V → ℕ → ℕ
  choice_key [] s j = 0
  choice_key (p ∷ ps) s j =
      cond (is_unknown (at k s p)) (j % 2 + 2 * choice_key ps s (j / 2)) (cond (k.allows (at k s p) true) 1 0 + 2 * choice_key ps s j)

  -- all of them, ascending
  abbrev pub keys : List ℕ → List V → List ℕ
  keys ps s = map (choice_key ps s) (range_with_len 0 (2 ^ unknowns ps s))

  -- whether the one state covers the other, place by place
  abbrev pub covers : V → V → Bool
  covers v w = (not (k.allows w false) || k.allows v false) && (not (k.allows w true) || k.allows v true)

  abbrev pub covers_all : List V → List V → Bool
  covers_all [] [] = true
  covers_all [] (w ∷ ws) = false
  covers_all (v ∷ vs) [] = false
  covers_all (v ∷ vs) (w ∷ ws) = covers v w && covers_all vs ws

  module _ (d : Core) where
    abbrev pub unknown_inputs : ℕ → V
    unknown_inputs i = k.blank

    -- ---- pilots and constants set again

    abbrev pub constant_at : Driver → List V → ℕ → List V
    constant_at (driver.Gate g) s i = s
    constant_at (driver.Flop «data») s i = s
    constant_at (driver.EnabledFlop «data» enable) s i = s
    constant_at driver.Input s i = s
    constant_at (driver.RomBit bit) s i = s
    constant_at (driver.RamBit bit) s i = s
    constant_at (driver.Constant bit) s i = slice_set s i (k.of_bit bit)

    abbrev pub with_constants : ℕ → List Net → List V → List V
    with_constants i [] s = s
    with_constants i (n ∷ ns) s = with_constants (i + 1) ns (constant_at n.driver s i)

    abbrev pub restored : ℕ → List V → List V
    restored key s = with_constants 0 d.nets (keyed d.pilots key s)

    -- ---- successors

    abbrev pub successor_keys : List V → List ℕ
    successor_keys s = keys d.pilots (edge k d s unknown_inputs)

    -- the state one cycle on in which the pilots show the key
    abbrev pub after_key : List V → ℕ → List V
    after_key s key = settled k d (keyed d.pilots key (edge k d s unknown_inputs))

    abbrev pub successor_point : ℕ → List V → ℕ → Point
    successor_point p s key = record { origin = origin.From p; key = key; charge = charge k d s (after_key s key); fate = fate.Open }

    -- the successors as open points, numbered from n on, the highest first
    abbrev pub waiting_from : ℕ → List V → List (Waiting V)
    waiting_from n s =
        reverse (map (λ i. record { number = n + i; state = after_key s (slice_index (successor_keys s) i) }) (range_with_len 0 (length (successor_keys s))))

    -- ---- a start taken

    abbrev pub start_point : ℕ → Point
    start_point n = record { origin = origin.Start; key = key_of k d (start_state k d n); charge = 0; fate = fate.Open }

    -- the record after start n is taken
    abbrev pub started : Record V → ℕ → Record V
    started r n = record {
      points = r.points ++ (start_point n ∷ []);
      waiting = record { number = length r.points; state = start_state k d n } ∷ r.waiting;
      entries = r.entries;
    }

    -- ---- how a point is treated

    -- It halts, it is cut to a point, or it is walked from a state, leaving these entries.
    pub data Treatment : Type 0 where
      halt : Treatment
      cut : ℕ → Treatment
      walk : List V → List (Entry V) → Treatment

    abbrev pub key_of_point : Record V → ℕ → ℕ
    key_of_point r p = (get_or r.points p nowhere).key

    abbrev pub is_marked : List V → Bool
    is_marked s = k.allows (at k s d.mark) true

    -- the place of the entry with a key
    abbrev pub look_up : ℕ → ℕ → List (Entry V) → Option ℕ
    look_up key i [] = None
    look_up key i (e ∷ es) = cond (e.key == key) (Some i) (look_up key (i + 1) es)

    abbrev pub no_entry : Entry V
    no_entry = record { key = 0; point = 0; count = 0; state = [] }

    abbrev pub entry_at : Record V → ℕ → Entry V
    entry_at r i = slice_index_or r.entries i no_entry

    abbrev pub entry_for : ℕ → ℕ → ℕ → List V → Entry V
    entry_for key p count s = record { key = key; point = p; count = count; state = s }

    -- the treatments that a rule allows of the open point p in state s
    pub data Treated (m : Meaning V) (r : Record V) (p : ℕ) (s : List V) : Treatment → Type 0 where
      halts : key_of_point r p % 2 ≡ 1 → Treated m r p s halt
      passes_new : key_of_point r p % 2 ≡ 0 →
          look_up (key_of_point r p) 0 r.entries ≡ None →
          m.watches (key_of_point r p) 0 (is_marked s) false ≡ true →
          Treated m r p s (walk s r.entries)
      passes_known : (i : ℕ) → key_of_point r p % 2 ≡ 0 →
          look_up (key_of_point r p) 0 r.entries ≡ Some i →
          m.watches (key_of_point r p) (entry_at r i).count (is_marked s) false ≡ true →
          Treated m r p s (walk s r.entries)
      keeps : key_of_point r p % 2 ≡ 0 →
          look_up (key_of_point r p) 0 r.entries ≡ None →
          m.watches (key_of_point r p) 0 (is_marked s) true ≡ true →
          Treated m r p s (walk s (r.entries ++ (entry_for (key_of_point r p) p 0 s ∷ [])))
      cuts : (i : ℕ) → key_of_point r p % 2 ≡ 0 →
          look_up (key_of_point r p) 0 r.entries ≡ Some i →
          m.watches (key_of_point r p) (entry_at r i).count (is_marked s) true ≡ true →
          covers_all (entry_at r i).state s ≡ true →
          Treated m r p s (cut (entry_at r i).point)
      merges : (i : ℕ) (t : List V) → key_of_point r p % 2 ≡ 0 →
          look_up (key_of_point r p) 0 r.entries ≡ Some i →
          m.watches (key_of_point r p) (entry_at r i).count (is_marked s) true ≡ true →
          covers_all (entry_at r i).state s ≡ false →
          m.merges (entry_at r i).state s (length d.nets) (entry_at r i).count t ≡ true →
          Treated m r p s (walk (restored (key_of_point r p) t)
          (slice_set r.entries i (entry_for (key_of_point r p) p ((entry_at r i).count + 1) (restored (key_of_point r p) t))))

    -- the record after the treatment of point p, the other open points being the rest
    abbrev pub treated : Record V → ℕ → List (Waiting V) → Treatment → Record V
    treated r p rest halt = record { points = marked_as fate.Halted p r.points; waiting = rest; entries = r.entries }
    treated r p rest (cut t) = record { points = marked_as (fate.Cut t) p r.points; waiting = rest; entries = r.entries }
    treated r p rest (walk s es) = record {
      points = marked_as fate.Walked p r.points ++ map (successor_point p s) (successor_keys s);
      waiting = waiting_from (length r.points) s ++ rest;
      entries = es;
    }

    -- one open point taken under a rule, however much room there is
    pub data Taken (m : Meaning V) : Record V → Record V → Type 0 where
      takes : (r : Record V) (p : ℕ) (s : List V) (rest : List (Waiting V)) (t : Treatment) →
          r.waiting ≡ record { number = p; state = s } ∷ rest →
          Treated m r p s t →
          Taken m r (treated r p rest t)
