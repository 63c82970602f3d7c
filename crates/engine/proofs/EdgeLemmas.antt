-- Lemmas on the loops of an edge. Assumes nothing.
use Rattle.std.proofs.Common.{◌≡◌, ℕ, ◌+◌, ◌-◌, ◌*◌, ◌/◌, ◌%◌, ◌<◌, ◌≤◌, Bool, true, false, cond, ◌≢◌, List, [], ◌∷◌, ◌++◌, map, length, get_or, take, set, replicate, sym, refl, ap, ◌∙◌, ⊎_elim, arith, length-append, get_or-set_other, get_or-set_same}
use Rattle.std.specs.List.{range_with_len}
use Rattle.std.proofs.lemmas.List.{ext_get_or, get_or-replicate, length-replicate, get_or_append_left, get_or-append_right, get_or_default, take_more}
use Rattle.std.proofs.lemmas.List.FromFn.{get_or-map-range_with_len, length-map-range_with_len}
use Rattle.std.proofs.lemmas.Bool.{cases_lt}
use Rattle.levels.specs.Kinds.{Kind}
use Rattle.model.specs.declared.net.Driver.{Driver}
use Rattle.model.specs.declared.net.Driver.TheVariants as driver
use Rattle.model.specs.declared.net.Net.{Net}
use Rattle.model.specs.Core.{Core, no_net, driver_at, places, tally, is_input, inputs_below}
use Rattle.model.specs.Cycle.{at, edged, stored, edge}
use Rattle.engine.proofs.MemoryLemmas.{Filled}

pub blank_list : {V : Type 0} (k : Kind V) (xs : List V) (n i : ℕ) → length xs ≡ n → n ≤ i → Filled k (λ _. k.blank) i xs → xs ≡ replicate n k.blank
blank_list k xs n i e h all =
    ext_get_or k.blank xs (replicate n k.blank) (e ∙ sym (length-replicate n k.blank))
    (λ j l. all j (omega arith) ∙ sym (get_or-replicate n j k.blank k.blank (omega arith)))

-- ---- the nets

tally_append : (f : Driver → Bool) (xs ys : List Net) → tally f (xs ++ ys) ≡ tally f xs + tally f ys
tally_append f [] ys = omega arith
tally_append f (x ∷ xs) ys = let rest = tally_append f xs ys in omega arith

pub inputs_more : (d : Core) (i : ℕ) → i < length d.nets → inputs_below d (i + 1) ≡ inputs_below d i + cond (is_input (driver_at d i)) 1 0
inputs_more d i h =
    ap (tally is_input) (take_more d.nets i no_net h) ∙ tally_append is_input (take i d.nets) (get_or d.nets i no_net ∷ [])
    ∙ omega arith

-- an input is counted, and no other net
pub counted_input : (n m : ℕ) (r : Driver) → r ≡ driver.Input → m ≡ n + 1 → m ≡ n + cond (is_input r) 1 0
counted_input n m r e h = h ∙ ap (λ (x : Driver). n + cond (is_input x) 1 0) (sym e)

pub counted_rest : (n m : ℕ) (r : Driver) → (r ≡ driver.Input → ⊥) → m ≡ n → m ≡ n + cond (is_input r) 1 0
counted_rest n m (driver.Gate g) no_input h = omega arith
counted_rest n m (driver.Flop «data») no_input h = omega arith
counted_rest n m (driver.EnabledFlop «data» enable) no_input h = omega arith
counted_rest n m driver.Input no_input h = absurd (no_input refl)
counted_rest n m (driver.RomBit bit) no_input h = omega arith
counted_rest n m (driver.RamBit bit) no_input h = omega arith
counted_rest n m (driver.Constant bit) no_input h = omega arith

pub counted_once : (b : Bool) → cond b 1 0 ≤ 1
counted_once true = omega arith
counted_once false = omega arith

-- what a read of the nets finds
pub driver_is : (d : Core) (ns : List Net) (i : ℕ) (n : Net) → ns ≡ d.nets → i < length ns → (get_or ns i n).driver ≡ driver_at d i
driver_is d ns i n e h = ap (λ (m : Net). m.driver) (get_or_default ns i n no_net h ∙ ap (λ (ms : List Net). get_or ms i no_net) e)

-- only an input looks at what is given
pub edged_given : {V : Type 0} (k : Kind V) (d : Core) (s : List V) (given : ℕ → V) (v : V) (i : ℕ) (r : Driver) → v ≡ given i → edged k d s (λ _. v) i r ≡ edged k d s given i r
edged_given k d s given v i (driver.Gate g) e = refl
edged_given k d s given v i (driver.Flop «data») e = refl
edged_given k d s given v i (driver.EnabledFlop «data» enable) e = refl
edged_given k d s given v i driver.Input e = e
edged_given k d s given v i (driver.RomBit bit) e = refl
edged_given k d s given v i (driver.RamBit bit) e = refl
edged_given k d s given v i (driver.Constant bit) e = refl

-- ---- the RAM

-- The words below a word stand, and the nets as before.
pub record Words {V : Type 0} (k : Kind V) (d : Core) (s before : List V) (word : ℕ) (now : List V) : Type 0 where
  pub nets : (i : ℕ) → i < length d.nets → at k now i ≡ at k before i
  pub ram : (j : ℕ) → j < 16 * word → at k now (length d.nets + j) ≡ stored k d s (j / 16) (j % 16)

-- The bits of a word below a bit stand, and all below that word as before.
pub record Word {V : Type 0} (k : Kind V) (d : Core) (s before : List V) (word bit : ℕ) (now : List V) : Type 0 where
  pub below : (i : ℕ) → i < length d.nets + 16 * word → at k now i ≡ at k before i
  pub bits : (b : ℕ) → b < bit → at k now (length d.nets + (16 * word + b)) ≡ stored k d s word b

pub word_more : {V : Type 0} (k : Kind V) (d : Core) (s before now : List V) (word bit place : ℕ) (v : V) → place ≡ length d.nets + (16 * word + bit) → place < length now → v ≡ stored k d s word bit → Word k d s before word bit now → Word k d s before word (bit + 1) (set now place v)
word_more k d s before now word bit place v e h is was =
    record {
      below = λ i l. let ne : i ≢ place = omega arith in get_or-set_other now place i v k.blank ne ∙ was.below i l;
      bits = λ b l. ⊎_elim
          (λ lower. let ne : length d.nets + (16 * word + b) ≢ place = omega arith in
          get_or-set_other now place _ v k.blank ne ∙ was.bits b lower)
          (λ top. let here : b ≡ bit = omega arith in
          let there : length d.nets + (16 * word + b) ≡ place = omega arith in
          ap (at k (set now place v)) there ∙ get_or-set_same now place v k.blank h ∙ is ∙ ap (stored k d s word) (sym here))
          (cases_lt b bit);
    }

pub words_more : {V : Type 0} (k : Kind V) (d : Core) (s before was now : List V) (word : ℕ) → ((i : ℕ) → i < length d.nets + 16 * word → at k now i ≡ at k was i) → ((b : ℕ) → b < 16 → at k now (length d.nets + (16 * word + b)) ≡ stored k d s word b) → Words k d s before word was → Words k d s before (word + 1) now
words_more k d s before was now word below bits done =
    record {
      nets = λ i l. below i (omega arith) ∙ done.nets i l;
      ram = λ j l. ⊎_elim
          (λ lower. below (length d.nets + j) (omega arith) ∙ done.ram j lower)
          (λ top. let same : length d.nets + j ≡ length d.nets + (16 * word + (j - 16 * word)) = omega arith in
          let w : word ≡ j / 16 = omega arith in
          let r : j - 16 * word ≡ j % 16 = omega arith in
          ap (at k now) same ∙ bits (j - 16 * word) (omega arith) ∙ cc (w, r))
          (cases_lt j (16 * word));
    }

-- ---- both

pub edge_all : {V : Type 0} (k : Kind V) (d : Core) (s now : List V) (given : ℕ → V) → length now ≡ places d → ((i : ℕ) → i < length d.nets → at k now i ≡ edged k d s given i (driver_at d i)) → ((j : ℕ) → j < 16 * length d.ram → at k now (length d.nets + j) ≡ stored k d s (j / 16) (j % 16)) → now ≡ edge k d s given
edge_all {V} k d s now given long nets ram =
    let front : List V = map (λ i. edged k d s given i (driver_at d i)) (range_with_len 0 (length d.nets)) in
    let back : List V = map (λ j. stored k d s (j / 16) (j % 16)) (range_with_len 0 (16 * length d.ram)) in
    let m : length front ≡ length d.nets = length-map-range_with_len _ 0 (length d.nets) in
    let n : length back ≡ 16 * length d.ram = length-map-range_with_len _ 0 (16 * length d.ram) in
    let whole : length now ≡ length (front ++ back) = omega (arith, length-append front back) in
    ext_get_or k.blank now (front ++ back) whole
    (λ i l. ⊎_elim
    (λ lower. nets i lower
    ∙ sym (get_or_append_left front back k.blank i (omega arith) ∙ get_or-map-range_with_len _ 0 (length d.nets) i i k.blank lower (omega arith)))
    (λ top. let same : i ≡ length d.nets + (i - length d.nets) = omega arith in
    ap (at k now) same ∙ ram (i - length d.nets) (omega arith)
    ∙ sym (get_or-append_right front back (length d.nets) i k.blank m top
    ∙ get_or-map-range_with_len _ 0 (16 * length d.ram) (i - length d.nets) (i - length d.nets) k.blank (omega arith) (omega arith)))
    (cases_lt i (length d.nets)))
