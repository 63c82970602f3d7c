-- A start's levels, net by net and word by word. Assumes nothing.
use Rattle.std.proofs.Common.{◌≡◌, ℕ, Some, zero, suc, ◌+◌, ◌-◌, ◌*◌, ◌/◌, ◌%◌, ◌<◌, ◌≤◌, Bool, true, false, cond, ◌⊎◌, List, [], ◌∷◌, ◌++◌, map, length, get_or, take, set, sym, refl, ap, ◌∙◌, ap₂, ⊎_elim, mul_comm, add-one, arith, below_more}
use Rattle.std.specs.List.{range_with_len}
use Rattle.std.proofs.lemmas.Nat.{mul-le, mul-add-lt, div-add-mod'}
use Rattle.std.proofs.lemmas.List.FromFn.{length-map-range_with_len, get_or-map-range_with_len}
use Rattle.std.proofs.lemmas.List.{length-take-le, get_or-take, get_or-set_same, get_or-set_other, get_or_default, get_or_append_left, get_or-append_right, length-append, ext_get_or}
use Rattle.std.proofs.lemmas.Bool.{cases_lt, false≢true}
use Rattle.bundle.specs.declared.refusal.Fault.TheVariants as fault
use Rattle.bundle.specs.declared.refusal.Refusal.{Refusal}
use Rattle.bundle.specs.Format.{ask}
use Rattle.levels.specs.Kinds.{Kind}
use Rattle.levels.specs.declared.Tri.{Tri}
use Rattle.levels.specs.declared.Tri.TheVariants.{X}
use Rattle.model.specs.declared.net.Driver.{Driver}
use Rattle.model.specs.declared.net.Driver.TheVariants as driver
use Rattle.model.specs.declared.net.Net.{Net}
use Rattle.model.specs.declared.net.RamWord.{RamWord}
use Rattle.model.specs.Core.{Core, sound, no_net, no_word, places, driver_at, tally, is_flop, flops, flops_below}
use Rattle.model.specs.Cycle.{at, begun, ram_begun, of_start}
use Rattle.model.proofs.Sound.{sound_parts}
use Rattle.engine.specs.Refusals.{start_count}
use Rattle.engine.proofs.Charging.{net_at}

-- ---- flops in net order

tally_next : (f : Driver → Bool) (ns : List Net) (i : ℕ) (n : Net) → i < length ns → tally f (take (suc i) ns) ≡ tally f (take i ns) + cond (f (get_or ns i n).driver) 1 0
tally_next f [] i n h = absurd (omega arith)
tally_next f (m ∷ ns) zero n h = omega arith
tally_next f (m ∷ ns) (suc i) n h = omega (arith, tally_next f ns i n (omega arith))

tally_take_le : (f : Driver → Bool) (ns : List Net) (i : ℕ) → tally f (take i ns) ≤ tally f ns
tally_take_le f [] zero = omega arith
tally_take_le f [] (suc i) = omega arith
tally_take_le f (m ∷ ns) zero = omega arith
tally_take_le f (m ∷ ns) (suc i) = omega (arith, tally_take_le f ns i)

-- one more net: one more flop where it is one
pub flops_more : (d : Core) (i : ℕ) → i < length d.nets → flops_below d (i + 1) ≡ flops_below d i + cond (is_flop (driver_at d i)) 1 0
flops_more d i h = ap (flops_below d) (add-one i) ∙ tally_next is_flop d.nets i no_net h

-- a flop's place in a start lies within the starts
flop_within : (d : Core) → sound d ≡ true → (number i : ℕ) → number < start_count d → i < length d.nets → is_flop (driver_at d i) ≡ true
    → number * flops d + flops_below d i < length d.starts
flop_within d e number i h within flop =
    let parts = sound_parts d e in
    let one : cond {A = ℕ} (is_flop (driver_at d i)) 1 0 ≡ 1 = ap (λ (b : Bool). cond {A = ℕ} b 1 0) flop in
    let below : flops_below d i < flops d = omega (arith, flops_more d i within, tally_take_le is_flop d.nets (i + 1)) in
    omega (arith, mul-add-lt number (flops d) (flops_below d i) (start_count d) h below, div-add-mod' (length d.starts) (flops d), parts.whole_starts, mul_comm (flops d) (start_count d))

-- so does where a start begins
pub starts_room : (d : Core) → sound d ≡ true → (number : ℕ) → number < start_count d → number * flops d ≤ length d.starts
starts_room d e number h =
    omega (arith, mul-le number (flops d) (start_count d) (flops d) (omega arith) (omega arith), div-add-mod' (length d.starts) (flops d))

-- ---- nets

pub begun_flop : {V : Type 0} (k : Kind V) (d : Core) (number i : ℕ) (x : Driver) → is_flop x ≡ true
    → begun k d number i x ≡ of_start k d (get_or d.starts (number * flops d + flops_below d i) X)
begun_flop k d number i (driver.Gate g) e = absurd (false≢true e)
begun_flop k d number i (driver.Flop «data») e = refl
begun_flop k d number i (driver.EnabledFlop «data» enable) e = refl
begun_flop k d number i driver.Input e = absurd (false≢true e)
begun_flop k d number i (driver.RomBit bit) e = absurd (false≢true e)
begun_flop k d number i (driver.RamBit bit) e = absurd (false≢true e)
begun_flop k d number i (driver.Constant bit) e = absurd (false≢true e)

-- what is neither a flop nor a constant begins blank, and counts for no flop
pub begun_blank : {V : Type 0} (k : Kind V) (d : Core) (number i : ℕ) (x : Driver)
    → ((y : ℕ) → x ≡ driver.Flop y → ⊥) → ((y z : ℕ) → x ≡ driver.EnabledFlop y z → ⊥) → ((b : Bool) → x ≡ driver.Constant b → ⊥)
    → (begun k d number i x ≡ k.blank) × (is_flop x ≡ false)
begun_blank k d number i (driver.Gate g) f e b = (refl, refl)
begun_blank k d number i (driver.Flop «data») f e b = absurd (f «data» refl)
begun_blank k d number i (driver.EnabledFlop «data» enable) f e b = absurd (e «data» enable refl)
begun_blank k d number i driver.Input f e b = (refl, refl)
begun_blank k d number i (driver.RomBit bit) f e b = (refl, refl)
begun_blank k d number i (driver.RamBit bit) f e b = (refl, refl)
begun_blank k d number i (driver.Constant bit) f e b = absurd (b bit refl)

-- the nets below i stand as they begin
abbrev pub Begun : {V : Type 0} → Kind V → Core → ℕ → ℕ → List V → Type 0
Begun k d number i s = (j : ℕ) → j < i → at k s j ≡ begun k d number j (driver_at d j)

pub begun_more : {V : Type 0} (k : Kind V) (d : Core) (number i : ℕ) (s : List V) (v : V) → i < length s → v ≡ begun k d number i (driver_at d i)
    → Begun k d number i s → Begun k d number (i + 1) (set s i v)
begun_more k d number i s v within e below =
    below_more (λ (j : ℕ). at k (set s i v) j ≡ begun k d number j (driver_at d j)) i
    (λ j h. get_or-set_other s i j v k.blank (omega arith) ∙ below j h)
    (get_or-set_same s i v k.blank within ∙ e)

-- the driver that a walk over the nets meets
pub driver_here : (d : Core) (nets : List Net) → nets ≡ d.nets → (i : ℕ) (n : Net) → i < length nets → driver_at d i ≡ (get_or nets i n).driver
driver_here d nets same i n h = sym (ap (λ (m : Net). m.driver) (net_at d nets same i n h))

flop_here : (x : Driver) → ((y : ℕ) × (x ≡ driver.Flop y)) ⊎ ((y : ℕ) × (z : ℕ) × (x ≡ driver.EnabledFlop y z)) → is_flop x ≡ true
flop_here x e = ⊎_elim (λ p. ap is_flop p.1) (λ p. ap is_flop p.2) e

-- a flop that a walk over the nets meets: its place in a start lies within the starts
pub flop_place : (d : Core) → sound d ≡ true → (nets : List Net) → nets ≡ d.nets → (i : ℕ) (n : Net) → i < length nets → (number : ℕ) → number < start_count d
    → ((y : ℕ) × ((get_or nets i n).driver ≡ driver.Flop y)) ⊎ ((y : ℕ) × (z : ℕ) × ((get_or nets i n).driver ≡ driver.EnabledFlop y z))
    → (is_flop (driver_at d i) ≡ true) × (number * flops d + flops_below d i < length d.starts)
flop_place d e nets same i n h number start flop =
    let is : is_flop (driver_at d i) ≡ true = ap is_flop (driver_here d nets same i n h) ∙ flop_here (get_or nets i n).driver flop in
    (is, flop_within d e number i start (omega (arith, ap length same)) is)

-- a level of a start, read at a flop's place
pub flop_read : (d : Core) (starts : List Tri) → starts ≡ d.starts → (p q : ℕ) (t : Tri) → p ≡ q → q < length d.starts → get_or starts p t ≡ get_or d.starts q X
flop_read d starts same p q t e h =
    ap (λ (ts : List Tri). get_or ts p t) same ∙ (ap (λ (n : ℕ). get_or d.starts n t) e ∙ get_or_default d.starts q t X h)

-- ---- the RAM

-- the bits of the RAM below q stand as they begin
abbrev pub RamBegun : {V : Type 0} → Kind V → Core → ℕ → List V → Type 0
RamBegun k d q s = (p : ℕ) → p < q → at k s (length d.nets + p) ≡ ram_begun k d (get_or d.ram (p / 16) no_word) (p % 16)

-- what the bits of a word leave, written at its place in the state
module _ {V : Type 0} (k : Kind V) (s levels post : List V) (first : ℕ) (inside : first ≤ length s) (long : length levels ≡ 16) where
  pub below_word : (i : ℕ) → i < first → at k (take first s ++ (levels ++ post)) i ≡ at k s i
  below_word i h =
      get_or_append_left (take first s) (levels ++ post) k.blank i (omega (arith, length-take-le first s inside))
      ∙ get_or-take first s i k.blank h

  within_word : (b : ℕ) → b < 16 → at k (take first s ++ (levels ++ post)) (first + b) ≡ at k levels b
  within_word b h =
      let e : first + b - first ≡ b = omega arith in
      get_or-append_right (take first s) (levels ++ post) first (first + b) k.blank (length-take-le first s inside) (omega arith)
      ∙ (ap (at k (levels ++ post)) e ∙ get_or_append_left levels post k.blank b (omega arith))

  pub ram_begun_word : (d : Core) (number : ℕ) → first ≡ length d.nets + 16 * number → (ram : List RamWord) → ram ≡ d.ram → (w : RamWord)
      → number < length ram → ((bit : ℕ) → bit < 16 → at k levels bit ≡ ram_begun k d (get_or ram number w) bit)
      → RamBegun k d (16 * number) s → RamBegun k d (16 * (number + 1)) (take first s ++ (levels ++ post))
  ram_begun_word d number e ram same w h bits was p l =
      let word : get_or ram number w ≡ get_or d.ram number no_word =
      get_or_default ram number w no_word h ∙ ap (λ (ws : List RamWord). get_or ws number no_word) same in
      ⊎_elim
      (λ lower. below_word (length d.nets + p) (omega arith) ∙ was p lower)
      (λ top. let here : length d.nets + p ≡ first + (p - 16 * number) = omega arith in
      let n : number ≡ p / 16 = omega arith in
      let r : p - 16 * number ≡ p % 16 = omega arith in
      ap (at k (take first s ++ (levels ++ post))) here
      ∙ (within_word (p - 16 * number) (omega arith) ∙ (bits (p - 16 * number) (omega arith)
      ∙ ap₂ (λ (x : RamWord) (b : ℕ). ram_begun k d x b) (word ∙ ap (λ (m : ℕ). get_or d.ram m no_word) n) r)))
      (cases_lt p (16 * number))

-- ---- what a start is refused with

pub start_refused : (b : Bool) (r : Refusal) → Some r ≡ ask b fault.NoStart → (b ≡ false) × (r ≡ record { fault = fault.NoStart; place = 0 })
start_refused true r e = let z : ⊥ = cc in absurd z
start_refused false r e = (refl, cc)

-- ---- the whole state before the gates settle

pub begun_all : {V : Type 0} (k : Kind V) (d : Core) (number : ℕ) (s : List V) → length s ≡ places d → Begun k d number (length d.nets) s
    → RamBegun k d (16 * length d.ram) s
    → s ≡ map (λ i. begun k d number i (driver_at d i)) (range_with_len 0 (length d.nets))
    ++ map (λ q. ram_begun k d (get_or d.ram (q / 16) no_word) (q % 16)) (range_with_len 0 (16 * length d.ram))
begun_all {V} k d number s long nets words =
    let n : ℕ = length d.nets in
    let m : ℕ = 16 * length d.ram in
    let f : ℕ → V = λ i. begun k d number i (driver_at d i) in
    let h : ℕ → V = λ q. ram_begun k d (get_or d.ram (q / 16) no_word) (q % 16) in
    let low : length (map f (range_with_len 0 n)) ≡ n = length-map-range_with_len f 0 n in
    let high : length (map h (range_with_len 0 m)) ≡ m = length-map-range_with_len h 0 m in
    ext_get_or k.blank s (map f (range_with_len 0 n) ++ map h (range_with_len 0 m)) (omega (arith, length-append (map f (range_with_len 0 n)) (map h (range_with_len 0 m))))
    (λ i within.
    ⊎_elim
    (λ (less : i < n). nets i less ∙ sym (get_or_append_left (map f (range_with_len 0 n)) (map h (range_with_len 0 m)) k.blank i (omega arith) ∙ get_or-map-range_with_len f 0 n i i k.blank less (omega arith)))
    (λ (more : n ≤ i).
    ap (at k s) (let e : i ≡ n + (i - n) = omega arith in e) ∙ words (i - n) (omega arith)
    ∙ sym (get_or-append_right (map f (range_with_len 0 n)) (map h (range_with_len 0 m)) n i k.blank low more ∙ get_or-map-range_with_len h 0 m (i - n) (i - n) k.blank (omega arith) (omega arith)))
    (cases_lt i n))
