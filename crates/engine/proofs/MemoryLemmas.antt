-- Lemmas on what the memories answer. Assumes nothing.
use Rattle.std.proofs.Common.{◌≡◌, ℕ, suc, ◌+◌, ◌-◌, ◌*◌, ◌/◌, ◌^◌, ◌<◌, ◌≤◌, true, false, cond, ◌≢◌, List, [], ◌∷◌, ◌++◌, map, length, get_or, take, drop, set, sym, refl, ap, ◌∙◌, subst, pow-suc, add-one, arith, length-append, get_or-set_other, pow_mono}
use lib.ListN.{length-map}
use Rattle.std.proofs.Math.Nat.{div-div-eq-div-mul}
use Rattle.std.proofs.lemmas.List.{length-take-le, get_or-take, get_or-map, get_or_read, take_all, take-append-le, at_drop_more, at_drop_all}
use Rattle.std.specs.List.{range_with_len}
use Rattle.std.proofs.lemmas.List.FromFn.{fill_by_all}
use Rattle.std.proofs.lemmas.List.Edits.{fill_by_more}
use Rattle.levels.specs.Kinds.{Kind, choice, bit_at}
use Rattle.model.specs.Core.{Core, sound}
use Rattle.model.specs.Cycle.{at, paired, picked, cell_of_two, written}
use Rattle.model.proofs.Sound.{sound_parts}

-- The places below i hold what g says of each.
abbrev pub Filled : {V : Type 0} → Kind V → (ℕ → V) → ℕ → List V → Type 0
Filled k g i xs = (j : ℕ) → j < i → at k xs j ≡ g j

pub filled_more : {V : Type 0} (k : Kind V) (g : ℕ → V) (xs : List V) (i : ℕ) (v : V) → i < length xs → Filled k g i xs → v ≡ g i → Filled k g (i + 1) (set xs i v)
filled_more {V} k g xs i v h was e =
    subst (λ (w : V). Filled k g (i + 1) (set xs i w)) (sym e) (fill_by_more g xs i k.blank h was)

pub filled_all : {V : Type 0} (k : Kind V) (g : ℕ → V) (xs : List V) (n u : ℕ) → n ≤ length xs → u ≡ n → Filled k g n xs → take u xs ≡ map g (range_with_len 0 n)
filled_all k g xs n u h e was =
    fill_by_all g (take u xs) n k.blank (length-take-le u xs (omega arith) ∙ e)
    (λ j l. get_or-take u xs j k.blank (omega arith) ∙ was j l)

-- a map, from the places of its list
pub map_places : {X V : Type 0} (f : X → V) (xs : List X) (d : X) → map (λ j. f (get_or xs j d)) (range_with_len 0 (length xs)) ≡ map f xs
map_places f xs d =
    sym (fill_by_all (λ j. f (get_or xs j d)) (map f xs) (length xs) (f d) (length-map xs f) (λ j h. get_or-map f xs j d (f d) h))

-- what one place of a layer is
abbrev pub pair_at : {V : Type 0} → Kind V → V → List V → ℕ → V
pair_at k a leaves i = choice k a (at k leaves (2 * i)) (at k leaves (2 * i + 1))

-- The layer stands up to place i, and the leaves from there on.
pub record Layer {V : Type 0} (k : Kind V) (a : V) (before : List V) (i : ℕ) (now : List V) : Type 0 where
  pub front : Filled k (pair_at k a before) i now
  pub rest : (j : ℕ) → i ≤ j → at k now j ≡ at k before j

pub layer_none : {V : Type 0} (k : Kind V) (a : V) (xs : List V) → Layer k a xs 0 xs
layer_none k a xs = record { front = λ j h. absurd (omega arith); rest = λ j h. refl }

pub layer_more : {V : Type 0} (k : Kind V) (a : V) (xs ys : List V) (i : ℕ) (zero one made : V) → 2 * i + 1 < length ys → Layer k a xs i ys → zero ≡ get_or ys (2 * i) zero → one ≡ get_or ys (2 * i + 1) one → made ≡ choice k a zero one → Layer k a xs (i + 1) (set ys i made)
layer_more {V} k a xs ys i zero one made h now z o m =
    let here : i < length ys = omega arith in
    let low : 2 * i < length ys = omega arith in
    let z' : zero ≡ at k xs (2 * i) = get_or_read ys (2 * i) zero low z k.blank ∙ now.rest (2 * i) (omega arith) in
    let o' : one ≡ at k xs (2 * i + 1) = get_or_read ys (2 * i + 1) one h o k.blank ∙ now.rest (2 * i + 1) (omega arith) in
    record {
      front = filled_more k (pair_at k a xs) ys i made here now.front (cc (z', o', m));
      rest = λ j l. let ne : j ≢ i = omega arith in get_or-set_other ys i j made k.blank ne ∙ now.rest j (omega arith);
    }

pub layer_all : {V : Type 0} (k : Kind V) (a : V) (xs ys : List V) (i : ℕ) → i ≡ length xs / 2 → length xs ≡ length ys → Layer k a xs i ys → take (length xs / 2) ys ≡ paired k a xs
layer_all k a xs ys i e n now =
    filled_all k (pair_at k a xs) ys (length xs / 2) (length xs / 2) (omega arith) refl (λ j h. now.front j (omega arith))

-- What is left of the address picks out of the first places what the whole address picks out of the leaves.
pub record Left {V : Type 0} (k : Kind V) (wires leaves : List V) (i width : ℕ) (now : List V) : Type 0 where
  pub wide : width ≡ 2 ^ (length wires - i)
  pub fits : width ≤ length now
  pub same : picked k (drop i wires) (take width now) ≡ picked k wires leaves

pub left_none : {V : Type 0} (k : Kind V) (wires leaves : List V) → length leaves ≡ 2 ^ length wires → Left k wires leaves 0 (length leaves) leaves
left_none k wires leaves e =
    record {
      wide = e ∙ ap (λ (n : ℕ). 2 ^ n) (omega arith);
      fits = omega arith;
      same = ap (picked k wires) (take_all (length leaves) leaves (omega arith));
    }

-- u is the width as the code's part has it, and part is what the layer makes of that part
pub left_more : {V : Type 0} (k : Kind V) (wires leaves : List V) (i width u : ℕ) (now part post : List V) (a d : V) → i < length wires → a ≡ get_or wires i d → u ≡ width → length part ≡ length (take u now) → take (length (take u now) / 2) part ≡ paired k a (take u now) → Left k wires leaves i width now → Left k wires leaves (i + 1) (width / 2) (part ++ post)
left_more {V} k wires leaves i width u now part post a d h e same_width_lem n p was =
    let f = was.fits in
    let w = was.wide in
    let long : length (take u now) ≡ width = length-take-le u now (omega arith) ∙ same_width_lem in
    let half : width / 2 ≤ length part = omega arith in
    let power : 2 ^ suc (length wires - (i + 1)) ≡ 2 ^ (length wires - i) = ap (λ (n : ℕ). 2 ^ n) (omega arith) in
    let twice = pow-suc 2 (length wires - (i + 1)) in
    let layer : take (width / 2) part ≡ paired k (get_or wires i d) (take width now) = cc (e, same_width_lem, long, p) in
    let step : picked k (drop i wires) (take width now) ≡ picked k (drop (i + 1) wires) (paired k (get_or wires i d) (take width now)) = at_drop_more (λ (ws : List V). picked k ws (take width now)) wires i d h in
    record {
      wide = omega arith;
      fits = simp length-append (omega arith);
      same = ap (picked k (drop (i + 1) wires)) (take-append-le (width / 2) part post half ∙ layer) ∙ sym step ∙ was.same;
    }

pub left_all : {V : Type 0} (k : Kind V) (wires leaves : List V) (i width : ℕ) (now : List V) (v : V) → i ≡ length wires → v ≡ get_or now 0 v → Left k wires leaves i width now → v ≡ picked k wires leaves
left_all {V} k wires leaves i width now v e r was =
    let none : length wires - i ≡ 0 = omega arith in
    let one : width ≡ 1 = was.wide ∙ ap (λ (n : ℕ). 2 ^ n) none in
    let f = was.fits in
    let stands : picked k (drop i wires) (take width now) ≡ at k (take width now) 0 = at_drop_all (λ (ws : List V). picked k ws (take width now)) wires i (omega arith) in
    get_or_read now 0 v (omega arith) r k.blank ∙ sym (get_or-take width now 0 k.blank (omega arith)) ∙ sym stands ∙ was.same

-- ---- a sound core's memories

pub ram_fits : (d : Core) → sound d ≡ true → length d.ram ≤ 256
ram_fits d e = let p = sound_parts d e in let h = pow_mono p.ram_bits in omega (arith, p.ram_words)

-- wires that name nets
pub wire_named : (d : Core) (wires address : List ℕ) → ((i : ℕ) → get_or wires i 0 < length d.nets) → address ≡ wires → (i : ℕ) → get_or address i 0 < length d.nets
wire_named d wires address h e i =
    let same = ap (λ (ws : List ℕ). get_or ws i 0) e in
    omega (arith, h i)

-- ---- a word's write

half_more : (word i : ℕ) → (word / 2 ^ i) / 2 ≡ word / 2 ^ (i + 1)
half_more word i =
    div-div-eq-div-mul word (2 ^ i) 2 ∙ ap (λ (n : ℕ). word / n) (sym (ap (λ (n : ℕ). 2 ^ n) (add-one i) ∙ pow-suc 2 i))

-- one address bit on, which is bit i of the word's number
pub written_more : {V : Type 0} (k : Kind V) (wires : List V) (i word truth : ℕ) (on a d zero made : V) → i < length wires → a ≡ get_or wires i d → truth ≡ cond (bit_at word i) 8 2 → zero ≡ k.of_bit false → made ≡ k.apply truth (on ∷ (a ∷ (zero ∷ (zero ∷ [])))) → written k made (drop (i + 1) wires) (word / 2 ^ (i + 1)) ≡ written k on (drop i wires) (word / 2 ^ i)
written_more {V} k wires i word truth on a d zero made h e t z m =
    let now : made ≡ cell_of_two k (cond (bit_at word i) 8 2) on (get_or wires i d) = cc (e, t, z, m) in
    let step : written k on (drop i wires) (word / 2 ^ i) ≡ written k (cell_of_two k (cond (bit_at word i) 8 2) on (get_or wires i d)) (drop (i + 1) wires) ((word / 2 ^ i) / 2) = at_drop_more (λ (ws : List V). written k on ws (word / 2 ^ i)) wires i d h in
    ap (λ (v : V). written k v (drop (i + 1) wires) (word / 2 ^ (i + 1))) now
    ∙ ap (written k (cell_of_two k (cond (bit_at word i) 8 2) on (get_or wires i d)) (drop (i + 1) wires)) (sym (half_more word i)) ∙ sym step

pub written_all : {V : Type 0} (k : Kind V) (wires : List V) (i word : ℕ) (on : V) → length wires ≤ i → written k on (drop i wires) word ≡ on
written_all {V} k wires i word on h = at_drop_all (λ (ws : List V). written k on ws word) wires i h
