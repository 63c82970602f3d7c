-- A list made from another, and the numbers of starts and flops.
use Rattle.std.proofs.Common.{◌≡◌, ℕ, zero, suc, ◌+◌, ◌-◌, ◌/◌, ◌%◌, ◌<◌, ◌≤◌, Bool, true, cond, ◌&&◌, eqb, ltb, leb, List, [], ◌∷◌, map, length, get_or, take, drop, sym, ap, ◌∙◌, arith}
use Rattle.std.proofs.lemmas.List.{take_all, length-drop, ext_get_or, length-take-le, length-map, get_or-take, get_or-map}
use Rattle.std.proofs.lemmas.Bool.{and_parts, eqb-true, ltb-true, leb-true}
use Rattle.std.proofs.lemmas.Nat.{div-add-mod', mul-le}
use Rattle.model.specs.declared.net.Net.{Net}
use Rattle.model.specs.Core.{no_net, is_flop, tally}
use Rattle.decode.specs.Decode.{whole_starts}

pub map_read : (f : ℕ → ℕ) (xs ys : List ℕ) → length xs ≤ length ys → ((j : ℕ) → j < length xs → get_or ys j 0 ≡ f (get_or xs j 0)) → take (length xs) ys ≡ map f xs
map_read f xs ys h each =
    ext_get_or 0 (take (length xs) ys) (map f xs) (length-take-le (length xs) ys h ∙ sym (length-map xs f))
    (λ j l. let k : j < length xs = omega (arith, length-take-le (length xs) ys h) in
    get_or-take (length xs) ys j 0 k ∙ (each j k ∙ sym (get_or-map f xs j 0 0 k)))

-- all but the first of a list, as `[1..]` of a slice is
pub past_first : (xs : List ℕ) → take (length xs - 1) (drop 1 xs) ≡ drop 1 xs
past_first xs = take_all (length xs - 1) (drop 1 xs) (omega (arith, length-drop 1 xs))

-- ---- starts

pub starts_fit : (n flops : ℕ) → n % flops ≡ 0 → n / flops ≤ 8 → flops ≤ 4096 → n ≤ 32768
starts_fit n flops m d f =
    omega (arith, div-add-mod' n flops, mul-le (n / flops) flops 8 4096 d f)

-- what it says of so many levels that they are whole starts
pub whole_parts : (flops n : ℕ) → whole_starts flops n ≡ true → (n % flops ≡ 0) × (0 < n) × (n / flops ≤ 8)
whole_parts flops n h =
    let t = and_parts (eqb (n % flops) 0 && ltb 0 n) (leb (n / flops) 8) h in
    let u = and_parts (eqb (n % flops) 0) (ltb 0 n) t.0 in
    (eqb-true _ 0 u.0, ltb-true 0 _ u.1, leb-true _ 8 t.1)

-- a flop has a place among the flops
pub flop_place : (nets : List Net) (q : ℕ) → q < length nets → is_flop (get_or nets q no_net).driver ≡ true → tally is_flop (take q nets) < tally is_flop nets
flop_place [] q h e = absurd (omega arith)
flop_place (n ∷ nets) zero h e = let t = ap (λ (b : Bool). cond b 1 0 + tally is_flop nets) e in omega (arith, t)
flop_place (n ∷ nets) (suc q) h e = let t = flop_place nets q (omega arith) e in omega arith
