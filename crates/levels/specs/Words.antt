-- The bits of a word. Assumes nothing.
use Rattle.std.specs.Prelude.{◌≡◌, ℕ, zero, suc, ◌+◌, ◌/◌, ◌%◌, ◌^◌, ◌<◌, Bool, true, false, not, ◌&&◌, ◌==◌, ◌≢◌, nat_eq, refl}
use Rattle.std.proofs.Common.{sym, ◌∙◌, ap, ⊎_elim, mod-lt, div-one, pow-suc, zero-lt-suc, one-add, arith}
use Rattle.std.proofs.Math.Nat.{zero-div}
use Rattle.std.specs.Int.Bits.{bit_and}
use Rattle.std.proofs.lemmas.Nat.{shr-shr, and_shr, and_mod, and_le_l}
use Rattle.std.proofs.lemmas.Bool.{eq-eqb, cases_eq, and_parts, and_from, false≢true}
use Rattle.std.proofs.lemmas.Bool.Decides.{nat_tests}
use Rattle.levels.specs.Kinds.{bit_at, same}

pub bit_low : (w : ℕ) → bit_at w 0 ≡ (w % 2 == 1)
bit_low w = ap (λ (x : ℕ). nat_eq (x % 2) 1) (div-one w)

pub bit_half : (w i : ℕ) → bit_at w (suc i) ≡ bit_at (w / 2) i
bit_half w i = ap (λ (x : ℕ). nat_eq (x % 2) 1) (ap (λ (k : ℕ). w / 2 ^ k) (sym (one-add i)) ∙ sym (shr-shr w 1 i))

pub bit_zero : (i : ℕ) → bit_at 0 i ≡ false
bit_zero i = ap (λ (x : ℕ). nat_eq (x % 2) 1) (zero-div (2 ^ i))

digit_and : (x y : ℕ) → x < 2 → y < 2 → (bit_and x y == 1) ≡ (x == 1 && y == 1)
digit_and zero y hx hy = refl
digit_and (suc zero) zero hx hy = refl
digit_and (suc zero) (suc zero) hx hy = refl
digit_and (suc zero) (suc (suc y)) hx hy = absurd (omega arith)
digit_and (suc (suc x)) y hx hy = absurd (omega arith)

pub bit_and_lem : (a b i : ℕ) → bit_at (bit_and a b) i ≡ (bit_at a i && bit_at b i)
bit_and_lem a b i =
    ap (λ (x : ℕ). nat_eq (x % 2) 1) (and_shr a b i)
    ∙ ap (λ (x : ℕ). nat_eq x 1) (and_mod (a / 2 ^ i) (b / 2 ^ i) 1)
    ∙ digit_and (a / 2 ^ i % 2) (b / 2 ^ i % 2) (mod-lt (a / 2 ^ i) (zero-lt-suc 1)) (mod-lt (b / 2 ^ i) (zero-lt-suc 1))

-- the bits of the word that completes another to n ones
pub bit_not : (n w u i : ℕ) → suc (w + u) ≡ 2 ^ n → i < n → bit_at u i ≡ not (bit_at w i)
bit_not zero w u i e h = absurd (omega arith)
bit_not (suc n) w u zero e h =
    let p = pow-suc 2 n in
    let s : w % 2 + u % 2 ≡ 1 = omega arith in
    bit_low u ∙ odd_not (w % 2) (u % 2) s ∙ ap not (sym (bit_low w))
  where
    odd_not : (x y : ℕ) → x + y ≡ 1 → (y == 1) ≡ not (x == 1)
    odd_not x y s = grind (arith, nat_tests)
bit_not (suc n) w u (suc i) e h =
    let p = pow-suc 2 n in
    let s : suc (w / 2 + u / 2) ≡ 2 ^ n = omega arith in
    bit_half u i ∙ bit_not n (w / 2) (u / 2) i s (omega arith) ∙ ap not (sym (bit_half w i))

-- a word that is not 0 has a bit
pub bit_some : (n w : ℕ) → w < 2 ^ n → (w ≢ 0) → (i : ℕ) × (i < n) × (bit_at w i ≡ true)
bit_some zero w h ne = absurd (ne (omega arith))
bit_some (suc n) w h ne =
    ⊎_elim
    (λ e. (0, omega arith, bit_low w ∙ eq-eqb (w % 2) 1 e))
    (λ o. let p = pow-suc 2 n in
    let r : (i : ℕ) × (i < n) × (bit_at (w / 2) i ≡ true) = bit_some n (w / 2) (omega arith) (λ z. ne (omega arith)) in
    (suc r.0, omega arith, bit_half w r.0 ∙ r.2))
    (cases_eq (w % 2) 1)

-- two words meet where both have a bit
pub meets : (n a b : ℕ) → a < 2 ^ n → (bit_and a b ≢ 0) → (i : ℕ) × (i < n) × (bit_at a i ≡ true) × (bit_at b i ≡ true)
meets n a b h ne =
    let below = and_le_l a b in
    let r : (i : ℕ) × (i < n) × (bit_at (bit_and a b) i ≡ true) = bit_some n (bit_and a b) (omega arith) ne in
    let both : (bit_at a r.0 && bit_at b r.0) ≡ true = sym (bit_and_lem a b r.0) ∙ r.2 in
    let parts = and_parts (bit_at a r.0) (bit_at b r.0) both in
    (r.0, r.1, parts.0, parts.1)

pub meet : (a b i : ℕ) → bit_at a i ≡ true → bit_at b i ≡ true → bit_and a b ≢ 0
meet a b i p q e =
    false≢true (sym (bit_zero i) ∙ ap (λ (w : ℕ). bit_at w i) (sym e) ∙ bit_and_lem a b i ∙ and_from (bit_at a i) (bit_at b i) p q)

-- what a computed test shows of each place below n
abbrev pub every : (ℕ → Bool) → ℕ → Bool
every f zero = true
every f (suc n) = f n && every f n

pub every_at : (f : ℕ → Bool) (n : ℕ) → every f n ≡ true → (i : ℕ) → i < n → f i ≡ true
every_at f zero e i h = absurd (omega arith)
every_at f (suc n) e i h =
    ⊎_elim
    (λ (s : i ≡ n). ap f s ∙ (and_parts (f n) (every f n) e).0)
    (λ (o : i ≡ n → ⊥). every_at f n (and_parts (f n) (every f n) e).1 i (omega arith))
    (cases_eq i n)

pub same_eq : (x y : Bool) → same x y ≡ true → x ≡ y
same_eq true y e = sym e
same_eq false true e = e
same_eq false false e = refl
