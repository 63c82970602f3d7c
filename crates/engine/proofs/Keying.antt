-- A key made bit by bit. Assumes nothing.
use Rattle.std.proofs.Common.{◌≡◌, ℕ, ◌+◌, ◌*◌, ◌%◌, ◌^◌, ◌<◌, ◌≤◌, Bool, true, false, cond, List, length, get_or, drop, sym, ap, ◌∙◌, subst, add_assoc, mul_assoc, pow-suc, mul-add, add-one, arith, pow_mono}
use mir.Val.{bool_byte}
use Rattle.std.proofs.lemmas.List.{at_drop_more}
use Rattle.std.proofs.lemmas.Nat.{one_shl}
use Rattle.levels.specs.Kinds.{Kind}
use Rattle.model.specs.Core.{Core, sound}
use Rattle.model.specs.Cycle.{at, key_from}
use Rattle.model.proofs.Sound.{sound_parts}

-- a bit shifted to its weight
pub weighed : (b : Bool) (i : ℕ) → i < 16 → (bool_byte b * 2 ^ i) % 65536 ≡ cond b (2 ^ i) 0
weighed true i h = one_shl i 16 h
weighed false i h = omega arith

-- a bit and twice the rest, at a weight
spread : (b : Bool) (p r : ℕ) → cond b p 0 + (p * 2) * r ≡ p * (cond b 1 0 + 2 * r)
spread true p r = omega (arith, mul-add p 1 (2 * r), mul_assoc p 2 r)
spread false p r = omega (arith, mul-add p 0 (2 * r), mul_assoc p 2 r)

at_most : (b : Bool) (p : ℕ) → cond b p 0 ≤ p
at_most true p = omega arith
at_most false p = omega arith

-- a bit's weight b added at place i: it fits, and what is left gives the key
abbrev pub More : {V : Type 0} → Kind V → Core → List V → ℕ → ℕ → ℕ → Type 0
More k d s i bits b =
    (bits + b < 65536) × (bits + b < 2 ^ (i + 1))
    × (bits + b + 2 ^ (i + 1) * key_from k d (drop (i + 1) d.pilots) s ≡ bits + 2 ^ i * key_from k d (drop i d.pilots) s)

pub key_more : {V : Type 0} (k : Kind V) (d : Core) (s : List V) (pilots : List ℕ) → pilots ≡ d.pilots → (i : ℕ) → i < length pilots → i < 16
    → (v : V) → v ≡ at k s (get_or pilots i 0) → (bits b : ℕ) → b ≡ cond (k.allows v true) (2 ^ i) 0 → bits < 2 ^ i → More k d s i bits b
key_more k d s pilots same i h few v read bits b flag low =
    let on : Bool = k.allows (at k s (get_or pilots i 0)) true in
    let bit : b ≡ cond on (2 ^ i) 0 = flag ∙ ap (λ w. cond (k.allows w true) (2 ^ i) 0) read in
    let twice : 2 ^ (i + 1) ≡ 2 ^ i * 2 = ap (λ (n : ℕ). 2 ^ n) (add-one i) ∙ pow-suc 2 i in
    let r : ℕ = key_from k d (drop (i + 1) pilots) s in
    let step : key_from k d (drop i pilots) s ≡ cond on 1 0 + 2 * r = at_drop_more (λ (ps : List ℕ). key_from k d ps s) pilots i 0 h in
    let below : bits + b < 2 ^ (i + 1) = omega (arith, at_most on (2 ^ i)) in
    let all : 2 ^ (i + 1) ≤ 65536 = pow_mono {j = 16} (omega arith) in
    let there : bits + b + 2 ^ (i + 1) * r ≡ bits + 2 ^ i * key_from k d (drop i pilots) s =
    ap (λ (n : ℕ). bits + n + 2 ^ (i + 1) * r) bit
    ∙ (ap (λ (n : ℕ). bits + cond on (2 ^ i) 0 + n * r) twice
    ∙ (add_assoc bits (cond on (2 ^ i) 0) ((2 ^ i * 2) * r) ∙ ap (λ (n : ℕ). bits + n) (spread on (2 ^ i) r ∙ ap (λ (n : ℕ). 2 ^ i * n) (sym step)))) in
    (omega arith, below, subst (λ (ps : List ℕ). bits + b + 2 ^ (i + 1) * key_from k d (drop (i + 1) ps) s ≡ bits + 2 ^ i * key_from k d (drop i ps) s) same there)

-- a pilot of a sound core names a net, and there are at most sixteen
pub pilot_wired : (d : Core) → sound d ≡ true → (pilots : List ℕ) → pilots ≡ d.pilots → (i : ℕ) → i < length pilots → (get_or pilots i 0 < length d.nets) × (i < 16)
pilot_wired d e pilots same i h =
    let parts = sound_parts d e in
    let here : i < length d.pilots = subst (λ (ps : List ℕ). i < length ps) same h in
    (subst (λ (ps : List ℕ). get_or ps i 0 < length d.nets) (sym same) (parts.pilot i here).0, omega (arith, parts.few_pilots))
