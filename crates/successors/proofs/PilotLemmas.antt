-- Pilots taken one after the other. Assumes nothing.
use Rattle.std.proofs.Common.{◌≡◌, ℕ, ◌+◌, ◌*◌, ◌/◌, ◌%◌, ◌^◌, ◌<◌, ◌≤◌, Bool, true, false, cond, count_by, eqb, List, [], ◌∷◌, length, get_or, drop, set, sym, refl, ap, ◌∙◌, mul_assoc, pow-suc, mul-add, add-one, arith, pow_mono}
use Rattle.std.proofs.lemmas.List.{at_drop_more}
use Rattle.std.proofs.lemmas.List.Sums.{sum_by-cons}
use Rattle.std.proofs.lemmas.Bool.{cond-true, cond-false}
use Rattle.levels.specs.Kinds.{Kind}
use Rattle.model.specs.Cycle.{at}
use Rattle.record.specs.Record.{is_unknown, keyed, unknowns, choice_key}
use Rattle.record.proofs.Keys.{bit_value}

twice : (i : ℕ) → 2 ^ (i + 1) ≡ 2 ^ i * 2
twice i = ap (λ (n : ℕ). 2 ^ n) (add-one i) ∙ pow-suc 2 i

twice_times : (i rest : ℕ) → 2 ^ (i + 1) * rest ≡ 2 ^ i * (2 * rest)
twice_times i rest = ap (λ (n : ℕ). n * rest) (twice i) ∙ mul_assoc (2 ^ i) 2 rest

-- a bit's weight b added to a key at place i: it fits, and what is left weighs twice as much
pub weigh_more : (on : Bool) (i key b here rest total : ℕ) → i < 16 → key < 2 ^ i → b ≡ cond on (2 ^ i) 0 → here ≡ cond on 1 0 + 2 * rest →
    key + 2 ^ i * here ≡ total → (key + b < 65536) × (key + b < 2 ^ (i + 1)) × (key + b + 2 ^ (i + 1) * rest ≡ total)
weigh_more on i key b here rest total few low weight step sum =
    go on (pow_mono {j = 16} (omega arith)) weight (ap (λ (n : ℕ). 2 ^ i * n) step)
  where
    go : (on : Bool) → 2 ^ (i + 1) ≤ 2 ^ 16 → b ≡ cond on (2 ^ i) 0 → 2 ^ i * here ≡ 2 ^ i * (cond on 1 0 + 2 * rest) →
        (key + b < 65536) × (key + b < 2 ^ (i + 1)) × (key + b + 2 ^ (i + 1) * rest ≡ total)
    go true all bit more =
        (omega (arith, twice i), omega (arith, twice i), omega (arith, twice_times i rest, mul-add (2 ^ i) 1 (2 * rest)))
    go false all bit more =
        (omega (arith, twice i), omega (arith, twice i), omega (arith, twice_times i rest, mul-add (2 ^ i) 0 (2 * rest)))

module _ {V : Type 0} (k : Kind V) where
  -- one pilot on
  pub keyed_more : (ps : List ℕ) (i key : ℕ) (s : List V) → i < length ps →
      keyed k (drop (i + 1) ps) (key / 2) (set s (get_or ps i 0) (k.of_bit (eqb (key % 2) 1))) ≡ keyed k (drop i ps) key s
  keyed_more ps i key s h = sym (at_drop_more (λ (qs : List ℕ). keyed k qs key s) ps i 0 h)

  pub unknowns_counted : (ps : List ℕ) (s : List V) → count_by (λ p. is_unknown k (at k s p)) ps ≡ unknowns k ps s
  unknowns_counted [] s = refl
  unknowns_counted (p ∷ ps) s =
      sum_by-cons (λ (q : ℕ). cond (is_unknown k (at k s q)) 1 0) p ps ∙ ap (λ (n : ℕ). cond (is_unknown k (at k s p)) 1 0 + n) (unknowns_counted ps s)

  -- of an unknown pilot the bit is the choice's lowest, and of a known one its own
  pub split_more : (ps : List ℕ) (i : ℕ) (s : List V) (j : ℕ) → i < length ps → is_unknown k (at k s (get_or ps i 0)) ≡ true →
      choice_key k (drop i ps) s j ≡ cond (eqb (j % 2) 1) 1 0 + 2 * choice_key k (drop (i + 1) ps) s (j / 2)
  split_more ps i s j h e =
      at_drop_more (λ (qs : List ℕ). choice_key k qs s j) ps i 0 h
      ∙ cond-true (is_unknown k (at k s (get_or ps i 0))) _ _ e ∙ ap (λ (n : ℕ). n + 2 * choice_key k (drop (i + 1) ps) s (j / 2)) (sym (bit_value j))

  pub known_more : (ps : List ℕ) (i : ℕ) (s : List V) (j : ℕ) → i < length ps → is_unknown k (at k s (get_or ps i 0)) ≡ false →
      choice_key k (drop i ps) s j ≡ cond (k.allows (at k s (get_or ps i 0)) true) 1 0 + 2 * choice_key k (drop (i + 1) ps) s j
  known_more ps i s j h e =
      at_drop_more (λ (qs : List ℕ). choice_key k qs s j) ps i 0 h ∙ cond-false (is_unknown k (at k s (get_or ps i 0))) _ _ e
