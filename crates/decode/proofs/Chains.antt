-- What chains of iterators answer, in the words of specs/.
use Rattle.std.proofs.Common.{◌≡◌, ℕ, zero, suc, ◌+◌, ◌*◌, ◌^◌, ◌%◌, ◌≤◌, Bool, cond, ◌&&◌, ◌||◌, eqb, ◌⊎◌, inl, inr, List, [], ◌∷◌, map, take, drop, Some, Option, sym, refl, ap, ◌∙◌, ap₂, arith}
use Rattle.std.specs.List.{range_with_len, list_any, list_all, find}
use Rattle.std.proofs.Math.Bool.{and_assoc}
use Rattle.std.proofs.lemmas.Bool.{cases_eq, eq-eqb, ne_eqb}
use Rattle.std.proofs.lemmas.Nat.{one_shl}
use Rattle.model.specs.Core.{among}
use Rattle.decode.specs.Words.{bits_from}
use Rattle.decode.specs.Nets.{fields_right}

eqb_swap : (a b : ℕ) → eqb a b ≡ eqb b a
eqb_swap a b = go (cases_eq a b)
  where
    go : ((a ≡ b) ⊎ (a ≡ b → ⊥)) → eqb a b ≡ eqb b a
    go (inl e) = eq-eqb a b e ∙ sym (eq-eqb b a (sym e))
    go (inr e) = ne_eqb a b e ∙ sym (ne_eqb b a (λ q. e (sym q)))

pub any_among : (x : ℕ) (xs : List ℕ) → list_any (λ y. eqb y x) xs ≡ among x xs
any_among x [] = refl
any_among x (y ∷ xs) = ap₂ (λ (a b : Bool). a || b) (eqb_swap y x) (any_among x xs)

pub any_among_map : (f : ℕ → ℕ) (p : ℕ) (xs : List ℕ) → list_any (λ j. eqb p (f j)) xs ≡ among p (map f xs)
any_among_map f p [] = refl
any_among_map f p (x ∷ xs) = ap (λ (b : Bool). eqb p (f x) || b) (any_among_map f p xs)

-- the first number of a range whose power of two is the number of words
pub find_bits : (words a n : ℕ) → a + n ≤ 64 → find (λ b. eqb words ((1 * 2 ^ b) % 2 ^ 64)) (range_with_len a n) ≡ bits_from words a n
find_bits words a zero h = refl
find_bits words a (suc n) h =
    ap₂ (λ (m : ℕ) (o : Option ℕ). cond (eqb words m) (Some a) o) (one_shl a 64 (omega arith)) (find_bits words (a + 1) n (omega arith))

-- the first k fields pass a test, and those past them are 0
pub fields_split : (test : ℕ → Bool) (k : ℕ) (xs : List ℕ) → fields_right test k xs ≡ (list_all test (take k xs) && list_all (λ x. eqb x 0) (drop k xs))
fields_split test zero [] = refl
fields_split test (suc k) [] = refl
fields_split test zero (x ∷ xs) = ap (λ (b : Bool). eqb x 0 && b) (fields_split test zero xs)
fields_split test (suc k) (x ∷ xs) =
    ap (λ (b : Bool). test x && b) (fields_split test k xs) ∙ sym (and_assoc (test x) (list_all test (take k xs)) (list_all (λ y. eqb y 0) (drop k xs)))
