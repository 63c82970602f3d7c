-- The laws of the levels of one bit. Assumes nothing.
use Rattle.std.specs.Prelude.{◌≡◌, ℕ, ◌+◌, ◌*◌, Bool, true, false, ◌||◌, List, [], ◌∷◌, map, refl}
use Rattle.std.proofs.Common.{sym, ◌∙◌}
use Rattle.levels.specs.Kinds.{bit_at, same, gives, Lawful}
use Rattle.levels.specs.Bits.{bit_of, bit_allows, bit_row, bit_kind}
use Rattle.levels.specs.declared.Bit.{Bit}
use Rattle.levels.specs.declared.Bit.TheVariants.{Zero, One}

bit_some : (v : Bit) → (bit_allows v false || bit_allows v true) ≡ true
bit_some Zero = refl
bit_some One = refl

bit_exact : (b c : Bool) → bit_allows (bit_of b) c ≡ same b c
bit_exact true c = refl
bit_exact false c = refl

or_none : (x : Bool) → (x || false) ≡ x
or_none true = refl
or_none false = refl

bit_gives : (t row weight : ℕ) (pins : List Bit) (b : Bool) → gives t row weight (map bit_allows pins) b ≡ same (bit_at t (bit_row row weight pins)) b
bit_gives t row weight [] b = refl
bit_gives t row weight (Zero ∷ vs) b = or_none _ ∙ bit_gives t row (2 * weight) vs b
bit_gives t row weight (One ∷ vs) b = bit_gives t (row + weight) (2 * weight) vs b

pub bit_lawful : Lawful bit_kind
bit_lawful = record {
  some = bit_some;
  exact_bit = bit_exact;
  exact_cell = λ t pins b. bit_exact (bit_at t (bit_row 0 1 pins)) b ∙ sym (bit_gives t 0 1 pins b);
}
