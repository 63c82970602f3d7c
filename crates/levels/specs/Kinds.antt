-- Which bits a level allows, and what a cell gives. Assumes nothing.
use Rattle.std.specs.Prelude.{◌≡◌, ℕ, ◌+◌, ◌*◌, ◌/◌, ◌%◌, ◌^◌, Bool, true, false, ◌&&◌, ◌||◌, List, [], ◌∷◌, ◌++◌, map, replicate, ◌==◌}

-- the bit of a word at a place, the lowest at 0
abbrev pub bit_at : ℕ → ℕ → Bool
bit_at word i = (word / (2 ^ i)) % 2 == 1

abbrev pub same : Bool → Bool → Bool
same true b = b
same false true = false
same false false = true

-- Whether some choice of what each pin allows, each pin by itself, gives the bit b. A pin is the test of the bits that it
-- allows. The row of a choice has the first pin's bit at `weight`, and each further pin's bit at twice the weight before it.
abbrev pub gives : ℕ → ℕ → ℕ → List (Bool → Bool) → Bool → Bool
gives truth row weight [] b = same (bit_at truth row) b
gives truth row weight (p ∷ ps) b =
    (p false && gives truth row (2 * weight) ps b) || (p true && gives truth (row + weight) (2 * weight) ps b)

-- A kind of level: the bits that a level allows, the level of a bit, that of a place never written, and what a
-- cell with a truth word makes of its pins.
pub record Kind (V : Type 0) : Type 0 where
  pub allows : V → Bool → Bool
  pub of_bit : Bool → V
  pub blank : V
  pub apply : ℕ → List V → V

-- The two-way choice is a cell: truth word 202 gives pin 0 at select 0 and pin 1 at select 1, the select being pin 2. Its
-- fourth pin is not used, so it is constant 0.
abbrev pub choice : {V : Type 0} → Kind V → V → V → V → V
choice k select zero one = k.apply 202 (zero ∷ (one ∷ (select ∷ (k.of_bit false ∷ []))))

-- A level allows some bit, that of a bit allows just this bit, and a cell allows just what its pins' choices give.
pub record Lawful {V : Type 0} (k : Kind V) : Type 0 where
  pub some : (v : V) → (k.allows v false || k.allows v true) ≡ true
  pub exact_bit : (b c : Bool) → k.allows (k.of_bit b) c ≡ same b c
  pub exact_cell : (t : ℕ) (pins : List V) (b : Bool) → k.allows (k.apply t pins) b ≡ gives t 0 1 (map k.allows pins) b

-- Every bit that the one level allows, the other allows too.
abbrev pub Covers : {V W : Type 0} → Kind V → Kind W → V → W → Type 0
Covers k j v w = (b : Bool) → j.allows w b ≡ true → k.allows v b ≡ true

-- The same pin by pin, over two lists of one length.
abbrev pub Cover : {V W : Type 0} → Kind V → Kind W → List V → List W → Type 0
Cover k j [] [] = Unit {0}
Cover k j [] (w ∷ ws) = ⊥
Cover k j (v ∷ vs) [] = ⊥
Cover k j (v ∷ vs) (w ∷ ws) = Covers k j v w × Cover k j vs ws

-- Across two readings: where the pins of the one cover those of the other, so do the cells.
abbrev pub Carries : {V W : Type 0} → Kind V → Kind W → Type 0
Carries {V} {W} k j = (t : ℕ) (vs : List V) (ws : List W) → Cover k j vs ws → Covers k j (k.apply t vs) (j.apply t ws)

-- Further pins that carry false leave what a cell allows as it is.
abbrev pub Pads : {V : Type 0} → Kind V → Type 0
Pads {V} k =
    (t n : ℕ) (pins : List V) (b : Bool) → k.allows (k.apply t (pins ++ replicate n (k.of_bit false))) b ≡ k.allows (k.apply t pins) b
