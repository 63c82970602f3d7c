-- A cell, a read, a write and an enable allow just what some choice of allowed bits gives. Assumes nothing.
use Rattle.std.specs.Prelude.{◌≡◌, ℕ, ◌+◌, ◌*◌, ◌^◌, ◌<◌, Bool, true, false, cond, not, ◌&&◌, ◌||◌, ◌⊎◌, List, [], ◌∷◌, length, Decides, ◌==◌}
use Rattle.levels.specs.Kinds.{Kind, bit_at, choice}
use Rattle.model.specs.declared.net.Gate.{Gate}
use Rattle.model.specs.Cycle.{at, pin, gate_output, picked, written}

-- the number that bits stand for, the lowest first
abbrev pub number : List Bool → ℕ
number [] = 0
number (c ∷ cs) = cond c 1 0 + 2 * number cs

module _ {V : Type 0} (k : Kind V) where
  -- each wire allows the bit chosen for it
  abbrev pub Allowed : List V → List Bool → Type 0
  Allowed [] [] = Unit {0}
  Allowed [] (c ∷ cs) = ⊥
  Allowed (v ∷ vs) [] = ⊥
  Allowed (v ∷ vs) (c ∷ cs) = (k.allows v c ≡ true) × Allowed vs cs

  -- Of a level and of what the choices give: the level allows a bit exactly when some choice gives it, and only this bit
  -- exactly when no choice gives the other.
  pub record Exact (v : V) (Gives : Bool → Type 0) : Type 0 where
    pub allowed : (b : Bool) → Decides (k.allows v b) (Gives b)
    pub only : (b : Bool) → Decides (k.allows v b && not (k.allows v (not b))) (Gives (not b) → ⊥)

  -- ---- a gate: the bit of its truth word at the row that the bits of its pins number

  abbrev pub GateGives : List V → Gate → Bool → Type 0
  GateGives s g b =
      (cs : List Bool) × Allowed (pin k s g 0 ∷ (pin k s g 1 ∷ (pin k s g 2 ∷ (pin k s g 3 ∷ [])))) cs × (bit_at g.truth (number cs) ≡ b)

  abbrev pub GatesAreExact : Type 0
  GatesAreExact = (s : List V) (g : Gate) → Exact (gate_output k s g) (GateGives s g)

  -- ---- a read: what the word at the chosen address allows

  abbrev pub ReadGives : List V → List V → Bool → Type 0
  ReadGives address leaves b = (cs : List Bool) × Allowed address cs × (k.allows (at k leaves (number cs)) b ≡ true)

  abbrev pub ReadsAreExact : Type 0
  ReadsAreExact =
      (address leaves : List V) → length leaves ≡ 2 ^ length address → Exact (picked k address leaves) (ReadGives address leaves)

  -- ---- a write: the new bit if the chosen enable is 1 and the chosen address is the word's, else the old one

  -- some choice of enable and address writes the word, or some choice does not
  abbrev pub Writes : V → List V → ℕ → Bool → Type 0
  Writes enable address word does =
      (c : Bool) × (cs : List Bool) × (k.allows enable c ≡ true) × Allowed address cs × ((c && number cs == word) ≡ does)

  abbrev pub WriteGives : V → List V → ℕ → V → V → Bool → Type 0
  WriteGives enable address word old new b =
      (does : Bool) × Writes enable address word does × (k.allows (cond does new old) b ≡ true)

  pub record Stored (enable : V) (address : List V) (word : ℕ) (old new after : V) : Type 0 where
    pub exact : Exact after (WriteGives enable address word old new)
    pub if_all_write : (Writes enable address word false → ⊥) → (b : Bool) → k.allows after b ≡ k.allows new b
    pub if_none_writes : (Writes enable address word true → ⊥) → (b : Bool) → k.allows after b ≡ k.allows old b
    pub if_some_write : Writes enable address word true → Writes enable address word false →
        (b : Bool) → k.allows after b ≡ (k.allows new b || k.allows old b)

  abbrev pub WritesAreExact : Type 0
  WritesAreExact =
      (enable : V) (address : List V) (word : ℕ) (old new : V) → word < 2 ^ length address →
      Stored enable address word old new (choice k (written k enable address word) old new)

  -- ---- an enabled flop: what is offered at enable 1, what is held at enable 0

  abbrev pub EnableGives : V → V → V → Bool → Type 0
  EnableGives enable held offered b =
      ((k.allows enable true ≡ true) × (k.allows offered b ≡ true)) ⊎ ((k.allows enable false ≡ true) × (k.allows held b ≡ true))

  abbrev pub EnablesAreExact : Type 0
  EnablesAreExact = (enable held offered : V) → Exact (choice k enable held offered) (EnableGives enable held offered)
