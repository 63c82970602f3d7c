-- The questions of a whole bundle, and the tables that hold what it stands for.
use Rattle.std.proofs.Common.{◌≡◌, ℕ, zero, suc, ◌+◌, ◌-◌, ◌^◌, ◌<◌, ◌≤◌, ◌⊎◌, List, [], ◌∷◌, ◌++◌, length, take, drop, Some, Option, unwrap_or, sym, ap, ◌∙◌, ap₂, inl, inr, arith}
use Rattle.std.proofs.lemmas.Bool.{cases_eq, eq-eqb, ne_eqb}
use Rattle.model.specs.declared.net.Net.{Net}
use Rattle.bundle.specs.declared.refusal.Refusal.{Refusal}
use Rattle.bundle.specs.Format.{first_refusal}
use Rattle.decode.specs.Nets.{net_count}
use Rattle.decode.specs.Words.{word_count, ram_count, bits_from}
use Rattle.decode.specs.Decode.{Parts, parts_refusal, figures_refusal, cells_refusal, nets_refusal, words_refusal, wires_refusal, pilots_refusal, starts_refusal}
use Rattle.decode.specs.Decode.{pilots_of, rom_bits, ram_bits, all_nets, all_bits, all_pilots}
use Rattle.decode.proofs.Steps.{past_first}
use Rattle.decode.proofs.Refusing.{Passed, all_passed, last_asked, both_passed}

-- ---- the seven questions

abbrev asked_before : Parts → List (Option Refusal)
asked_before p =
    figures_refusal p.header.clock p.header.window
    ∷ (cells_refusal p.cells
    ∷ (nets_refusal p.cells p.nets
    ∷ (words_refusal p.rom p.ram
    ∷ (wires_refusal (net_count p.nets) (all_bits p) p.wires
    ∷ (pilots_refusal (all_nets p) p.pilots
    ∷ [])))))

abbrev asked_starts : Parts → Option Refusal
asked_starts p = starts_refusal (all_nets p) (drop 1 (all_pilots p)) p.starts

abbrev pub questions : Parts → List (Option Refusal)
questions p = asked_before p ++ asked_starts p ∷ []

-- ---- address bits

pub bits_sound : (words a n k : ℕ) → bits_from words a n ≡ Some k → (words ≡ 2 ^ k) × (k < a + n)
bits_sound words a zero k e = let z : ◌≡◌ {A = ℕ} 0 1 = cc in absurd (omega arith)
bits_sound words a (suc n) k e = go (bits_sound words (a + 1) n k) (cases_eq words (2 ^ a))
  where
    rest : (words ≡ 2 ^ a → ⊥) → bits_from words (a + 1) n ≡ Some k
    rest ne = let t = ne_eqb words (2 ^ a) ne in rw t at e

    here : words ≡ 2 ^ a → Some a ≡ Some k
    here eq = let t = eq-eqb words (2 ^ a) eq in rw t at e

    go : (bits_from words (a + 1) n ≡ Some k → (words ≡ 2 ^ k) × (k < a + 1 + n)) → ((words ≡ 2 ^ a) ⊎ (words ≡ 2 ^ a → ⊥)) → (words ≡ 2 ^ k) × (k < a + suc n)
    go more (inl eq) = let h : a ≡ k = cc (here eq) in (rw (← h) eq, omega arith)
    go more (inr ne) = let h = more (rest ne) in (h.0, omega (arith, h.1))

module _ (p : Parts) (a b : ℕ) (rom : rom_bits p.rom ≡ Some a) (ram : ram_bits p.ram ≡ Some b) where
  pub rom_few : (word_count p.rom ≡ 2 ^ a) × (a ≤ 10)
  rom_few = let h = bits_sound (word_count p.rom) 0 11 a rom in (h.0, omega (arith, h.1))

  pub ram_few : (ram_count p.ram ≡ 2 ^ b) × (b ≤ 8)
  ram_few = let h = bits_sound (ram_count p.ram) 0 9 b ram in (h.0, omega (arith, h.1))

  bits_are : all_bits p ≡ a + b
  bits_are = ap₂ (λ (x y : Option ℕ). unwrap_or x 0 + unwrap_or y 0) rom ram

  pub wires_asked : wires_refusal (net_count p.nets) (a + b) p.wires ≡ wires_refusal (net_count p.nets) (all_bits p) p.wires
  wires_asked = ap (λ (m : ℕ). wires_refusal (net_count p.nets) m p.wires) (sym bits_are)

-- ---- the last question, where the others are passed

module _ (p : Parts) (nets : List Net) (pilots : List ℕ) (same : nets ≡ all_nets p) (read : pilots ≡ pilots_of nets p.pilots) where
  pub pilots_stand : pilots ≡ all_pilots p
  pilots_stand = read ∙ ap (λ (ns : List Net). pilots_of ns p.pilots) same

  abbrev past : List ℕ
  past = take (length pilots - 1) (drop 1 pilots)

  pub past_stand : past ≡ drop 1 (all_pilots p)
  past_stand = past_first pilots ∙ ap (drop 1) pilots_stand

  pub starts_decide :
      Passed (figures_refusal p.header.clock p.header.window) →
      Passed (first_refusal (cells_refusal p.cells ∷ (nets_refusal p.cells p.nets ∷ []))) →
      Passed (words_refusal p.rom p.ram) →
      Passed (wires_refusal (net_count p.nets) (all_bits p) p.wires) →
      Passed (pilots_refusal nets p.pilots) →
      starts_refusal nets past p.starts ≡ parts_refusal p
  starts_decide figures both words wires asked =
      let h = both_passed (cells_refusal p.cells) (nets_refusal p.cells p.nets) both in
      ap₂ (λ (ns : List Net) (ps : List ℕ). starts_refusal ns ps p.starts) same past_stand
      ∙ (last_asked (asked_starts p)
      ∙ all_passed (asked_before p) (asked_starts p ∷ []) (figures, (h.0, (h.1, (words, (wires, (asked ∙ ap (λ (ns : List Net). pilots_refusal ns p.pilots) same, tt)))))))
