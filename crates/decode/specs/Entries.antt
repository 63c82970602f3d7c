-- Entries that are read one by one, and what the reading of all of them answers. Assumes nothing.
use Rattle.std.specs.Prelude.{◌≡◌, ℕ, ◌<◌, Bool, true, false, ◌&&◌, List, [], ◌∷◌, map, is_some, Some, None, Option, nat_le}
use Rattle.std.specs.List.{range_with_len}
use Rattle.std.specs.Option.{unwrap_or}
use Rattle.bundle.specs.declared.refusal.Fault.{Fault}
use Rattle.bundle.specs.declared.refusal.Refusal.{Refusal}
use Rattle.bundle.specs.Format.{ask, ask_each, first_refusal}

abbrev pub only_if : {A : Type 0} → Bool → A → Option A
only_if true x = Some x
only_if false x = None

-- a closure reads each of n entries, by its number, as `reads` says
pub record Reads {F T : Type 0} (post : F → ℕ → Option T → Type 0) (read : F) (reads : ℕ → Option T) (n : ℕ) : Type 0 where
  pub each : (i : ℕ) → i < n → (o : Option T) → post read i o → o ≡ reads i

-- the first of n entries that cannot be read
abbrev pub first_unread : {A : Type 0} → (ℕ → Option A) → Fault → ℕ → Option Refusal
first_unread read f n = ask_each (λ i. is_some (read i)) f 0 n

-- there are from `least` to `most` entries, and each can be read
abbrev pub counted : {A : Type 0} → ℕ → ℕ → (ℕ → Option A) → Fault → ℕ → Option Refusal
counted least most read f n = first_refusal (ask (nat_le least n && nat_le n most) f ∷ (first_unread read f n ∷ []))

-- the n entries; d stands for one that cannot be read
abbrev pub entries : {A : Type 0} → (ℕ → Option A) → A → ℕ → List A
entries read d n = map (λ i. unwrap_or (read i) d) (range_with_len 0 n)
