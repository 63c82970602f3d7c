-- Constants set one after the other. Assumes nothing.
use Rattle.std.proofs.Common.{◌≡◌, ℕ, ◌+◌, ◌<◌, Bool, List, length, get_or, drop, sym, refl, ap, ◌∙◌, ap₂}
use Rattle.std.proofs.lemmas.List.{at_drop_more}
use Rattle.levels.specs.Kinds.{Kind}
use Rattle.model.specs.declared.net.Driver.{Driver}
use Rattle.model.specs.declared.net.Driver.TheVariants as driver
use Rattle.model.specs.declared.net.Net.{Net}
use Rattle.model.specs.Core.{Core}
use Rattle.record.specs.Record.{keyed, constant_at, with_constants, restored}

module _ {V : Type 0} (k : Kind V) (d : Core) where
  -- what is no constant leaves the state as it is
  pub no_constant : (x : Driver) (s : List V) (i : ℕ) → ((b : Bool) → x ≡ driver.Constant b → ⊥) → constant_at k d x s i ≡ s
  no_constant (driver.Gate g) s i other = refl
  no_constant (driver.Flop «data») s i other = refl
  no_constant (driver.EnabledFlop «data» enable) s i other = refl
  no_constant driver.Input s i other = refl
  no_constant (driver.RomBit bit) s i other = refl
  no_constant (driver.RamBit bit) s i other = refl
  no_constant (driver.Constant bit) s i other = absurd (other bit refl)

  -- one net on
  pub constants_more : (ns : List Net) (i : ℕ) (n : Net) (s t : List V) → i < length ns → t ≡ constant_at k d (get_or ns i n).driver s i →
      with_constants k d (i + 1) (drop (i + 1) ns) t ≡ with_constants k d i (drop i ns) s
  constants_more ns i n s t h e =
      ap (with_constants k d (i + 1) (drop (i + 1) ns)) e ∙ sym (at_drop_more (λ (ms : List Net). with_constants k d i ms s) ns i n h)

  -- the constants set again after the pilots, where pilots and nets are those of the core
  pub restored_all : (ps : List ℕ) (ns : List Net) (key : ℕ) (s t u : List V) → ps ≡ d.pilots → ns ≡ d.nets → t ≡ keyed k ps key s →
      u ≡ with_constants k d 0 ns t → u ≡ restored k d key s
  restored_all ps ns key s t u pilots nets set again =
      again ∙ ap₂ (with_constants k d 0) nets (set ∙ ap (λ (qs : List ℕ). keyed k qs key s) pilots)
