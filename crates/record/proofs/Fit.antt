-- Which levels and which rules the theorems on a record are for. Assumes nothing.
use Rattle.std.proofs.Common.{◌≡◌, ℕ, true, List, length, sym, refl, ◌∙◌}
use Rattle.levels.specs.declared.Bit.TheVariants.{Zero, One}
use Rattle.levels.specs.Kinds.{Kind, Cover}
use Rattle.levels.specs.Bits.{bit_kind}
use Rattle.levels.specs.Tris.{tri_kind}
use Rattle.model.specs.Core.{Core}
use Rattle.record.specs.Record.{Meaning}
use Rattle.record.specs.Escape.{Wide, Definite, RuleCovers}

pub tri_wide : Wide tri_kind
tri_wide b = refl

pub bit_definite : Definite bit_kind
bit_definite Zero b = refl
bit_definite One b = refl

-- a rule that covers states of one length, however many places they have, covers those of every core
pub rule_covers : {V : Type 0} (k : Kind V) (m : Meaning V) →
    ((kept new result : List V) (nets count : ℕ) → length kept ≡ length new → m.merges kept new nets count result ≡ true →
    Cover k k result kept × Cover k k result new) →
    (d : Core) → RuleCovers k d m
rule_covers k m h d kept new result count full also e = h kept new result (length d.nets) count (full ∙ sym also) e
