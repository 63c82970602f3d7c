-- One state that covers another, place by place. Assumes nothing.
use Rattle.std.proofs.Common.{◌≡◌, Bool, false, ◌&&◌, List, [], ◌∷◌, length, refl, ap, arith}
use Rattle.std.specs.List.{list_all, zip}
use Rattle.std.proofs.lemmas.Bool.{and_right}
use Rattle.levels.specs.Kinds.{Kind}
use Rattle.record.specs.Record.{covers, covers_all}

module _ {V : Type 0} (k : Kind V) where
  pub covers_unequal : (s t : List V) → (length s ≡ length t → ⊥) → covers_all k s t ≡ false
  covers_unequal [] [] h = absurd (h refl)
  covers_unequal [] (w ∷ ws) h = refl
  covers_unequal (v ∷ vs) [] h = refl
  covers_unequal (v ∷ vs) (w ∷ ws) h =
      and_right (covers k v w) (covers_all k vs ws) (covers_unequal vs ws (λ e. h (omega arith)))

  pub covers_zip : (s t : List V) → length s ≡ length t → list_all (λ p. covers k p.0 p.1) (zip s t) ≡ covers_all k s t
  covers_zip [] [] h = refl
  covers_zip [] (w ∷ ws) h = absurd (omega arith)
  covers_zip (v ∷ vs) [] h = absurd (omega arith)
  covers_zip (v ∷ vs) (w ∷ ws) h = ap (λ (b : Bool). covers k v w && b) (covers_zip vs ws (omega arith))
