-- What `==` and `!=` on levels answer. Assumes nothing.
use denote.Enum.Bare.{sameb}
use Rattle.std.proofs.Common.{◌≡◌, ℕ, zero, suc, Bool, true, false, ◌||◌, ◌&&◌, List, [], ◌∷◌, length, take, min, refl, sym, ◌∙◌, ap, ap₂, arith}
use Rattle.std.specs.Prelude.{not, ◌≢◌}
use lib.Pointwise.{pointwise}
use Rattle.levels.specs.declared.Tri.{Tri}
use Rattle.levels.specs.declared.Tri.TheVariants.{Zero, One, X}
use Rattle.levels.specs.contracts.Tri.{the_type}
use Rattle.rules.specs.Merges.{same_level, differ}
use Rattle.rules.specs.States.{level_decides, level_same}

pub equal_levels : (v w : Tri) → sameb the_type v w ≡ same_level v w
equal_levels Zero Zero = refl
equal_levels Zero One = refl
equal_levels Zero X = refl
equal_levels One Zero = refl
equal_levels One One = refl
equal_levels One X = refl
equal_levels X Zero = refl
equal_levels X One = refl
equal_levels X X = refl

-- what `!=` answers of the first n places of two states, where n is the shorter one's length
pub differ_front : (n : ℕ) (vs ws : List Tri) → n ≡ min (length vs) (length ws) → not (pointwise (sameb the_type) (take n vs) (take n ws)) ≡ differ vs ws
differ_front zero [] [] e = refl
differ_front zero [] (w ∷ ws) e = refl
differ_front (suc n) [] ws e = absurd (omega arith)
differ_front zero (v ∷ vs) [] e = refl
differ_front (suc n) (v ∷ vs) [] e = absurd (omega arith)
differ_front zero (v ∷ vs) (w ∷ ws) e = absurd (omega arith)
differ_front (suc n) (v ∷ vs) (w ∷ ws) e =
    not_both _ _ ∙ ap₂ (λ (a b : Bool). not a || b) (equal_levels v w) (differ_front n vs ws (omega arith))
  where
    not_both : (a b : Bool) → not (a && b) ≡ (not a || not b)
    not_both true b = refl
    not_both false b = refl

pub told_same : (v w : Tri) → sameb the_type v w ≡ true → v ≡ w
told_same v w e = (level_decides v w).0 (sym (equal_levels v w) ∙ e)

pub told_other : (v w : Tri) → sameb the_type v w ≡ false → v ≢ w
told_other v w e same =
    let t : true ≡ false = sym (level_same v) ∙ ap (same_level v) same ∙ sym (equal_levels v w) ∙ e in cc
