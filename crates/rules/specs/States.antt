-- The tests on levels and states tell what they are named for. Assumes nothing.
use Rattle.std.specs.Prelude.{◌≡◌, suc, Bool, true, false, cond, not, ◌||◌, List, [], ◌∷◌, length, Decides, ◌≢◌, refl}
use Rattle.std.proofs.Common.{sym, ap, ap₂, ◌∙◌, ⊎_elim}
use Rattle.std.proofs.lemmas.Bool.{and_parts, and_from, or_cases, or_left, or_right}
use Rattle.levels.specs.declared.Tri.{Tri}
use Rattle.levels.specs.declared.Tri.TheVariants.{Zero, One, X}
use Rattle.rules.specs.Merges.{same_level}
use Rattle.rules.specs.Meanings.{same_state, some_state}

level_eq : (v w : Tri) → same_level v w ≡ true → v ≡ w
level_eq Zero Zero h = refl
level_eq Zero One h = cc
level_eq Zero X h = cc
level_eq One Zero h = cc
level_eq One One h = refl
level_eq One X h = cc
level_eq X Zero h = cc
level_eq X One h = cc
level_eq X X h = refl

pub level_same : (v : Tri) → same_level v v ≡ true
level_same Zero = refl
level_same One = refl
level_same X = refl

pub level_decides : (v w : Tri) → Decides (same_level v w) (v ≡ w)
level_decides v w = (level_eq v w, λ e. ap (same_level v) (sym e) ∙ level_same v)

pub apart : (v w : Tri) → (v ≢ w) → same_level v w ≡ false
apart v w ne = go (same_level v w) refl
  where
    go : (b : Bool) → same_level v w ≡ b → b ≡ false
    go true e = absurd (ne (level_eq v w e))
    go false e = refl

-- what `!=` answers
pub told_apart : (v w : Tri) (x r : Bool) → cond x (v ≡ w) (v ≢ w) → r ≡ not x → not (same_level v w) ≡ r
told_apart v w true r h e = ap not ((level_decides v w).1 h) ∙ sym e
told_apart v w false r h e = ap not (apart v w h) ∙ sym e

pub state_eq : (s t : List Tri) → same_state s t ≡ true → s ≡ t
state_eq [] [] h = refl
state_eq [] (w ∷ ws) h = cc
state_eq (v ∷ vs) [] h = cc
state_eq (v ∷ vs) (w ∷ ws) h =
    let p = and_parts (same_level v w) (same_state vs ws) h in
    ap₂ ◌∷◌ (level_eq v w p.0) (state_eq vs ws p.1)

pub state_same : (s : List Tri) → same_state s s ≡ true
state_same [] = refl
state_same (v ∷ vs) = and_from (same_level v v) (same_state vs vs) (level_same v) (state_same vs)

pub same_from_eq : (s t : List Tri) → t ≡ s → same_state s t ≡ true
same_from_eq s t e = ap (same_state s) e ∙ state_same s

-- ---- some state of a length

pub some_found : (r : List Tri) (test : List Tri → Bool) → some_state r test ≡ true → (s : List Tri) × (length s ≡ length r) × (test s ≡ true)
some_found [] test h = ([], refl, h)
some_found (v ∷ vs) test h =
    ⊎_elim
    (λ p. ⊎_elim (λ q. with Zero (some_found vs (λ s. test (Zero ∷ s)) q)) (λ q. with One (some_found vs (λ s. test (One ∷ s)) q))
    (or_cases (some_state vs (λ s. test (Zero ∷ s))) (some_state vs (λ s. test (One ∷ s))) p))
    (λ q. with X (some_found vs (λ s. test (X ∷ s)) q))
    (or_cases (some_state vs (λ s. test (Zero ∷ s)) || some_state vs (λ s. test (One ∷ s))) (some_state vs (λ s. test (X ∷ s))) h)
  where
    with : (u : Tri) → (s : List Tri) × (length s ≡ length vs) × (test (u ∷ s) ≡ true) →
        (s : List Tri) × (length s ≡ length (v ∷ vs)) × (test s ≡ true)
    with u f = (u ∷ f.0, ap suc f.1, f.2)

pub some_from : (r s : List Tri) (test : List Tri → Bool) → length s ≡ length r → test s ≡ true → some_state r test ≡ true
some_from [] [] test e h = h
some_from [] (w ∷ ws) test e h = cc
some_from (v ∷ vs) [] test e h = cc
some_from (v ∷ vs) (Zero ∷ ws) test e h = or_left _ _ (or_left _ _ (some_from vs ws (λ s. test (Zero ∷ s)) (cc) h))
some_from (v ∷ vs) (One ∷ ws) test e h =
    or_left _ _ (or_right (some_state vs (λ s. test (Zero ∷ s))) _ (some_from vs ws (λ s. test (One ∷ s)) (cc) h))
some_from (v ∷ vs) (X ∷ ws) test e h =
    or_right (some_state vs (λ s. test (Zero ∷ s)) || some_state vs (λ s. test (One ∷ s))) _ (some_from vs ws (λ s. test (X ∷ s)) (cc) h)
