-- Questions put one after the other.
use Rattle.std.proofs.Common.{◌≡◌, ℕ, ◌≤◌, Bool, true, false, ◌&&◌, leb, List, [], ◌∷◌, ◌++◌, Some, None, Err, Option, Result, refl, ap, ◌∙◌, arith}
use Rattle.std.specs.List.{AllByRecursion}
use Rattle.std.proofs.lemmas.Bool.{and_parts, leb-true}
use Rattle.bundle.specs.declared.refusal.Fault.{Fault}
use Rattle.bundle.specs.declared.refusal.Refusal.{Refusal}
use Rattle.bundle.specs.Format.{ask, first_refusal}
use Rattle.std.specs.Option.{ok_or}
use Rattle.std.specs.Result.{result_err}
use Rattle.decode.specs.Entries.{first_unread, counted}

abbrev pub Passed : Option Refusal → Type 0
Passed o = None ≡ o

-- questions that are answered yes are passed over
pub passed : (o : Option Refusal) (rest : List (Option Refusal)) → Passed o → first_refusal rest ≡ first_refusal (o ∷ rest)
passed o rest e = ap (λ (x : Option Refusal). first_refusal (x ∷ rest)) e

pub all_passed : (before rest : List (Option Refusal)) → AllByRecursion Passed before → first_refusal rest ≡ first_refusal (before ++ rest)
all_passed [] rest h = refl
all_passed (o ∷ before) rest h = all_passed before rest h.1 ∙ passed o (before ++ rest) h.0

pub last_asked : (o : Option Refusal) → o ≡ first_refusal (o ∷ [])
last_asked None = refl
last_asked (Some r) = refl

pub both_passed : (o q : Option Refusal) → Passed (first_refusal (o ∷ (q ∷ []))) → Passed o × Passed q
both_passed (Some x) q e = let z : ◌≡◌ {A = ℕ} 0 1 = cc in absurd (omega arith)
both_passed None (Some x) e = let z : ◌≡◌ {A = ℕ} 0 1 = cc in absurd (omega arith)
both_passed None None e = (refl, refl)

pub asked_yes : (t : Bool) (f : Fault) → Passed (ask t f) → t ≡ true
asked_yes true f e = refl
asked_yes false f e = let z : ◌≡◌ {A = ℕ} 0 1 = cc in absurd (omega arith)

pub counted_yes : {A : Type 0} (least most : ℕ) (read : ℕ → Option A) (f : Fault) (n : ℕ) → Passed (counted least most read f n) → (least ≤ n) × (n ≤ most) × Passed (first_unread read f n)
counted_yes least most read f n e =
    let h = both_passed (ask (leb least n && leb n most) f) (first_unread read f n) e in
    let t = and_parts (leb least n) (leb n most) (asked_yes (leb least n && leb n most) f h.0) in
    (leb-true least n t.0, leb-true n most t.1, h.1)

-- `ok_or` fails where there is nothing
pub none_from_err : {T E : Type 0} (o : Option T) (e x : E) → ok_or o e ≡ Err x → (o ≡ None) × (x ≡ e)
none_from_err None e x h = (refl, cc)
none_from_err (Some t) e x h = let z : ◌≡◌ {A = ℕ} 0 1 = cc in absurd (omega arith)

-- what a call that hands a refusal on has refused
pub handed_on : {T : Type 0} (res : Result T Refusal) (y r : Refusal) (o : Option Refusal) → res ≡ Err y → y ≡ r → Some r ≡ o → result_err res ≡ o
handed_on res y r o e d h = ap result_err e ∙ (ap (λ (x : Refusal). Some x) d ∙ h)

-- where none is refused, each question is answered yes
pub each_passed : (os : List (Option Refusal)) → Passed (first_refusal os) → AllByRecursion Passed os
each_passed [] e = tt
each_passed (None ∷ os) e = (refl, each_passed os e)
each_passed (Some r ∷ os) e = let z : ◌≡◌ {A = ℕ} 0 1 = cc in absurd (omega arith)
