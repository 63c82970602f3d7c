-- The first question was answered yes, and no other is refused. Assumes nothing.
use Rattle.std.proofs.Common.{◌≡◌, Bool, true, List, ◌∷◌, Option, None}
use Rattle.bundle.specs.declared.refusal.Fault.{Fault}
use Rattle.bundle.specs.declared.refusal.Refusal.{Refusal}
use Rattle.bundle.specs.Format.{ask, first_refusal}
use Rattle.bundle.proofs.WholeFacts.{none_parts, ask_none}

pub whole_answered : (b : Bool) (f : Fault) (rest : List (Option Refusal)) → first_refusal (ask b f ∷ rest) ≡ None
    → (b ≡ true) × (first_refusal rest ≡ None)
whole_answered b f rest e =
    let parts = none_parts (ask b f) rest e in
    (ask_none b f parts.0, parts.1)
