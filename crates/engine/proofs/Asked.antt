-- What a question that is answered yes says. Assumes nothing.
use Rattle.std.proofs.Common.{◌≡◌, ℕ, ◌<◌, None, sym, eqb, eqb-true, ltb, ltb-true}
use Rattle.bundle.specs.declared.refusal.Fault.{Fault}
use Rattle.bundle.specs.Format.{ask}
use Rattle.bundle.proofs.WholeFacts.{ask_none}

pub asked_same : (a b : ℕ) (f : Fault) → None ≡ ask (eqb a b) f → a ≡ b
asked_same a b f e = eqb-true a b (ask_none (eqb a b) f (sym e))

pub asked_below : (a b : ℕ) (f : Fault) → None ≡ ask (ltb a b) f → a < b
asked_below a b f e = ltb-true a b (ask_none (ltb a b) f (sym e))
