-- What a step's memories and nets draw. Assumes nothing.
use Rattle.std.proofs.Common.{◌≡◌, ℕ, ◌+◌, ◌*◌, ◌<◌, ◌≤◌, Bool, true, false, cond, List, length, get_or, ap, ◌∙◌, arith}
use mir.Val.{bool_byte}
use Rattle.std.proofs.lemmas.List.{get_or_default}
use Rattle.levels.specs.Kinds.{Kind}
use Rattle.model.specs.declared.net.Net.{Net}
use Rattle.model.specs.Core.{Core, no_net}
use Rattle.model.specs.Cycle.{at}
use Rattle.model.specs.Energy.{change, net_charge}

-- an amount that a flag counts
pub flagged : (b : Bool) (x : ℕ) → (bool_byte b * x ≡ cond b x 0) × (cond b x 0 ≤ x)
flagged true x = (omega arith, omega arith)
flagged false x = (omega arith, omega arith)

pub net_at : (d : Core) (nets : List Net) → nets ≡ d.nets → (i : ℕ) (n : Net) → i < length nets → get_or nets i n ≡ get_or d.nets i no_net
net_at d nets same i n h = get_or_default nets i n no_net h ∙ ap (λ (ns : List Net). get_or ns i no_net) same

-- a net's charge, from the levels read at its place
pub net_drawn : {V : Type 0} (k : Kind V) (d : Core) (s t : List V) (nets : List Net) → nets ≡ d.nets → (i : ℕ) (n : Net) → i < length nets
    → (v w : V) → v ≡ at k s i → w ≡ at k t i → (get_or nets i n).idle + change (get_or nets i n) (k.allows v) (k.allows w) ≡ net_charge k d s t i
net_drawn k d s t nets same i n h v w e f =
    ap (λ (m : Net). m.idle + change m (k.allows v) (k.allows w)) (net_at d nets same i n h)
    ∙ (ap (λ v. (get_or d.nets i no_net).idle + change (get_or d.nets i no_net) (k.allows v) (k.allows w)) e
    ∙ ap (λ w. (get_or d.nets i no_net).idle + change (get_or d.nets i no_net) (k.allows (at k s i)) (k.allows w)) f)
