-- Gates that settle one after the other. Assumes nothing.
use Rattle.std.proofs.Common.{◌≡◌, ℕ, ◌+◌, ◌<◌, true, List, length, get_or, drop, sym, refl, ap, ◌∙◌, subst}
use Rattle.std.proofs.lemmas.List.{at_drop_more, get_or_default}
use Rattle.levels.specs.Kinds.{Kind}
use Rattle.model.specs.declared.net.Gate.{Gate}
use Rattle.model.specs.declared.net.Driver.{Driver}
use Rattle.model.specs.declared.net.Driver.TheVariants as driver
use Rattle.model.specs.declared.net.Net.{Net}
use Rattle.model.specs.Core.{Core, sound, no_net, net_sound}
use Rattle.model.specs.Cycle.{settle_net, settled_from}
use Rattle.model.proofs.Sound.{sound_parts, gate_pin}

-- what drives no gate leaves the state as it is
pub still : {V : Type 0} (k : Kind V) (d : Core) (s : List V) (i : ℕ) (x : Driver) → ((g : Gate) → x ≡ driver.Gate g → ⊥) → settle_net k d s i x ≡ s
still k d s i (driver.Gate g) other = absurd (other g refl)
still k d s i (driver.Flop «data») other = refl
still k d s i (driver.EnabledFlop «data» enable) other = refl
still k d s i driver.Input other = refl
still k d s i (driver.RomBit bit) other = refl
still k d s i (driver.RamBit bit) other = refl
still k d s i (driver.Constant bit) other = refl

-- one turn over the nets of a core
pub settled_more : {V : Type 0} (k : Kind V) (d : Core) (nets : List Net) → nets ≡ d.nets → (i : ℕ) (n : Net) (s t : List V) → i < length nets → t ≡ settle_net k d s i (get_or nets i n).driver → settled_from k d (i + 1) (drop (i + 1) d.nets) t ≡ settled_from k d i (drop i d.nets) s
settled_more k d nets same i n s t h e =
    let step : settled_from k d (i + 1) (drop (i + 1) nets) t ≡ settled_from k d i (drop i nets) s =
    ap (settled_from k d (i + 1) (drop (i + 1) nets)) e ∙ sym (at_drop_more (λ ns. settled_from k d i ns s) nets i n h) in
    subst (λ (ns : List Net). settled_from k d (i + 1) (drop (i + 1) ns) t ≡ settled_from k d i (drop i ns) s) same step

-- the pins of a gate of a sound core name nets
pub gate_wired : (d : Core) → sound d ≡ true → (nets : List Net) → nets ≡ d.nets → (i : ℕ) (n : Net) → i < length nets → (g : Gate) → (get_or nets i n).driver ≡ driver.Gate g → (j : ℕ) → get_or g.pins j 0 < length d.nets
gate_wired d e nets same i n h g is j =
    let parts = sound_parts d e in
    let here : i < length d.nets = subst (λ (ns : List Net). i < length ns) same h in
    let at_net : (get_or d.nets i no_net).driver ≡ driver.Gate g =
    ap (λ (m : Net). m.driver) (get_or_default d.nets i no_net n here ∙ ap (λ (ns : List Net). get_or ns i n) (sym same)) ∙ is in
    gate_pin d i g parts.some_nets (subst (λ (x : Driver). net_sound d i x ≡ true) at_net (parts.net i here)) j
