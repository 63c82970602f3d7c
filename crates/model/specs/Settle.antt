-- Settled gates agree with their pins. Assumes nothing.
use Rattle.std.specs.Prelude.{◌≡◌, ℕ, ◌≤◌, true, false, List, length}
use Rattle.levels.specs.Kinds.{Kind}
use Rattle.model.specs.declared.net.Gate.{Gate}
use Rattle.model.specs.declared.net.Driver.TheVariants as driver
use Rattle.model.specs.Core.{Core, driver_at, is_gate, nets_sound}
use Rattle.model.specs.Cycle.{at, gate_output, settled}

module _ {V : Type 0} (k : Kind V) (d : Core) where
  -- State t is state s with its gates in agreement: each gate's net has what the gate makes of its pins in t itself, and every
  -- place that is no gate's is as in s.
  pub record Agrees (s t : List V) : Type 0 where
    pub as_long : length t ≡ length s
    pub gates : (i : ℕ) (g : Gate) → driver_at d i ≡ driver.Gate g → at k t i ≡ gate_output k t g
    pub others : (i : ℕ) → is_gate (driver_at d i) ≡ false → at k t i ≡ at k s i

  pub record Settles (s : List V) : Type 0 where
    pub agrees : Agrees s (settled k d s)
    pub alone : (t : List V) → Agrees s t → t ≡ settled k d s

-- in a core with sound nets, whose gates thus name no gate of their own number or a higher one
abbrev pub GatesSettle : {V : Type 0} → Kind V → Type 0
GatesSettle {V} k = (d : Core) → nets_sound d ≡ true → (s : List V) → length d.nets ≤ length s → Settles k d s
