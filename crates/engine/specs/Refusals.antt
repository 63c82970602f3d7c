-- What the calls of the engine refuse with. Assumes nothing.
use Rattle.std.specs.Prelude.{ℕ, ◌/◌, cond, List, length, ◌==◌}
use Rattle.bundle.specs.declared.refusal.Fault.TheVariants as fault
use Rattle.bundle.specs.declared.refusal.Refusal.{Refusal}
use Rattle.model.specs.Core.{Core, flops, places}

-- memory of the wrong length
abbrev pub wrong_memory : Refusal
wrong_memory = record { fault = fault.Memory; place = 0 }

-- how many starts a core has
abbrev pub start_count : Core → ℕ
start_count d = length d.starts / flops d

-- what a start is refused with: the memory is asked for first, then the start
abbrev pub start_refusal : {V : Type 0} → Core → List V → Refusal
start_refusal d s = cond (length s == places d) (record { fault = fault.NoStart; place = 0 }) wrong_memory
