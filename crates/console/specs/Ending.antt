-- Why a program ends with nothing else printed. Assumes nothing.
use Rattle.std.specs.Prelude.{Bool, true, false}
use Rattle.console.specs.declared.stop.Stop.{Stop}
use Rattle.console.specs.declared.stop.Stop.TheVariants as stop

-- whether something outside failed, and not what was asked was refused
abbrev pub is_failed : Stop → Bool
is_failed (stop.Refused r) = false
is_failed (stop.Failed e) = true
