-- What a net's use says of it. Assumes nothing.
use Rattle.std.specs.Prelude.{Bool, true, false, Option, Some, None}
use Rattle.slow_tag.specs.declared.tag.Use.{Use}
use Rattle.slow_tag.specs.declared.tag.Use.TheVariants as duty

abbrev pub holds_a_bit : Use → Bool
holds_a_bit duty.Flop = true
holds_a_bit duty.EnabledFlop = true
holds_a_bit _ = false

abbrev pub constant_of : Use → Option Bool
constant_of duty.Zero = Some false
constant_of duty.One = Some true
constant_of _ = None
