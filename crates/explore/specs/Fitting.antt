-- Memory that fits an exploration and its design. Assumes nothing.
use Rattle.std.specs.Prelude.{◌≡◌, length}
use Rattle.model.specs.Core.{Core, places}
use Rattle.explore.specs.Memory.{Memory}

-- memory of the lengths that the exploration was made with, and a design whose states have its places
pub record Fitting (d : Core) (m : Memory) : Type 0 where
  pub places_fit : places d ≡ m.exploration.places
  pub points_fit : length m.lent.points ≡ m.exploration.point_length
  pub opened_fit : length m.lent.opened ≡ m.exploration.open_length
  pub kept_fit : length m.lent.kept ≡ m.exploration.kept_length
  pub scratch_fit : length m.lent.scratch ≡ m.exploration.scratch_length
