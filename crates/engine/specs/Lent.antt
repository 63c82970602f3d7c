-- The memory that a call is lent. Assumes nothing.
use Rattle.std.specs.Prelude.{◌≡◌, ◌≤◌, List, length}
use Rattle.model.specs.Core.{Core, places}

-- what an edge asks for: two whole states, and leaves for the largest memory that a core may have
pub record EdgeMemory {V : Type 0} (d : Core) (before after leaves : List V) : Type 0 where
  pub before_whole : length before ≡ places d
  pub after_whole : length after ≡ places d
  pub some_leaves : 1024 ≤ length leaves
