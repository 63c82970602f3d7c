-- A record of the library as the slow simulator has it. Assumes nothing.
use Rattle.std.specs.Prelude.{◌≡◌, ℕ, ◌≤◌, Option, Some, None, List, map, take, length, All}
use Rattle.levels.specs.declared.Tri.TheVariants.{X}
use Rattle.record.specs.declared.point.Point.{Point}
use Rattle.record.specs.declared.point.Origin.{Origin}
use Rattle.record.specs.declared.point.Origin.TheVariants as origin
use Rattle.record.specs.declared.point.Fate.{Fate}
use Rattle.record.specs.declared.point.Fate.TheVariants as fate
use Rattle.slow.specs.declared.record.Point.{Point as SlowPoint}
use Rattle.slow.specs.declared.record.Fate.{Fate as SlowFate}
use Rattle.slow.specs.declared.record.Fate.TheVariants as slow
use Rattle.slow.specs.declared.record.Record.{Record}
use Rattle.beside.specs.declared.bench.Bench.{Bench}

abbrev pub slow_origin : Origin → Option ℕ
slow_origin origin.Start = None
slow_origin (origin.From point) = Some point

abbrev pub slow_fate : Fate → SlowFate
slow_fate fate.Open = slow.Open
slow_fate fate.Walked = slow.Walked
slow_fate (fate.Cut to) = slow.Cut to
slow_fate fate.Halted = slow.Halted

abbrev pub slow_point : Point → SlowPoint
slow_point p = record { origin = slow_origin p.origin; key = p.key; charge = p.charge; fate = slow_fate p.fate }

-- the first so many points are those, one by one
abbrev pub SamePoints : ℕ → List Point → List SlowPoint → Type 0
SamePoints count points others = (count ≤ length points) × (map slow_point (take count points) ≡ others)

-- Both records have the same points, and the library's scratch is all X. Of kept and open states it says nothing.
pub record Alike (bench : Bench) (other : Record) : Type 0 where
  pub points : SamePoints bench.exploration.point_count bench.memory.points.items other.points.items
  pub scratch : All (λ level. level ≡ X) bench.memory.scratch.items
