-- When the points of both sides are the same. Assumes nothing.
use Rattle.std.proofs.Common.{◌≡◌, ◌≢◌, ◌≤◌, ℕ, Bool, List, map, take, length, ap, ◌∙◌, sym}
use Rattle.std.specs.Prelude.{IsTrue, ◌↔◌}
use Rattle.std.specs.Bool.{Decides}
use Rattle.std.proofs.lemmas.List.{length-map, length-take-le}
use Rattle.record.specs.declared.point.Point.{Point}
use Rattle.slow.specs.declared.record.Point.{Point as SlowPoint}
use Rattle.beside.specs.Sides.{slow_point, SamePoints}

pub front_length : (count : ℕ) (points : List Point) → count ≤ length points → length (map slow_point (take count points)) ≡ count
front_length count points few = length-map (take count points) slow_point ∙ length-take-le count points few

pub points_told : (count : ℕ) (points : List Point) (others : List SlowPoint) (r : Bool) → count ≤ length points
    → Decides r (map slow_point (take count points) ≡ others) → IsTrue r ↔ SamePoints count points others
points_told count points others r few told = ((λ t. (few, told.0 t)), λ same. told.1 same.1)

pub other_count : (count : ℕ) (points : List Point) (others : List SlowPoint) → count ≢ length others → SamePoints count points others → ⊥
other_count count points others differ same = differ (sym (front_length count points same.0) ∙ ap length same.1)
