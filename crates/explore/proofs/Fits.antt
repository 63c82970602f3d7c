-- Memory of the lengths that an exploration was made with. Assumes nothing.
use Rattle.std.proofs.Common.{◌≡◌, true, ◌&&◌, eqb, length}
use Rattle.std.proofs.lemmas.Bool.{and_parts, eqb-true}
use Rattle.model.specs.Core.{Core, places}
use Rattle.explore.specs.declared.exploration.Exploration.{Exploration}
use Rattle.explore.specs.Memory.{Memory, fits}
use Rattle.explore.specs.Fitting.{Fitting}

pub fitting : (d : Core) (m : Memory) → fits d m ≡ true → Fitting d m
fitting d m e =
    let x : Exploration = m.exploration in
    let a = eqb (places d) x.places in
    let b = eqb (length m.lent.points) x.point_length in
    let o = eqb (length m.lent.opened) x.open_length in
    let k = eqb (length m.lent.kept) x.kept_length in
    let s = eqb (length m.lent.scratch) x.scratch_length in
    let to_kept = and_parts (a && b && o && k) s e in
    let to_opened = and_parts (a && b && o) k to_kept.0 in
    let to_points = and_parts (a && b) o to_opened.0 in
    let to_places = and_parts a b to_points.0 in
    record {
      places_fit = eqb-true (places d) x.places to_places.0;
      points_fit = eqb-true (length m.lent.points) x.point_length to_places.1;
      opened_fit = eqb-true (length m.lent.opened) x.open_length to_points.1;
      kept_fit = eqb-true (length m.lent.kept) x.kept_length to_opened.1;
      scratch_fit = eqb-true (length m.lent.scratch) x.scratch_length to_kept.1;
    }
