use Rattle.std.proofs.Common.{◌-◌, arith}
use Rattle.std.proofs.lemmas.Nat.{mul-le}
use Rattle.explore.proofs.Views.{numbers_kept}
use Rattle.explore.proofs.Facts.{replaced_kept}
use Rattle.explore.proofs.exploration.Exploration.pop.Goals as goal

pub invariant_of-self : goal.invariant_of-self
invariant_of-self c =
    let x = c.args.self.now in
    let n = x.open_count - 1 in
    let inside = mul-le n x.places x.open_count x.places (omega arith) (omega arith) in
    record {
      some_places = x.some_places;
      few_points = x.few_points;
      points_inside = x.points_inside;
      few_open = omega arith;
      open_inside = omega arith;
      few_entries = x.few_entries;
      entries_inside = x.entries_inside;
      numbers_used = numbers_kept x.numbers x.open_count n x.point_count x.point_count (omega arith) (omega arith) x.numbers_used;
      scratch_inside = x.scratch_inside;
      open_used = omega arith;
      few_replaced = replaced_kept x.entries x.entry_count x.open_count x.point_count n x.point_count (omega arith) x.few_replaced;
    }
