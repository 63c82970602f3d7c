use Rattle.std.proofs.Common.{◌+◌, arith, rules}
use Rattle.explore.proofs.Views.{numbers_push}
use Rattle.explore.proofs.Facts.{replaced_kept}
use Rattle.explore.proofs.exploration.Exploration.add_open.Goals as goal

pub invariant_of-self : goal.invariant_of-self
invariant_of-self c =
    let x = c.args.self.now in
    record {
      some_places = x.some_places;
      few_points = omega arith;
      points_inside = omega arith;
      few_open = omega arith;
      open_inside = c.requires.open_inside;
      few_entries = x.few_entries;
      entries_inside = x.entries_inside;
      numbers_used = numbers_push x.numbers x.open_count x.point_count x.point_count (x.point_count + 1) (search rules) (omega arith) (omega arith) x.numbers_used;
      scratch_inside = x.scratch_inside;
      open_used = omega (arith, x.open_used);
      few_replaced = replaced_kept x.entries x.entry_count x.open_count x.point_count (x.open_count + 1) (x.point_count + 1) (omega arith) x.few_replaced;
    }
