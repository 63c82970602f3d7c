use Rattle.std.proofs.Common.{Bool, ◌&&◌, leb, length, ap, ◌∙◌}
use Rattle.design.specs.Views.{core}
use Rattle.explore.specs.Memory.{memory_of}
use Rattle.explore.proofs.FigureLemmas.{window_held, window_cases}
use Rattle.explore.proofs.exploration.Exploration.window.Goals as goal

pub used-requires : goal.used-requires
used-requires c =
    let x = c.args.self.now in
    let row = length c.args.rows.now.row.now in
    let other = length c.args.rows.now.other.now in
    window_held (core c.args.design.now) (memory_of x c.args.points.now c.args.opened.now c.args.kept.now c.args.scratch.now) row other c.args.width
    c.rows_fit-fits.result (c.rows_fit-fits.ensures ∙ ap (λ (b : Bool). b && leb x.point_count row && leb x.point_count other) c.fits-fits.ensures)
    c.in_default.ensures

pub returns-clause-windows : goal.returns-clause-windows
returns-clause-windows c =
    let x = c.args.self.now in
    let row = length c.args.rows.now.row.now in
    let other = length c.args.rows.now.other.now in (
      ap (memory_of x c.args.points.now c.args.opened.now c.args.kept.now) (c.fill.ensures.after (λ y e. e)),
      c.window.ensures.row_cleared,
      c.window.ensures.other_cleared,
      window_cases (core c.args.design.now) (memory_of x c.args.points.now c.args.opened.now c.args.kept.now c.args.scratch.now) row other c.args.width
          c.rows_fit-fits.result (c.rows_fit-fits.ensures ∙ ap (λ (b : Bool). b && leb x.point_count row && leb x.point_count other) c.fits-fits.ensures)
          c.in_default.ensures c.used.result.now c.used.ensures c.window.result c.window.ensures.answer,
    )
