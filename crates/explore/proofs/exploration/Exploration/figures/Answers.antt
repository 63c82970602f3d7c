use Rattle.std.proofs.Common.{length, ap, ◌∙◌, arith}
use Rattle.std.proofs.lemmas.Result.{err_from_is_err_and}
use Rattle.design.specs.Views.{core}
use Rattle.record.specs.Bounds.{peak}
use Rattle.explore.specs.Memory.{memory_of}
use Rattle.explore.proofs.Escaping.{no_run_escapes_the_record}
use Rattle.explore.proofs.FigureLemmas.{peak_allowed}
use Rattle.explore.proofs.exploration.Exploration.figures.Goals as goal

pub returns-in_err-window : goal.returns-in_err-window
returns-in_err-window c =
    let before = memory_of c.args.self.now c.args.points.now c.args.opened.now c.args.kept.now c.args.scratch.now in
    let exit = err_from_is_err_and c.from_residual.result c.from_residual.ensures.1 in
    record {
      figured = rw (exit.1, exit.2) c.in_err-window.ensures.windows;
      no_run_escapes = no_run_escapes_the_record (core c.args.design.now) c.args.design.now.sound before;
      same_rows = c.in_err-window.ensures.same_rows;
    }

pub used-requires : goal.used-requires
used-requires c =
    let windows = c.in_ok-window.ensures.windows in
    omega (
      arith,
      (peak_allowed (core c.args.design.now) (memory_of c.args.self.now c.args.points.now c.args.opened.now c.args.kept.now c.args.scratch.now) (length c.args.rows.now.row.now) (length c.args.rows.now.other.now)
          c.args.width windows.3.0).1,
    )

pub returns : goal.returns
returns c =
    let before = memory_of c.args.self.now c.args.points.now c.args.opened.now c.args.kept.now c.args.scratch.now in
    let windows = c.in_ok-window.ensures.windows in
    let allowed = peak_allowed (core c.args.design.now) before (length c.args.rows.now.row.now) (length c.args.rows.now.other.now) c.args.width windows.3.0 in
    record {
      figured = ((windows.0, (allowed.0, c.peak.ensures ∙ ap peak c.used.ensures)), windows);
      no_run_escapes = no_run_escapes_the_record (core c.args.design.now) c.args.design.now.sound before;
      same_rows = c.in_ok-window.ensures.same_rows;
    }
