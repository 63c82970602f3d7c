use Rattle.std.proofs.Common.{ℕ, Ok, Err, sym, ap, subst, rules}
use Rattle.std.proofs.lemmas.Result.{err_from_is_err_and}
use Rattle.rules.specs.Meanings.{plain_meaning}
use Rattle.design.specs.Views.{core}
use Rattle.explore.specs.declared.answers.Ending.{Ending}
use Rattle.explore.specs.Memory.{lent_of, memory_of}
use Rattle.explore.specs.Calls.{Walks, Figured}
use Rattle.bounder.specs.declared.head.Head.{Head}
use Rattle.bounder.specs.Bound.{Bounds, not_made, not_started, not_walked, walked}
use Rattle.bounder.proofs.Safe.{bounds_hold}
use Rattle.bounder.proofs.bounding.bound.Goals as goal

pub returns-in_err-make : goal.returns-in_err-make
returns-in_err-make c =
    let after = memory_of c.make.new.self c.args.points.now c.args.opened.now c.args.kept.now c.make.new.scratch in
    let exit = err_from_is_err_and c.from_residual.result c.from_residual.ensures.1 in
    let made = c.in_err-make.ensures in
    rw (exit.1, exit.2) (record {
      bounds = not_made after c.in_err-make.field-0.0
          (made.made, ap (memory_of c.make.new.self c.args.points.now c.args.opened.now c.args.kept.now) made.cleared);
      no_run_draws_more = tt;
      same = search rules;
    })

pub returns-in_err-start_all : goal.returns-in_err-start_all
returns-in_err-start_all c =
    let m = memory_of c.make.new.self c.args.points.now c.args.opened.now c.args.kept.now c.make.new.scratch in
    let after = memory_of c.start_all.new.exploration c.start_all.new.points c.start_all.new.opened c.args.kept.now c.start_all.new.scratch in
    let exit = err_from_is_err_and c.from_residual-in_err-start_all.result c.from_residual-in_err-start_all.ensures.1 in
    let made = c.in_ok-make.ensures in
    rw (exit.1, exit.2) (record {
      bounds = not_started m after c.in_err-start_all.field-0.0
          (made.made, ap (memory_of c.make.new.self c.args.points.now c.args.opened.now c.args.kept.now) made.cleared) c.in_err-start_all.ensures;
      no_run_draws_more = tt;
      same = search rules;
    })

pub returns-in-Refused : goal.returns-in-Refused
returns-in-Refused c =
    let d = core c.args.design.now in
    let m = memory_of c.make.new.self c.args.points.now c.args.opened.now c.args.kept.now c.make.new.scratch in
    let n = memory_of c.start_all.new.exploration c.start_all.new.points c.start_all.new.opened c.args.kept.now c.start_all.new.scratch in
    let after = memory_of c.walk-ending.new.self c.walk-ending.new.points c.walk-ending.new.opened c.walk-ending.new.kept c.walk-ending.new.scratch in
    let made = c.in_ok-make.ensures in
    record {
      bounds = not_walked m n after c.walk-ending.result.0 c.in-Refused.refusal
          (made.made, ap (memory_of c.make.new.self c.args.points.now c.args.opened.now c.args.kept.now) made.cleared) c.in_ok-start_all.ensures
          (subst (λ (e : Ending). Walks d plain_meaning 65535 n after (c.walk-ending.result.0, e)) c.in-Refused.is c.walk-ending.ensures);
      no_run_draws_more = tt;
      same = search rules;
    }

pub returns-in_err-figures : goal.returns-in_err-figures
returns-in_err-figures c =
    let d = core c.args.design.now in
    let m = memory_of c.make.new.self c.args.points.now c.args.opened.now c.args.kept.now c.make.new.scratch in
    let n = memory_of c.start_all.new.exploration c.start_all.new.points c.start_all.new.opened c.args.kept.now c.start_all.new.scratch in
    let w = memory_of c.walk-ending.new.self c.walk-ending.new.points c.walk-ending.new.opened c.walk-ending.new.kept c.walk-ending.new.scratch in
    let after = memory_of c.walk-ending.new.self c.walk-ending.new.points c.walk-ending.new.opened c.walk-ending.new.kept c.figures.new.scratch in
    let made = c.in_ok-make.ensures in
    let exit = err_from_is_err_and c.from_residual-in_err-figures.result c.from_residual-in_err-figures.ensures.1 in
    let e = c.in_err-figures.field-0.0 in
    rw (exit.1, exit.2) (record {
      bounds = walked m n w after c.figures.new.rows.row.now c.figures.new.rows.other.now c.walk-ending.result.0 c.walk-ending.result.1 (Err e)
          (made.made, ap (memory_of c.make.new.self c.args.points.now c.args.opened.now c.args.kept.now) made.cleared) c.in_ok-start_all.ensures
          c.walk-ending.ensures c.in_default.not-Refused
          (subst (λ (width : ℕ). Figured d width w c.args.rows.now.row.now c.args.rows.now.other.now after c.figures.new.rows.row.now c.figures.new.rows.other.now (Err e)) c.window.ensures
          c.in_err-figures.ensures.figured);
      no_run_draws_more = tt;
      same = c.in_err-figures.ensures.same_rows;
    })

pub returns : goal.returns
returns c =
    let d = core c.args.design.now in
    let place = c.args.exploration.now in
    let lent = lent_of c.args.points.now c.args.opened.now c.args.kept.now c.args.scratch.now in
    let m = memory_of c.make.new.self c.args.points.now c.args.opened.now c.args.kept.now c.make.new.scratch in
    let n = memory_of c.start_all.new.exploration c.start_all.new.points c.start_all.new.opened c.args.kept.now c.start_all.new.scratch in
    let w = memory_of c.walk-ending.new.self c.walk-ending.new.points c.walk-ending.new.opened c.walk-ending.new.kept c.walk-ending.new.scratch in
    let after = memory_of c.walk-ending.new.self c.walk-ending.new.points c.walk-ending.new.opened c.walk-ending.new.kept c.figures.new.scratch in
    let made = c.in_ok-make.ensures in
    let f = c.in_ok-figures.figures in
    let bounds : Bounds d place lent c.args.rows.now.row.now c.args.rows.now.other.now after c.figures.new.rows.row.now c.figures.new.rows.other.now (Ok c.head.result) =
    subst (λ (h : Head). Bounds d place lent c.args.rows.now.row.now c.args.rows.now.other.now after c.figures.new.rows.row.now c.figures.new.rows.other.now (Ok h)) (sym c.head.ensures)
    (walked m n w after c.figures.new.rows.row.now c.figures.new.rows.other.now c.walk-ending.result.0 c.walk-ending.result.1 (Ok f)
    (made.made, ap (memory_of c.make.new.self c.args.points.now c.args.opened.now c.args.kept.now) made.cleared) c.in_ok-start_all.ensures
    c.walk-ending.ensures c.in_default.not-Refused
    (subst (λ (width : ℕ). Figured d width w c.args.rows.now.row.now c.args.rows.now.other.now after c.figures.new.rows.row.now c.figures.new.rows.other.now (Ok f)) c.window.ensures
    c.in_ok-figures.ensures.figured)) in
    record {
      bounds = bounds;
      no_run_draws_more = bounds_hold d c.args.design.now.sound place lent c.args.rows.now.row.now c.args.rows.now.other.now after c.figures.new.rows.row.now c.figures.new.rows.other.now
          (Ok c.head.result) bounds;
      same = c.in_ok-figures.ensures.same_rows;
    }
