use Rattle.std.proofs.Common.{◌≡◌, ℕ, sym, subst, add-one, arith}
use Rattle.std.proofs.lemmas.Result.{err_from_is_err_and}
use Rattle.design.specs.Views.{core}
use Rattle.record.specs.Record.{start_count}
use Rattle.explore.specs.Memory.{memory_of}
use Rattle.bounder.specs.Bound.{TakesStarts, none, one_more}
use Rattle.bounder.proofs.bounding.start_all.Goals as goal

pub loop-number-init : goal.loop-number-init
loop-number-init c = none

pub returns-in_err-start : goal.returns-in_err-start
returns-in_err-start c =
    let here = memory_of c.loop-number.exploration c.loop-number.points c.loop-number.opened c.args.kept.now c.loop-number.scratch in
    let exit = err_from_is_err_and c.from_residual.result c.from_residual.ensures.1 in
    rw (exit.1, exit.2) (c.loop-number.number, here, omega (arith, c.loop-number-test.true, c.start_count-number-end.ensures), c.loop-number.invariant, c.in_err-start.ensures)

pub loop-number-preserved : goal.loop-number-preserved
loop-number-preserved c =
    let d = core c.args.design.now in
    let first = memory_of c.args.exploration.now c.args.points.now c.args.opened.now c.args.kept.now c.args.scratch.now in
    let here = memory_of c.loop-number.exploration c.loop-number.points c.loop-number.opened c.args.kept.now c.loop-number.scratch in
    let after = memory_of c.start.new.self c.start.new.points c.start.new.opened c.args.kept.now c.start.new.scratch in
    subst (λ (n : ℕ). TakesStarts d first n after) (sym (add-one c.loop-number.number))
    (one_more c.loop-number.number c.in_ok-start.field-0 here after c.loop-number.invariant c.in_ok-start.ensures)

pub returns : goal.returns
returns c =
    let d = core c.args.design.now in
    let first = memory_of c.args.exploration.now c.args.points.now c.args.opened.now c.args.kept.now c.args.scratch.now in
    let here = memory_of c.loop-number.exploration c.loop-number.points c.loop-number.opened c.args.kept.now c.loop-number.scratch in
    let end : c.loop-number.number ≡ start_count d = omega (arith, c.loop-number-test.false, c.start_count-number-end.ensures) in
    subst (λ (n : ℕ). TakesStarts d first n here) end c.loop-number.invariant
