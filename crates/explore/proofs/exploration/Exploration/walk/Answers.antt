use Rattle.std.proofs.Common.{ℕ, replicate, sym, refl, ap, ◌∙◌}
use Rattle.levels.specs.declared.Tri.TheVariants.{X}
use Rattle.design.specs.Views.{core}
use Rattle.explore.specs.declared.answers.Ending.TheVariants as ending
use Rattle.explore.specs.Memory.{memory_of}
use Rattle.explore.proofs.Ended.{walk_fits, keeps_of, walks_refused, walks_taken}
use Rattle.explore.proofs.exploration.Exploration.walk.Goals as goal

pub take_held-answer-requires : goal.take_held-answer-requires
take_held-answer-requires g c =
    walk_fits (core c.args.design.now) (memory_of c.args.self.now c.args.points.now c.args.opened.now c.args.kept.now c.args.scratch.now) (sym c.in_default.ensures)

pub returns-in-Err : goal.returns-in-Err
returns-in-Err g c =
    let x = c.args.self.now in
    let after = memory_of x c.args.points.now c.args.opened.now c.args.kept.now c.fill.new.self in
    walks_refused (core c.args.design.now) (g.R.Rule.meaning c.args.rule.now) c.args.budget (memory_of x c.args.points.now c.args.opened.now c.args.kept.now c.args.scratch.now) after (0, ending.Refused c.in-Err.refusal)
    c.in-Err.refusal (sym c.in-Err.ensures) refl
    (ap (memory_of x c.args.points.now c.args.opened.now c.args.kept.now) (c.fill.ensures.after (λ y e. e)))

pub returns : goal.returns
returns g c =
    let x = c.args.self.now in
    let all = c.take_held-answer in
    let after = memory_of all.new.self all.new.points all.new.opened all.new.kept c.fill-2.new.self in
    walks_taken (core c.args.design.now) (g.R.Rule.meaning c.args.rule.now) c.args.budget (memory_of x c.args.points.now c.args.opened.now c.args.kept.now c.args.scratch.now) after all.result
    (sym c.in_default.ensures) all.ensures.takes
    (keeps_of x all.new.self c.args.points.now all.new.points c.args.opened.now all.new.opened c.args.kept.now all.new.kept c.args.scratch.now
    c.fill-2.new.self all.ensures.holds all.auto.opened (c.fill-2.ensures.after (λ y e. e) ∙ ap (λ (n : ℕ). replicate n X) all.auto.scratch))
