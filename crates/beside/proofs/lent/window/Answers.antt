use Rattle.std.proofs.Common.{rules, ℕ, take, ap, subst₂}
use Rattle.explore.specs.Memory.{Memory as Held}
use Rattle.explore.specs.Calls.{Windows}
use Rattle.design.specs.Views.{core}
use Rattle.beside.specs.declared.memory.Part.TheVariants as part
use Rattle.beside.proofs.Parts.{lent_after, keeps_rest, held_equal}
use Rattle.beside.proofs.lent.window.Goals as goal

pub returns-clause-window : goal.returns-clause-window
returns-clause-window c =
    let points = ap (λ (n : ℕ). take n c.args.points.now) c.lent_count.ensures in
    let opened = ap (λ (n : ℕ). take n c.args.opened.now) c.lent_count-2.ensures in
    let kept = ap (λ (n : ℕ). take n c.args.kept.now) c.lent_count-3.ensures in
    let asked =
    subst₂ (λ (before after : Held). Windows (core c.args.design.now) c.args.width before c.args.row.now c.args.other.now after c.window.new.rows.row.now c.window.new.rows.other.now c.window.result)
    (held_equal c.args.exploration.now c.args.short c.args.points.now c.args.opened.now c.args.kept.now c.args.scratch.now points opened kept
    (ap (λ (n : ℕ). take n c.args.scratch.now) c.lent_count-scratch_count.ensures))
    (held_equal c.args.exploration.now c.args.short c.args.points.now c.args.opened.now c.args.kept.now _ points opened kept
    (lent_after c.args.short part.Scratch _ c.window.new.scratch c.args.scratch.now c.lent_count-scratch_count.ensures c.window.auto.scratch))
    c.window.ensures.windows in
    search rules

pub returns-clause-rest : goal.returns-clause-rest
returns-clause-rest c = keeps_rest c.args.short part.Scratch _ c.window.new.scratch c.args.scratch.now c.lent_count-scratch_count.ensures c.window.auto.scratch
