use Rattle.std.proofs.Common.{rules, ℕ, take, ap, subst₂}
use Rattle.explore.specs.Memory.{Memory as Held}
use Rattle.explore.specs.Calls.{Figured}
use Rattle.design.specs.Views.{core}
use Rattle.beside.specs.declared.memory.Part.TheVariants as part
use Rattle.beside.proofs.Parts.{lent_after, keeps_rest, held_equal}
use Rattle.beside.proofs.lent.figures.Goals as goal

pub returns-clause-figures : goal.returns-clause-figures
returns-clause-figures c =
    let points = ap (λ (n : ℕ). take n c.args.points.now) c.lent_count.ensures in
    let opened = ap (λ (n : ℕ). take n c.args.opened.now) c.lent_count-2.ensures in
    let kept = ap (λ (n : ℕ). take n c.args.kept.now) c.lent_count-3.ensures in
    let asked =
    subst₂ (λ (before after : Held). Figured (core c.args.design.now) c.args.width before c.args.row.now c.args.other.now after c.figures.new.rows.row.now c.figures.new.rows.other.now c.figures.result)
    (held_equal c.args.exploration.now c.args.short c.args.points.now c.args.opened.now c.args.kept.now c.args.scratch.now points opened kept
    (ap (λ (n : ℕ). take n c.args.scratch.now) c.lent_count-scratch_count.ensures))
    (held_equal c.args.exploration.now c.args.short c.args.points.now c.args.opened.now c.args.kept.now _ points opened kept
    (lent_after c.args.short part.Scratch _ c.figures.new.scratch c.args.scratch.now c.lent_count-scratch_count.ensures c.figures.auto.scratch))
    c.figures.ensures.figured in
    search rules

pub returns-clause-rest : goal.returns-clause-rest
returns-clause-rest c = keeps_rest c.args.short part.Scratch _ c.figures.new.scratch c.args.scratch.now c.lent_count-scratch_count.ensures c.figures.auto.scratch
