use Rattle.std.proofs.Common.{ℕ, take, ap, subst₂}
use Rattle.explore.specs.Memory.{Memory as Held}
use Rattle.explore.specs.Calls.{Walks}
use Rattle.design.specs.Views.{core}
use Rattle.beside.specs.declared.memory.Part.TheVariants as part
use Rattle.beside.proofs.Parts.{lent_after, keeps_rest, held_equal}
use Rattle.beside.proofs.lent.walk.Goals as goal

pub returns-clause-walked : goal.returns-clause-walked
returns-clause-walked g c =
    subst₂ (λ (before after : Held). Walks (core c.args.design.now) (g.R.Rule.meaning c.args.rule.now) c.args.budget before after c.walk.result)
    (held_equal c.args.exploration.now c.args.short c.args.points.now c.args.opened.now c.args.kept.now c.args.scratch.now
    (ap (λ (n : ℕ). take n c.args.points.now) c.lent_count-point_count.ensures)
    (ap (λ (n : ℕ). take n c.args.opened.now) c.lent_count-opened_count.ensures)
    (ap (λ (n : ℕ). take n c.args.kept.now) c.lent_count-kept_count.ensures)
    (ap (λ (n : ℕ). take n c.args.scratch.now) c.lent_count-scratch_count.ensures))
    (held_equal c.walk.new.self c.args.short _ _ _ _
    (lent_after c.args.short part.Points _ c.walk.new.points c.args.points.now c.lent_count-point_count.ensures c.walk.auto.points)
    (lent_after c.args.short part.Opened _ c.walk.new.opened c.args.opened.now c.lent_count-opened_count.ensures c.walk.auto.opened)
    (lent_after c.args.short part.Kept _ c.walk.new.kept c.args.kept.now c.lent_count-kept_count.ensures c.walk.auto.kept)
    (lent_after c.args.short part.Scratch _ c.walk.new.scratch c.args.scratch.now c.lent_count-scratch_count.ensures c.walk.auto.scratch))
    c.walk.ensures

pub returns-clause-points : goal.returns-clause-points
returns-clause-points g c = keeps_rest c.args.short part.Points _ c.walk.new.points c.args.points.now c.lent_count-point_count.ensures c.walk.auto.points

pub returns-clause-opened : goal.returns-clause-opened
returns-clause-opened g c = keeps_rest c.args.short part.Opened _ c.walk.new.opened c.args.opened.now c.lent_count-opened_count.ensures c.walk.auto.opened

pub returns-clause-kept : goal.returns-clause-kept
returns-clause-kept g c = keeps_rest c.args.short part.Kept _ c.walk.new.kept c.args.kept.now c.lent_count-kept_count.ensures c.walk.auto.kept

pub returns-clause-scratch : goal.returns-clause-scratch
returns-clause-scratch g c = keeps_rest c.args.short part.Scratch _ c.walk.new.scratch c.args.scratch.now c.lent_count-scratch_count.ensures c.walk.auto.scratch
