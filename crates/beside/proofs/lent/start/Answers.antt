use Rattle.std.proofs.Common.{ℕ, take, ap, subst₂}
use Rattle.explore.specs.Memory.{Memory as Held}
use Rattle.explore.specs.Calls.{Starts}
use Rattle.design.specs.Views.{core}
use Rattle.beside.specs.declared.memory.Part.TheVariants as part
use Rattle.beside.proofs.Parts.{lent_after, keeps_rest, held_equal}
use Rattle.beside.proofs.lent.start.Goals as goal

pub returns-clause-started : goal.returns-clause-started
returns-clause-started c =
    let kept = ap (λ (n : ℕ). take n c.args.kept.now) c.lent_count.ensures in
    subst₂ (λ (before after : Held). Starts (core c.args.design.now) c.args.number before after c.start.result)
    (held_equal c.args.exploration.now c.args.short c.args.points.now c.args.opened.now c.args.kept.now c.args.scratch.now
    (ap (λ (n : ℕ). take n c.args.points.now) c.lent_count-point_count.ensures)
    (ap (λ (n : ℕ). take n c.args.opened.now) c.lent_count-opened_count.ensures)
    kept
    (ap (λ (n : ℕ). take n c.args.scratch.now) c.lent_count-scratch_count.ensures))
    (held_equal c.start.new.self c.args.short _ _ c.args.kept.now _
    (lent_after c.args.short part.Points _ c.start.new.points c.args.points.now c.lent_count-point_count.ensures c.start.auto.points)
    (lent_after c.args.short part.Opened _ c.start.new.opened c.args.opened.now c.lent_count-opened_count.ensures c.start.auto.opened)
    kept
    (lent_after c.args.short part.Scratch _ c.start.new.scratch c.args.scratch.now c.lent_count-scratch_count.ensures c.start.auto.scratch))
    c.start.ensures

pub returns-clause-points : goal.returns-clause-points
returns-clause-points c = keeps_rest c.args.short part.Points _ c.start.new.points c.args.points.now c.lent_count-point_count.ensures c.start.auto.points

pub returns-clause-opened : goal.returns-clause-opened
returns-clause-opened c = keeps_rest c.args.short part.Opened _ c.start.new.opened c.args.opened.now c.lent_count-opened_count.ensures c.start.auto.opened

pub returns-clause-scratch : goal.returns-clause-scratch
returns-clause-scratch c = keeps_rest c.args.short part.Scratch _ c.start.new.scratch c.args.scratch.now c.lent_count-scratch_count.ensures c.start.auto.scratch
