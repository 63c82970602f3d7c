use Rattle.std.proofs.Common.{ℕ, take, sym, ap, ◌∙◌}
use Rattle.explore.specs.Calls.{unknown}
use Rattle.beside.specs.declared.memory.Part.TheVariants as part
use Rattle.beside.proofs.Parts.{lent_after, keeps_rest}
use Rattle.beside.proofs.lent.make.Goals as goal

pub returns-clause-cleared : goal.returns-clause-cleared
returns-clause-cleared c =
    sym (lent_after c.args.short part.Scratch _ c.make.new.scratch c.args.scratch.now c.lent_count-scratch_count.ensures c.make.auto.scratch)
    ∙ c.make.ensures.cleared ∙ ap (λ (n : ℕ). unknown (take n c.args.scratch.now)) c.lent_count-scratch_count.ensures

pub returns-clause-rest : goal.returns-clause-rest
returns-clause-rest c = keeps_rest c.args.short part.Scratch _ c.make.new.scratch c.args.scratch.now c.lent_count-scratch_count.ensures c.make.auto.scratch
