use Rattle.std.proofs.Common.{subst₂}
use Rattle.std.specs.Vec.{with_items}
use Rattle.explore.specs.Memory.{Memory as Held}
use Rattle.explore.specs.Calls.{Walks}
use Rattle.design.specs.Views.{core}
use Rattle.beside.proofs.Parts.{bench_held, written}
use Rattle.beside.proofs.bench.Bench.walk_by.Goals as goal

pub returns-clause-walked : goal.returns-clause-walked
returns-clause-walked g c =
    let m = c.args.self.now.memory in
    subst₂ (λ (before after : Held). Walks (core c.args.design.now) (g.R.Rule.meaning c.args.rule.now) c.args.budget before after c.walk.result)
    (bench_held c.args.self.now _ _ _ _ c.deref_mut.ensures.value c.deref_mut-2.ensures.value c.deref_mut-3.ensures.value c.deref_mut-4.ensures.value)
    (bench_held (record {
      exploration = c.walk.new.exploration;
      memory = record {
        points = with_items m.points c.walk.new.points;
        opened = with_items m.opened c.walk.new.opened;
        kept = with_items m.kept c.walk.new.kept;
        scratch = with_items m.scratch c.walk.new.scratch;
        short = m.short;
      };
    }) _ _ _ _
    (written m.points _ c.walk.new.points c.walk.auto.points c.deref_mut.ensures.value)
    (written m.opened _ c.walk.new.opened c.walk.auto.opened c.deref_mut-2.ensures.value)
    (written m.kept _ c.walk.new.kept c.walk.auto.kept c.deref_mut-3.ensures.value)
    (written m.scratch _ c.walk.new.scratch c.walk.auto.scratch c.deref_mut-4.ensures.value))
    c.walk.ensures.walked
