use Rattle.std.proofs.Common.{rules, subst₂}
use Rattle.std.specs.Vec.{with_items}
use Rattle.explore.specs.Memory.{Memory as Held}
use Rattle.explore.specs.Calls.{Starts}
use Rattle.design.specs.Views.{core}
use Rattle.beside.proofs.Parts.{bench_held, written}
use Rattle.beside.proofs.bench.Bench.start.Goals as goal

pub returns-clause-started : goal.returns-clause-started
returns-clause-started c =
    let m = c.args.self.now.memory in
    let stands = subst₂ (λ (before after : Held). Starts (core c.args.design.now) c.args.number before after c.start-started.result)
    (bench_held c.args.self.now _ _ _ _ c.deref_mut.ensures.value c.deref_mut-2.ensures.value c.deref.ensures.value c.deref_mut-3.ensures.value)
    (bench_held (record {
      exploration = c.start-started.new.exploration;
      memory = record {
        points = with_items m.points c.start-started.new.points;
        opened = with_items m.opened c.start-started.new.opened;
        kept = m.kept;
        scratch = with_items m.scratch c.start-started.new.scratch;
        short = m.short;
      };
    }) _ _ _ _
    (written m.points _ c.start-started.new.points c.start-started.auto.points c.deref_mut.ensures.value)
    (written m.opened _ c.start-started.new.opened c.start-started.auto.opened c.deref_mut-2.ensures.value)
    c.deref.ensures.value
    (written m.scratch _ c.start-started.new.scratch c.start-started.auto.scratch c.deref_mut-3.ensures.value))
    c.start-started.ensures.started in
    (c.start-started.result, stands, search rules)
