use Rattle.std.proofs.Common.{rules, subst₂}
use Rattle.std.specs.Vec.{with_items}
use Rattle.explore.specs.Memory.{Memory as Held}
use Rattle.explore.specs.Calls.{Peaks}
use Rattle.design.specs.Views.{core}
use Rattle.beside.proofs.Parts.{bench_held, written}
use Rattle.beside.proofs.bench.Bench.peak.Goals as goal

pub returns-clause-peak : goal.returns-clause-peak
returns-clause-peak c =
    let m = c.args.self.now.memory in
    let stands = subst₂ (λ (before after : Held). Peaks (core c.args.design.now) before after c.peak-peak.result)
    (bench_held c.args.self.now _ _ _ _ c.deref.ensures.value c.deref-2.ensures.value c.deref-3.ensures.value c.deref_mut.ensures.value)
    (bench_held (record {
      exploration = c.args.self.now.exploration;
      memory = record { points = m.points; opened = m.opened; kept = m.kept; scratch = with_items m.scratch c.peak-peak.new.scratch; short = m.short };
    }) _ _ _ _
    c.deref.ensures.value c.deref-2.ensures.value c.deref-3.ensures.value
    (written m.scratch _ c.peak-peak.new.scratch c.peak-peak.auto.scratch c.deref_mut.ensures.value))
    c.peak-peak.ensures.peak in
    (c.peak-peak.result, stands, search rules)
