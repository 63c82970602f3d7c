use Rattle.std.proofs.Common.{rules, List, ℕ}
use Rattle.std.specs.Vec.{with_items}
use Rattle.explore.specs.Memory.{Memory as Held}
use Rattle.explore.specs.Calls.{Figured}
use Rattle.design.specs.Views.{core}
use Rattle.beside.specs.declared.bench.Bench.{Bench}
use Rattle.beside.proofs.Parts.{bench_held, written, in_place}
use Rattle.beside.proofs.bench.Bench.figures.Goals as goal

pub returns-clause-figures : goal.returns-clause-figures
returns-clause-figures c =
    let m = c.args.self.now.memory in
    let after : Bench = record {
      exploration = c.args.self.now.exploration;
      memory = record { points = m.points; opened = m.opened; kept = m.kept; scratch = with_items m.scratch c.figures-figures.new.scratch; short = m.short };
    } in
    let stands = in_place
    (λ (before : Held) (row other : List ℕ) (after : Held) (row_after other_after : List ℕ).
    Figured (core c.args.design.now) c.args.width before row other after row_after other_after c.figures-figures.result)
    _ _ _ _ _ _ _ _ _ _ _ _
    (bench_held c.args.self.now _ _ _ _ c.deref.ensures.value c.deref-2.ensures.value c.deref-3.ensures.value c.deref_mut.ensures.value)
    c.deref_mut-2.ensures.value
    c.deref_mut-3.ensures.value
    (bench_held after _ _ _ _ c.deref.ensures.value c.deref-2.ensures.value c.deref-3.ensures.value
    (written m.scratch _ c.figures-figures.new.scratch c.figures-figures.auto.scratch c.deref_mut.ensures.value))
    (written c.args.rows.now.row _ c.figures-figures.new.row c.figures-figures.auto.row c.deref_mut-2.ensures.value)
    (written c.args.rows.now.other _ c.figures-figures.new.other c.figures-figures.auto.other c.deref_mut-3.ensures.value)
    c.figures-figures.ensures.figures in
    (c.figures-figures.result, stands, search rules)
