use Rattle.std.proofs.Common.{◌+◌, ◌*◌, ◌≤◌, List, length, sym, refl, ap, ◌∙◌, arith, rules}
use Rattle.levels.specs.declared.Tri.{Tri}
use Rattle.explore.specs.declared.exploration.Entry.{Entry}
use Rattle.levels.specs.Tris.{tri_kind}
use Rattle.record.specs.Record.{covers_all}
use Rattle.design.specs.Views.{core}
use Rattle.explore.specs.Parts.{kept_entries}
use Rattle.explore.proofs.Views.{kept_at}
use Rattle.explore.proofs.Treating.{stretch_inside, stretch_part, restored_whole, pass_known_treats, cut_treats, replace_treats, entry_there, few_replaced_at}
use Rattle.explore.proofs.held.Held.plan_known.Goals as goal

pub returns-then-not-watch : goal.returns-then-not-watch
returns-then-not-watch g c =
    let h = c.args.self.now in
    let x = h.exploration.now in
    let d = core c.args.self.now.design.now in
    let f = kept_at x.places x.entries c.args.self.now.kept.now in
    let i = c.args.entry in
    record {
      treats = λ even marked known r p kept same.
          pass_known_treats d (g.R.Rule.meaning c.args.rule.now) c.args.current.now r p c.args.key same
          (kept_entries x.places x.entries c.args.self.now.kept.now x.entry_count) kept even c.args.marked marked i (f i) known
          (entry_there d r f x.entry_count i kept c.requires.entry) (rw c.entry-known.ensures at c.if-not-watch.ensures);
      within = tt;
    }

pub slice_bounds-state-end : goal.slice_bounds-state-end
slice_bounds-state-end g c =
    let h = c.args.self.now in
    let x = h.exploration.now in
    let inside : c.args.entry * x.places + x.places ≤ length c.args.self.now.kept.now =
    omega (arith, stretch_inside c.args.entry x.places x.entry_count x.kept_length c.requires.entry x.entries_inside, h.kept_fit) in
    search rules

pub returns-then-covers : goal.returns-then-covers
returns-then-covers g c =
    let h = c.args.self.now in
    let x = h.exploration.now in
    let d = core c.args.self.now.design.now in
    let f = kept_at x.places x.entries c.args.self.now.kept.now in
    let i = c.args.entry in
    rw c.entry-known.ensures (record {
      treats = λ even marked known r p kept same.
          cut_treats d (g.R.Rule.meaning c.args.rule.now) c.args.current.now r p c.args.key same
          (kept_entries x.places x.entries c.args.self.now.kept.now x.entry_count) kept even c.args.marked marked i (f i) known
          (entry_there d r f x.entry_count i kept c.requires.entry) (rw c.entry-known.ensures at c.if-not-watch.ensures)
          (ap (λ (t : List Tri). covers_all tri_kind t c.args.current.now) (sym (stretch_part i x.places c.args.self.now.kept.now)) ∙ sym c.if-covers.ensures);
      within = tt;
    })

pub overflow_add-result : goal.overflow_add-result
overflow_add-result g c =
    let few = few_replaced_at c.args.self.now.exploration.now c.args.entry c.requires.entry in
    let same = ap (λ (e : Entry). e.count) c.entry-known.ensures in
    omega arith

pub returns : goal.returns
returns g c =
    let h = c.args.self.now in
    let x = h.exploration.now in
    let d = core c.args.self.now.design.now in
    let m = g.R.Rule.meaning c.args.rule.now in
    let f = kept_at x.places x.entries c.args.self.now.kept.now in
    let i = c.args.entry in
    rw c.entry-known.ensures (record {
      treats = λ even marked known r p kept same.
          replace_treats d m c.args.current.now r p c.args.key same
          (kept_entries x.places x.entries c.args.self.now.kept.now x.entry_count) kept even c.args.marked marked i (f i) known
          (entry_there d r f x.entry_count i kept c.requires.entry) c.merge.new.state c.restore.new.state _ _ (rw c.entry-known.ensures at c.if-not-watch.ensures)
          (ap (λ (t : List Tri). covers_all tri_kind t c.args.current.now) (sym (stretch_part i x.places c.args.self.now.kept.now)) ∙ sym c.if-covers.ensures)
          (ap length c.nets.ensures)
          (ap (λ (t : List Tri). m.merges t c.args.current.now (length c.nets.result.now) (f i).count c.merge.new.state)
          (sym (stretch_part i x.places c.args.self.now.kept.now)) ∙ (rw c.entry-known.ensures at c.merge.ensures))
          (restored_whole d c.args.key c.merge.new.state c.restore.new.state c.restore.result (c.merge.auto.state ∙ c.requires.current) c.restore.ensures)
          refl;
      within = (c.requires.entry, (let few = few_replaced_at x i c.requires.entry in omega arith));
    })
