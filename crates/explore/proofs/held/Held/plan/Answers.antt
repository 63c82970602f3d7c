use Rattle.std.proofs.Common.{◌≡◌, ◌%◌, sym, arith}
use Rattle.design.specs.Views.{core}
use Rattle.explore.specs.Parts.{kept_entries}
use Rattle.explore.proofs.Views.{kept_at}
use Rattle.explore.proofs.Treating.{halt_treats, pass_new_treats, add_treats, found_used}
use Rattle.explore.proofs.held.Held.plan.Goals as goal

pub returns-then-key-eq1 : goal.returns-then-key-eq1
returns-then-key-eq1 g c =
    record {
      treats = λ r p kept same.
          halt_treats (core c.args.self.now.design.now) (g.R.Rule.meaning c.args.rule.now) c.args.current.now r p c.args.key same c.if-key-eq1.true;
      within = tt;
    }

pub returns-then-watch : goal.returns-then-watch
returns-then-watch g c =
    let h = c.args.self.now in
    let x = h.exploration.now in
    let d = core c.args.self.now.design.now in
    let even : c.args.key % 2 ≡ 0 = omega (arith, c.if-key-eq1.false) in
    record {
      treats = λ r p kept same.
          add_treats d (g.R.Rule.meaning c.args.rule.now) c.args.current.now r p c.args.key same
          (kept_entries x.places x.entries c.args.self.now.kept.now x.entry_count) kept even c.is_marked-marked.result c.is_marked-marked.ensures
          (sym (c.in_default.ensures d c.args.self.now.kept.now)) c.if-watch.ensures;
      within = tt;
    }

pub returns-else-watch : goal.returns-else-watch
returns-else-watch g c =
    let h = c.args.self.now in
    let x = h.exploration.now in
    let d = core c.args.self.now.design.now in
    let even : c.args.key % 2 ≡ 0 = omega (arith, c.if-key-eq1.false) in
    record {
      treats = λ r p kept same.
          pass_new_treats d (g.R.Rule.meaning c.args.rule.now) c.args.current.now r p c.args.key same
          (kept_entries x.places x.entries c.args.self.now.kept.now x.entry_count) kept even c.is_marked-marked.result c.is_marked-marked.ensures
          (sym (c.in_default.ensures d c.args.self.now.kept.now)) c.if-watch.ensures;
      within = tt;
    }

pub plan_known-requires : goal.plan_known-requires
plan_known-requires g c =
    let h = c.args.self.now in
    let x = h.exploration.now in
    let d = core c.args.self.now.design.now in
    record {
      current = c.requires;
      entry = found_used d c.args.key (kept_at x.places x.entries c.args.self.now.kept.now) x.entry_count c.in-Some.entry
          (c.in-Some.ensures d c.args.self.now.kept.now);
    }

pub returns : goal.returns
returns g c =
    let d = core c.args.self.now.design.now in
    let even : c.args.key % 2 ≡ 0 = omega (arith, c.if-key-eq1.false) in
    record {
      treats = c.plan_known.ensures.treats even c.is_marked-marked.ensures (sym (c.in-Some.ensures d c.args.self.now.kept.now));
      within = c.plan_known.ensures.within;
    }
