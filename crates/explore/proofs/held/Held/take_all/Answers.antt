use Rattle.std.proofs.Common.{◌≡◌, ℕ, sym, ◌∙◌, subst, arith, rules}
use Rattle.design.specs.Views.{core}
use Rattle.explore.specs.Memory.{Memory, view}
use Rattle.explore.specs.Holding.{held_memory}
use Rattle.explore.specs.declared.answers.Ending.TheVariants as ending
use Rattle.explore.specs.Calls.{Takes}
use Rattle.explore.specs.Moves.{Holds}
use Rattle.explore.proofs.Continued.{continues_start, continues_more, continues_refused, continues_done, continues_spent, holds_same, holds_more}
use Rattle.explore.proofs.Slices.{held_on}
use Rattle.explore.proofs.held.Held.take_all.Goals as goal

pub loop-taken-init : goal.loop-taken-init
loop-taken-init g c =
    let h = c.args.self.now in
    let x = h.exploration.now in
    let start = held_memory h in
    (continues_start (core h.design.now) (g.R.Rule.meaning c.args.rule.now) x c.args.budget (view start), holds_same start, search rules)

pub take-requires : goal.take-requires
take-requires g c = record {
  some = omega arith;
  scratch = c.loop-taken.auto.scratch ∙ (c.requires ∙ sym c.loop-taken.invariant.1.lengths.same_scratch_length);
}

pub returns-then-self-eq0 : goal.returns-then-self-eq0
returns-then-self-eq0 g c =
    let h = c.args.self.now in
    let x = h.exploration.now in
    let start = held_memory h in
    let here = held_memory c.loop-taken.self in
    record {
      takes = continues_done (core h.design.now) (g.R.Rule.meaning c.args.rule.now) x c.args.budget c.loop-taken.taken (view start) here here
          c.loop-taken.invariant.1.lengths c.loop-taken.invariant.0 c.if-self-eq0.true;
      holds = c.loop-taken.invariant.1;
      same = c.loop-taken.invariant.2;
    }

pub loop-taken-preserved : goal.loop-taken-preserved
loop-taken-preserved g c =
    let h = c.args.self.now in
    let x = h.exploration.now in
    let start = held_memory h in
    let here = held_memory c.loop-taken.self in
    let after = held_memory c.take.new.self in
    let last = rw c.loop-taken.invariant.2.same_design at c.in_default.ensures.takes in (
      continues_more (core h.design.now) (g.R.Rule.meaning c.args.rule.now) x c.args.budget c.loop-taken.taken (view start) here after
          c.loop-taken.invariant.1.lengths c.loop-taken.invariant.0 tt c.loop-taken-test.true last,
      holds_more start here after c.loop-taken.invariant.1 last.steps.2,
      held_on h c.loop-taken.self c.take.new.self c.loop-taken.invariant.2 c.in_default.ensures.same,
    )

pub returns-in-Err : goal.returns-in-Err
returns-in-Err g c =
    let h = c.args.self.now in
    let x = h.exploration.now in
    let start = held_memory h in
    let here = held_memory c.loop-taken.self in
    let after = held_memory c.take.new.self in
    let last = rw c.loop-taken.invariant.2.same_design at c.in-Err.ensures.takes in
    record {
      takes = continues_refused (core h.design.now) (g.R.Rule.meaning c.args.rule.now) x c.args.budget c.loop-taken.taken (view start) here after
          c.loop-taken.invariant.1.lengths c.loop-taken.invariant.0 c.in-Err.refusal c.loop-taken-test.true last;
      holds = subst (λ (m : Memory). Holds start m) (sym last.steps.1) c.loop-taken.invariant.1;
      same = held_on h c.loop-taken.self c.take.new.self c.loop-taken.invariant.2 c.in-Err.ensures.same;
    }

pub returns-then-self-eq0-2 : goal.returns-then-self-eq0-2
returns-then-self-eq0-2 g c =
    let h = c.args.self.now in
    let x = h.exploration.now in
    let d = core h.design.now in
    let m = g.R.Rule.meaning c.args.rule.now in
    let start = held_memory h in
    let here = held_memory c.loop-taken.self in
    let all : c.loop-taken.taken ≡ c.args.budget = omega arith in
    record {
      takes = subst (λ (n : ℕ). Takes d m x c.args.budget (view start) n ending.Done (view here)) all
          (continues_done d m x c.args.budget c.loop-taken.taken (view start) here here
          c.loop-taken.invariant.1.lengths c.loop-taken.invariant.0 c.if-self-eq0-2.true);
      holds = c.loop-taken.invariant.1;
      same = c.loop-taken.invariant.2;
    }

pub returns : goal.returns
returns g c =
    let h = c.args.self.now in
    let x = h.exploration.now in
    let d = core h.design.now in
    let m = g.R.Rule.meaning c.args.rule.now in
    let start = held_memory h in
    let here = held_memory c.loop-taken.self in
    let all : c.loop-taken.taken ≡ c.args.budget = omega arith in
    record {
      takes = subst (λ (n : ℕ). Takes d m x c.args.budget (view start) n ending.Spent (view here)) all
          (continues_spent d m x c.args.budget c.loop-taken.taken (view start) here here
          c.loop-taken.invariant.1.lengths c.loop-taken.invariant.0 all (omega arith));
      holds = c.loop-taken.invariant.1;
      same = c.loop-taken.invariant.2;
    }
