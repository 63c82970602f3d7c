use Rattle.std.proofs.Common.{◌-◌, ◌<◌, length, get_or, refl, subst, arith, rules}
use Rattle.levels.specs.Tris.{tri_kind}
use Rattle.record.specs.Record.{Treatment}
use Rattle.design.specs.Views.{core}
use Rattle.explore.specs.Memory.{view}
use Rattle.explore.specs.Holding.{held_memory}
use Rattle.explore.specs.Moves.{Steps}
use Rattle.explore.proofs.Facts.{number_used}
use Rattle.explore.proofs.Lasting.{last_takes, halted_steps, cut_steps, walks_on}
use Rattle.explore.proofs.held.Held.take.Goals as goal

pub bounds-self-number : goal.bounds-self-number
bounds-self-number g c =
    let h = c.args.self.now in
    let x = h.exploration.now in
    let used = number_used x (x.open_count - 1) (omega arith) in
    let h : get_or x.numbers (x.open_count - 1) 0 < length h.points.now = omega arith in
    search rules

pub close-requires : goal.close-requires
close-requires g c =
    let h = c.args.self.now in
    let x = h.exploration.now in
    let used = number_used x (x.open_count - 1) (omega arith) in
    record { some = c.requires.some; number = omega (arith, h.points_fit) }

pub close-requires-in-Cut : goal.close-requires-in-Cut
close-requires-in-Cut g c =
    let h = c.args.self.now in
    let x = h.exploration.now in
    let used = number_used x (x.open_count - 1) (omega arith) in
    record { some = c.requires.some; number = omega (arith, h.points_fit) }

pub step-requires : goal.step-requires
step-requires g c =
    let h = c.args.self.now in
    let x = h.exploration.now in
    record {
      some = c.requires.some;
      plan = c.plan-plan.ensures.within;
      number = number_used x (x.open_count - 1) (omega arith);
      current = omega (arith, h.places_fit);
      room = omega (arith, x.scratch_inside, h.places_fit);
    }

pub returns-in-Halt-clause-takes : goal.returns-in-Halt-clause-takes
returns-in-Halt-clause-takes g c =
    let h = c.args.self.now in
    let x = h.exploration.now in
    let d = core h.design.now in
    let m = g.R.Rule.meaning c.args.rule.now in
    let slot = x.open_count - 1 in
    let p = get_or x.numbers slot 0 in
    let used = number_used x slot (omega arith) in
    let before = held_memory h in
    let after = held_memory c.close.new.self in
    let s = c.copy_state.new.state in
    let left = c.plan-plan.new.current in
    let q = c.plan-plan.result in
    last_takes d m before after p _ s left q c.requires.some _ refl used refl
    c.copy_state.ensures c.plan-plan.ensures
    (halted_steps d m before after p _ s left q c.requires.some tt c.in-Halt.is used c.close.ensures.marked c.close.ensures.opened c.close.ensures.kept c.close.ensures.popped)

pub returns-in-Cut-clause-takes : goal.returns-in-Cut-clause-takes
returns-in-Cut-clause-takes g c =
    let h = c.args.self.now in
    let x = h.exploration.now in
    let d = core h.design.now in
    let m = g.R.Rule.meaning c.args.rule.now in
    let slot = x.open_count - 1 in
    let p = get_or x.numbers slot 0 in
    let used = number_used x slot (omega arith) in
    let before = held_memory h in
    let after = held_memory c.close-in-Cut.new.self in
    let s = c.copy_state.new.state in
    let left = c.plan-plan.new.current in
    let q = c.plan-plan.result in
    last_takes d m before after p _ s left q c.requires.some _ refl used refl
    c.copy_state.ensures c.plan-plan.ensures
    (cut_steps d m before after p _ s left q c.requires.some tt c.in-Cut.to c.in-Cut.is used c.close-in-Cut.ensures.marked c.close-in-Cut.ensures.opened c.close-in-Cut.ensures.kept c.close-in-Cut.ensures.popped)

pub returns-in_default-clause-takes : goal.returns-in_default-clause-takes
returns-in_default-clause-takes g c =
    let h = c.args.self.now in
    let x = h.exploration.now in
    let d = core h.design.now in
    let m = g.R.Rule.meaning c.args.rule.now in
    let slot = x.open_count - 1 in
    let p = get_or x.numbers slot 0 in
    let used = number_used x slot (omega arith) in
    let before = held_memory h in
    let after = held_memory c.step.new.self in
    let s = c.copy_state.new.state in
    let left = c.plan-plan.new.current in
    let q = c.plan-plan.result in
    last_takes d m before after p _ s left q c.requires.some c.step.result refl used refl
    c.copy_state.ensures c.plan-plan.ensures
    (subst (λ (t : Treatment tri_kind d). Steps d p t before after c.step.result)
    (walks_on d q _ p left (view before) c.in_default.not-Halt c.in_default.not-Cut) c.step.ensures.steps)
