use Rattle.std.proofs.Common.{true, false, ap, ◌∙◌}
use Rattle.rules.specs.Merges.{eager_merge, unknown_from}
use Rattle.rules.specs.States.{same_from_eq}
use Rattle.rules.specs.Places.{eager_is}
use Rattle.rules.proofs.eager.EagerRule.merge.Goals as goal

pub returns-then-ram_differs : goal.returns-then-ram_differs
returns-then-ram_differs c =
    same_from_eq (eager_merge c.args.nets c.args.kept.now c.args.state.now) c.forget.new.state
    (eager_is c.args.nets c.args.kept.now c.args.state.now c.forget.new.state true c.if-ram_differs.ensures
    (c.forget.ensures ∙ ap (unknown_from c.args.nets) c.join.ensures))

pub returns-else-ram_differs : goal.returns-else-ram_differs
returns-else-ram_differs c =
    same_from_eq (eager_merge c.args.nets c.args.kept.now c.args.state.now) c.join.new.state
    (eager_is c.args.nets c.args.kept.now c.args.state.now c.join.new.state false c.if-ram_differs.ensures c.join.ensures)
