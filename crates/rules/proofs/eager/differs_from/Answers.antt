use Rattle.std.proofs.Common.{drop, length-drop, le-ltb, ◌-◌, ◌∙◌, arith}
use Rattle.rules.proofs.Levels.{differ_front}
use Rattle.rules.proofs.eager.differs_from.Goals as goal

pub returns-then-first-places : goal.returns-then-first-places
returns-then-first-places c =
    let first = c.args.first in
    let kept = c.args.kept.now in
    let state = c.args.state.now in
    c.ne.ensures
    ∙ differ_front (c.min-places.result - first) (drop first kept) (drop first state) (omega (arith, length-drop first kept, length-drop first state))

pub returns-else-first-places : goal.returns-else-first-places
returns-else-first-places c =
    let first = c.args.first in
    let kept = c.args.kept.now in
    let state = c.args.state.now in
    le-ltb _ _ c.if-first-places.false
    ∙ differ_front 0 (drop first kept) (drop first state) (omega (arith, length-drop first kept, length-drop first state))
