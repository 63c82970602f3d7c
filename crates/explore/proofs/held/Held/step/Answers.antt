use Rattle.std.proofs.Common.{sym, refl, ◌∙◌, arith, rules}
use Rattle.std.proofs.lemmas.Result.{err_from_is_err_and}
use Rattle.design.specs.Views.{core}
use Rattle.explore.specs.Holding.{held_memory}
use Rattle.explore.proofs.Moving.{walked_asked, walked_view, walked_holds}
use Rattle.explore.proofs.held.Held.step.Goals as goal

pub returns-in_err-ask_room : goal.returns-in_err-ask_room
returns-in_err-ask_room c =
    let h = c.args.self.now in
    let d = core h.design.now in
    let exit = err_from_is_err_and c.from_residual-in_err-ask_room.result c.from_residual-in_err-ask_room.ensures.1 in
    rw (exit.1, exit.2) (record {
      steps = (
        walked_asked d c.args.plan c.args.number c.args.key c.args.current.now c.in_ok-count.count (held_memory h) c.in_ok-count.ensures.cases.2 (omega arith)
            ∙ sym c.in_err-ask_room.ensures,
        refl,
      );
      same = search rules;
    })

pub returns-clause-steps : goal.returns-clause-steps
returns-clause-steps c =
    let h = c.args.self.now in
    let d = core h.design.now in
    let before = held_memory h in
    let after = held_memory c.walk_on.new.self in
    let n = c.in_ok-count.count in
    let size = c.in_ok-count.ensures.cases.2 in (
      walked_asked d c.args.plan c.args.number c.args.key c.args.current.now n before size (omega arith) ∙ sym c.in_ok-ask_room.ensures,
      walked_view d c.args.plan c.args.number c.args.key c.args.current.now n before size (omega arith) after c.requires.number c.walk_on.ensures.walked,
      walked_holds d c.args.plan c.args.number c.args.key c.args.current.now n before size (omega arith) after c.requires.number c.walk_on.ensures.walked,
    )
