use Rattle.std.proofs.Common.{sym}
use Rattle.figures.proofs.Questions.{granted}
use Rattle.figures.proofs.paths.answer_window.Goals as goal

pub best_row-requires-clause-named : goal.best_row-requires-clause-named
best_row-requires-clause-named c = granted c.args.points.now c.args.width _ _ c.in_ok-ask_window.ensures

pub most_drawn-requires-clause-named : goal.most_drawn-requires-clause-named
most_drawn-requires-clause-named c = granted c.args.points.now c.args.width _ _ c.in_ok-ask_window.ensures

pub returns-clause-answer : goal.returns-clause-answer
returns-clause-answer c = (sym c.in_ok-ask_window.ensures, c.most_drawn.ensures c.args.width c.best_row.ensures)
