use Rattle.std.proofs.Common.{sym, ◌∙◌}
use Rattle.std.proofs.lemmas.List.{get_or_past}
use Rattle.engine.proofs.edges.given_at.Goals as goal

pub returns-else-place-line : goal.returns-else-place-line
returns-else-place-line g c = c.blank.ensures ∙ sym (get_or_past c.args.line.now c.args.place g.V.Level.kind.blank c.if-place-line.false)
