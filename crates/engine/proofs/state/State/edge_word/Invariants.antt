use Rattle.design.specs.Views.{core}
use Rattle.engine.proofs.state.State.edge_word.Given as goal
use Rattle.engine.proofs.EdgeLemmas.{Word}

abbrev pub invariant-loop-bit : goal.invariant-loop-bit
invariant-loop-bit g l = Word g.V.Level.kind (core l.self.design.now) l.self.levels.now l.initial.after l.word l.bit l.after
