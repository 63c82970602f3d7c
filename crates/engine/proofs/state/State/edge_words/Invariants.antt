use Rattle.design.specs.Views.{core}
use Rattle.engine.proofs.state.State.edge_words.Given as goal
use Rattle.engine.proofs.EdgeLemmas.{Words}

abbrev pub invariant-loop-word : goal.invariant-loop-word
invariant-loop-word g l = Words g.V.Level.kind (core l.self.design.now) l.self.levels.now l.initial.after l.word l.after
