use Rattle.engine.proofs.edges.blank_all.Given as goal
use Rattle.engine.proofs.MemoryLemmas.{Filled}

abbrev pub invariant-loop-level : goal.invariant-loop-level
invariant-loop-level g l = Filled g.V.Level.kind (λ _. g.V.Level.kind.blank) l.level-index l.levels
