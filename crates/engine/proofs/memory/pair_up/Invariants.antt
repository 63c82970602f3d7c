use Rattle.engine.proofs.memory.pair_up.Given as goal
use Rattle.engine.proofs.MemoryLemmas.{Layer}

abbrev pub invariant-loop-i : goal.invariant-loop-i
invariant-loop-i g l = Layer g.V.Level.kind l.select l.initial.leaves l.i l.leaves
