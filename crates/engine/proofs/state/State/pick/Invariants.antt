use Rattle.std.proofs.Common.{map}
use Rattle.engine.proofs.state.State.pick.Given as goal
use Rattle.model.specs.Cycle.{at}
use Rattle.engine.proofs.MemoryLemmas.{Left}

abbrev pub invariant-loop-wire : goal.invariant-loop-wire
invariant-loop-wire g l = Left g.V.Level.kind (map (at g.V.Level.kind l.self.levels.now) l.address) l.initial.leaves l.wire-index l.width l.leaves
