use Rattle.std.proofs.Common.{ℕ, ◌<◌}
use Rattle.model.specs.Cycle.{at}
use Rattle.engine.proofs.memory.load.Given as goal

abbrev pub invariant-loop-i : goal.invariant-loop-i
invariant-loop-i g l = (j : ℕ) → j < l.i → goal.F-post g l.leaf j (at g.V.Level.kind l.leaves j)
