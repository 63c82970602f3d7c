use Rattle.std.proofs.Common.{◌≡◌, ℕ, ◌<◌}
use Rattle.model.specs.Core.{Core}
use Rattle.model.specs.Cycle.{at, ram_begun}
use Rattle.engine.proofs.starts.start_word.Given as goal

abbrev pub invariant-loop-bit : goal.invariant-loop-bit
invariant-loop-bit g l = (d : Core) (bit : ℕ) → bit < l.bit → at g.V.Level.kind l.levels bit ≡ ram_begun g.V.Level.kind d l.word bit
