use Rattle.std.proofs.Common.{arith}
use Rattle.model.specs.Cycle.{ram_begun}
use Rattle.engine.proofs.MemoryLemmas.{filled_more}
use Rattle.engine.proofs.starts.start_word.Goals as goal

pub loop-bit-preserved : goal.loop-bit-preserved
loop-bit-preserved g c d =
    filled_more g.V.Level.kind (ram_begun g.V.Level.kind d c.args.word.now) c.loop-bit.levels c.loop-bit.bit c.ram_level.result (omega arith)
    (c.loop-bit.invariant d) (c.ram_level.ensures d)
