use Rattle.std.proofs.Common.{length, arith}
use Rattle.engine.proofs.EdgeLemmas.{blank_list}
use Rattle.engine.proofs.edges.blank_all.Goals as goal

pub returns : goal.returns
returns g c =
    blank_list g.V.Level.kind c.loop-level.levels (length c.args.levels.now) c.loop-level.level-index
    (omega arith) (omega arith) c.loop-level.invariant
