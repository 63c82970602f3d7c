use Rattle.std.proofs.Common.{arith}
use Rattle.engine.proofs.MemoryLemmas.{layer_more, layer_all}
use Rattle.engine.proofs.memory.pair_up.Goals as goal

pub loop-i-preserved : goal.loop-i-preserved
loop-i-preserved g c =
    layer_more g.V.Level.kind c.args.select c.args.leaves.now c.loop-i.leaves c.loop-i.i
    c.index-leaves-i.result c.index-leaves-i-in-loop-i.result c.choose.result
    (omega arith) c.loop-i.invariant c.index-leaves-i.is c.index-leaves-i-in-loop-i.is c.choose.ensures

pub returns : goal.returns
returns g c =
    layer_all g.V.Level.kind c.args.select c.args.leaves.now c.loop-i.leaves c.loop-i.i
    (omega arith) (omega arith) c.loop-i.invariant
