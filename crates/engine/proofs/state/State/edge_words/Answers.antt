use Rattle.std.proofs.Common.{length, ap, arith}
use Rattle.design.specs.Views.{core}
use Rattle.engine.proofs.EdgeLemmas.{words_more}
use Rattle.engine.proofs.state.State.edge_words.Goals as goal

pub loop-word-preserved : goal.loop-word-preserved
loop-word-preserved g c =
    words_more g.V.Level.kind (core c.args.self.now.design.now) c.args.self.now.levels.now c.args.after.now c.loop-word.after
    c.edge_word.new.after c.loop-word.word c.edge_word.ensures.below c.edge_word.ensures.bits c.loop-word.invariant

pub returns : goal.returns
returns g c =
    record {
      nets = c.loop-word.invariant.nets;
      ram = λ j h. c.loop-word.invariant.ram j (omega (arith, ap length c.ram-word-end.ensures));
    }
