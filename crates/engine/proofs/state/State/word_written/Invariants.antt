use Rattle.std.proofs.Common.{◌≡◌, ◌/◌, ◌^◌, map, drop}
use Rattle.design.specs.Views.{core}
use Rattle.model.specs.Cycle.{at, written, word_written}
use Rattle.engine.proofs.state.State.word_written.Given as goal

abbrev pub invariant-loop-bit : goal.invariant-loop-bit
invariant-loop-bit g l =
    written g.V.Level.kind l.on (drop l.bit (map (at g.V.Level.kind l.self.levels.now) l.wire-items)) (l.word / 2 ^ l.bit)
    ≡ word_written g.V.Level.kind (core l.self.design.now) l.self.levels.now l.word
