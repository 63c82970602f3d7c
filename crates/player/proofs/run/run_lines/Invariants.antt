use Rattle.std.proofs.Common.{◌≡◌}
use Rattle.levels.specs.Bits.{bit_kind}
use Rattle.model.specs.Cycle.{key_of}
use Rattle.design.specs.Views.{core}
use Rattle.player.specs.Buffers.{SameBuffers}
use Rattle.player.proofs.Runs.{Running}
use Rattle.player.proofs.run.run_lines.Given as goal

abbrev pub invariant-loop-line : goal.invariant-loop-line
invariant-loop-line l =
    Running (core l.design) l.text l.lines l.initial.buffers.state.now l.initial.buffers.cycles.now l.line l.buffers.state.now l.buffers.cycles.now
    × (l.shown ≡ key_of bit_kind (core l.design) l.buffers.state.now)
    × SameBuffers l.initial.buffers l.buffers
