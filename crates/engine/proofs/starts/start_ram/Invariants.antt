use Rattle.std.proofs.Common.{◌≡◌, ℕ, ◌*◌, ◌<◌, length}
use Rattle.model.specs.Cycle.{at}
use Rattle.design.specs.Views.{core}
use Rattle.engine.proofs.Starting.{RamBegun}
use Rattle.engine.proofs.starts.start_ram.Given as goal

abbrev pub invariant-loop-number : goal.invariant-loop-number
invariant-loop-number g l = record {
  nets : (i : ℕ) → i < length (core l.design).nets → at g.V.Level.kind l.state i ≡ at g.V.Level.kind l.initial.state i;
  words : RamBegun g.V.Level.kind (core l.design) (16 * l.number) l.state;
}
