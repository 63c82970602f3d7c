-- The memory that a run is lent. Assumes nothing.
use Rattle.std.specs.Prelude.{◌≡◌, ℕ, Bool, length}
use Rattle.model.specs.Core.{Core}
use Rattle.player.specs.declared.buffers.Buffers.{Buffers}
use Rattle.player.specs.Run.{room}

-- whether they are long enough for a run of so many lines
abbrev pub fits : Core → ℕ → Buffers → Bool
fits d lines b = room d lines (length b.state.now) (length b.scratch.now) (length b.cycles.now)

-- the same memory, each as long as before
pub record SameBuffers (old new : Buffers) : Type 0 where
  pub state : new.state.ghost_name ≡ old.state.ghost_name
  pub scratch : new.scratch.ghost_name ≡ old.scratch.ghost_name
  pub cycles : new.cycles.ghost_name ≡ old.cycles.ghost_name
  pub state_length : length new.state.now ≡ length old.state.now
  pub scratch_length : length new.scratch.now ≡ length old.scratch.now
  pub cycles_length : length new.cycles.now ≡ length old.cycles.now
