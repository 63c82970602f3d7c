-- An exploration held with the memory that it works on, and the state that it walks from. Assumes nothing.
use Rattle.std.specs.Prelude.{◌≡◌, [], length}
use Rattle.levels.specs.Tris.{tri_kind}
use Rattle.model.specs.Core.{Core, places}
use Rattle.model.specs.Cycle.{edge}
use Rattle.record.specs.Record.{unknown_inputs, successor_keys}
use Rattle.explore.specs.declared.held.Edge.{Edge}
use Rattle.explore.specs.declared.held.Held.{Held}
use Rattle.explore.specs.Memory.{Memory, memory_of}

-- the memory without its scratch
abbrev pub held_memory : Held → Memory
held_memory h = memory_of h.exploration.now h.points.now h.opened.now h.kept.now []

-- the same design, exploration and three slices
pub record SameHeld (before after : Held) : Type 0 where
  pub same_design : after.design.now ≡ before.design.now
  pub same_exploration : after.exploration.ghost_name ≡ before.exploration.ghost_name
  pub same_points : after.points.ghost_name ≡ before.points.ghost_name
  pub same_opened : after.opened.ghost_name ≡ before.opened.ghost_name
  pub same_kept : after.kept.ghost_name ≡ before.kept.ghost_name

-- a whole state, the state after the edge, and the count of its successors
pub record Edged (d : Core) (e : Edge) : Type 0 where
  pub current_whole : length e.current.now ≡ places d
  pub next_whole : length e.next.now ≡ places d
  pub edged : e.next.now ≡ edge tri_kind d e.current.now (unknown_inputs tri_kind d)
  pub counted : e.count ≡ length (successor_keys tri_kind d e.current.now)
