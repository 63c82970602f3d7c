-- An exploration held with its memory, through one call after another. Assumes nothing.
use Rattle.std.proofs.Common.{◌∙◌}
use Rattle.explore.specs.declared.held.Held.{Held}
use Rattle.explore.specs.Holding.{SameHeld}

pub held_on : (a b c : Held) → SameHeld a b → SameHeld b c → SameHeld a c
held_on a b c p q = record {
  same_design = q.same_design ∙ p.same_design;
  same_exploration = q.same_exploration ∙ p.same_exploration;
  same_points = q.same_points ∙ p.same_points;
  same_opened = q.same_opened ∙ p.same_opened;
  same_kept = q.same_kept ∙ p.same_kept;
}
