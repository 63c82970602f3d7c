-- A walk's answer. Assumes nothing.
use Rattle.std.proofs.Common.{◌≡◌, ℕ, List, [], length, Some, None}
use Rattle.bundle.specs.declared.refusal.Fault.TheVariants as fault
use Rattle.bundle.specs.declared.refusal.Refusal.{Refusal}
use Rattle.explore.proofs.Answered.{whole_answered}
use Rattle.levels.specs.declared.Tri.{Tri}
use Rattle.model.specs.Core.{Core}
use Rattle.record.specs.declared.point.Point.{Point}
use Rattle.record.specs.Record.{Meaning}
use Rattle.explore.specs.declared.answers.Ending.{Ending}
use Rattle.explore.specs.declared.answers.Ending.TheVariants as ending
use Rattle.explore.specs.declared.exploration.Exploration.{Exploration}
use Rattle.explore.specs.Memory.{Memory, memory_of, view, fits}
use Rattle.explore.specs.Calls.{Keeps, Takes, Walks, walk_refusal, cleared, unknown}
use Rattle.explore.specs.Moves.{Holds}
use Rattle.explore.specs.Fitting.{Fitting}
use Rattle.explore.proofs.Fits.{fitting}

pub walk_fits : (d : Core) (m : Memory) → walk_refusal d m ≡ None → Fitting d m
walk_fits d m none = fitting d m (whole_answered (fits d m) fault.Memory _ none).0

-- what the steps kept, and scratch all X
pub keeps_of : (x x' : Exploration) (points points' : List Point) (opened opened' kept kept' scratch scratch' : List Tri) →
    Holds (memory_of x points opened kept []) (memory_of x' points' opened' kept' []) → length opened' ≡ length opened → scratch' ≡ unknown scratch →
    Keeps (memory_of x points opened kept scratch) (memory_of x' points' opened' kept' scratch')
keeps_of x x' points points' opened opened' kept kept' scratch scratch' holds as_many blank = record {
  lengths = holds.lengths;
  other_points = holds.other_points;
  as_many_open = as_many;
  other_kept = holds.other_kept;
  scratch_unknown = blank;
}

module _ (d : Core) (m : Meaning Tri) (budget : ℕ) (before after : Memory) (answer : ℕ × Ending) where
  pub walks_refused : (e : Refusal) → walk_refusal d before ≡ Some e → answer ≡ (0, ending.Refused e) → after ≡ cleared before → Walks d m budget before after answer
  walks_refused e is a b = rw is (a, b)

  pub walks_taken : walk_refusal d before ≡ None → Takes d m before.exploration budget (view before) answer.0 answer.1 (view after) → Keeps before after →
      Walks d m budget before after answer
  walks_taken is a b = rw is (a, b)
