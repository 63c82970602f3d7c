-- A tag explored from all of its starts, and what its runs then draw. Assumes nothing.
use Rattle.std.specs.Prelude.{◌≡◌, ℕ, suc, ◌*◌, ◌<◌, ◌≤◌, List, ◌∷◌, take, drop, Ok, Err, sum, Result, MatchResult, ◌≢◌}
use Rattle.std.specs.List.{AllByRecursion}
use Rattle.levels.specs.Bits.{bit_kind}
use Rattle.levels.specs.declared.Bit.{Bit}
use Rattle.bundle.specs.declared.refusal.Refusal.{Refusal}
use Rattle.model.specs.Core.{Core}
use Rattle.record.specs.Record.{start_count}
use Rattle.record.specs.Bounds.{draws}
use Rattle.rules.specs.Meanings.{plain_meaning}
use Rattle.explore.specs.declared.answers.Ending.{Ending}
use Rattle.explore.specs.declared.answers.Ending.TheVariants as ending
use Rattle.explore.specs.declared.answers.Figures.{Figures}
use Rattle.explore.specs.declared.exploration.Exploration.{Exploration}
use Rattle.explore.specs.Memory.{Lent, Memory}
use Rattle.explore.specs.Calls.{cleared, Makes, Starts, Walks, Figured}
use Rattle.explore.specs.History.{RunsFrom}
use Rattle.bounder.specs.declared.head.Head.{Head}

-- ---- all starts

-- the first so many starts taken, one after the other
pub data TakesStarts (d : Core) (first : Memory) : ℕ → Memory → Type 0 where
  none : TakesStarts d first 0 first
  one_more : (n p : ℕ) (m after : Memory) → TakesStarts d first n m → Starts d n m after (Ok p) → TakesStarts d first (suc n) after

-- all of them, or those before the first that is refused
abbrev pub StartsAll : Core → Memory → Memory → Result Unit Refusal → Type 0
StartsAll d before after answer =
    MatchResult answer
    (λ _. TakesStarts d before (start_count d) after)
    (λ e. (n : ℕ) × (m : Memory) × (n < start_count d) × TakesStarts d before n m × Starts d n m after (Err e))

-- ---- the exploration

abbrev pub head_of : Core → Exploration → Figures → Head
head_of d x f = record {
  points = x.point_count;
  «open» = x.open_count;
  peak = f.peak;
  power = f.peak * d.clock;
  window = d.window;
  energy = f.window;
}

abbrev pub headed : Core → Exploration → Result Figures Refusal → Result Head Refusal
headed d x (Ok f) = Ok (head_of d x f)
headed d x (Err e) = Err e

-- an ending that is no refusal
abbrev pub Ended : Ending → Type 0
Ended e = (r : Refusal) → e ≢ ending.Refused r

-- an exploration made in a place, over lent memory
abbrev pub MakesOver : Core → Exploration → Lent → Memory → Result Unit Refusal → Type 0
MakesOver d place lent after answer =
    Makes d lent place after.exploration answer × (after ≡ cleared (record { exploration = after.exploration; lent = lent }))

-- The calls of an exploration in turn, the first that is refused being the last: it is made over the lent memory, all starts are
-- taken, it is walked under the plain rule with a budget of 65,535, and peak and window are answered.
pub data Bounds (d : Core) (place : Exploration) (lent : Lent) (row other : List ℕ) : Memory → List ℕ → List ℕ → Result Head Refusal → Type 0 where
  not_made : (after : Memory) (e : Refusal) →
      MakesOver d place lent after (Err e) →
      Bounds d place lent row other after row other (Err e)
  not_started : (m after : Memory) (e : Refusal) →
      MakesOver d place lent m (Ok tt) →
      StartsAll d m after (Err e) →
      Bounds d place lent row other after row other (Err e)
  not_walked : (m n after : Memory) (count : ℕ) (e : Refusal) →
      MakesOver d place lent m (Ok tt) →
      StartsAll d m n (Ok tt) →
      Walks d plain_meaning 65535 n after (count, ending.Refused e) →
      Bounds d place lent row other after row other (Err e)
  walked : (m n w after : Memory) (row_after other_after : List ℕ) (count : ℕ) (end : Ending) (answer : Result Figures Refusal) →
      MakesOver d place lent m (Ok tt) →
      StartsAll d m n (Ok tt) →
      Walks d plain_meaning 65535 n w (count, end) → Ended end →
      Figured d d.window w row other after row_after other_after answer →
      Bounds d place lent row other after row_after other_after (headed d after.exploration answer)

-- ---- what the runs draw

-- No cycle of a run from any start draws more than the peak, and no so many successive cycles as the window has, or fewer, draw
-- together more than its energy.
abbrev pub NoRunDrawsMore : Core → Head → Type 0
NoRunDrawsMore d h =
    (n : ℕ) → n < start_count d →
    (c : List Bit) (rest : List (List Bit)) → RunsFrom d n c rest →
    AllByRecursion (λ e. e ≤ h.peak) (draws bit_kind d (c ∷ rest))
    × ((i k : ℕ) → k ≤ h.window → sum (take k (drop i (draws bit_kind d (c ∷ rest)))) ≤ h.energy)
