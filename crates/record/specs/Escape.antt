-- No run escapes the record. Assumes nothing.
use Rattle.std.specs.Prelude.{◌≡◌, ℕ, ◌<◌, Bool, true, List, [], ◌∷◌, length, Decides}
use Rattle.std.specs.List.{ContainsAt as Has}
use Rattle.levels.specs.Kinds.{Kind, Cover, same}
use Rattle.model.specs.Core.{Core, places, sound}
use Rattle.model.specs.Cycle.{start_state}
use Rattle.record.specs.Record.{Record, Meaning, Taken, started, start_count}
use Rattle.record.specs.Runs.{Goes, Held}

-- a kind in which a place never written may be either bit
abbrev pub Wide : {V : Type 0} → Kind V → Type 0
Wide k = (b : Bool) → k.allows k.blank b ≡ true

-- a kind whose every level allows just one bit
abbrev pub Definite : {B : Type 0} → Kind B → Type 0
Definite {B} j = (v : B) (b : Bool) → j.allows v b ≡ same (j.allows v true) b

-- The test of two states is true just where the first covers the second, place by place.
abbrev pub CoveringIsTested : {V : Type 0} → Kind V → (List V → List V → Bool) → Type 0
CoveringIsTested {V} k test = (s t : List V) → Decides (test s t) (Cover k k s t)

module _ {V : Type 0} (k : Kind V) (d : Core) where
  -- whatever the rule may make of two states covers both, place by place
  abbrev pub RuleCovers : Meaning V → Type 0
  RuleCovers m = (kept new result : List V) (count : ℕ) → length kept ≡ places d → length new ≡ places d →
      m.merges kept new (length d.nets) count result ≡ true → Cover k k result kept × Cover k k result new

  -- The records that starts and takings lead to from an exploration just made, each with the starts taken: the point that was
  -- added for a start, and the start's number. Every taking may be under another rule, of which nothing is known but that it covers.
  pub data Reached : Record V → List (ℕ × ℕ) → Type 0 where
    new : Reached (record { points = []; waiting = []; entries = [] }) []
    start : (r : Record V) (taken : List (ℕ × ℕ)) (n : ℕ) →
        Reached r taken → n < start_count d →
        Reached (started k d r n) ((length r.points, n) ∷ taken)
    take : (r t : Record V) (taken : List (ℕ × ℕ)) (m : Meaning V) →
        Reached r taken → RuleCovers m → Taken k d m r t →
        Reached t taken

-- Whatever its inputs, a run that begins in a state covered by a taken start is held by a path from every point of this start.
abbrev pub NoRunEscapes : {V B : Type 0} → Kind V → Kind B → Type 0
NoRunEscapes {V} {B} k j =
    (d : Core) → sound d ≡ true →
    (r : Record V) (taken : List (ℕ × ℕ)) → Reached k d r taken →
    (p n : ℕ) → Has taken (p, n) →
    (c : List B) (rest : List (List B)) → Cover k j (start_state k d n) c → Goes j d (c ∷ rest) →
    Held j d r.points p (c ∷ rest)
