use Rattle.std.proofs.Common.{◌≡◌, ◌-◌, ◌%◌, ◌<◌, ◌≤◌, length}
use Rattle.rules.specs.Merges.{whole_words}
use Rattle.rules.specs.Places.{Halfway}
use Rattle.rules.proofs.words.make_whole.Given as goal

abbrev pub invariant-loop-first : goal.invariant-loop-first
invariant-loop-first l =
    (l.nets ≤ l.first) × (l.first < length l.state → (l.first - l.nets) % 16 ≡ 0)
    × Halfway (whole_words l.nets l.initial.state) l.initial.state l.state l.first
