use Rattle.rules.specs.Merges.{plain_merge}
use Rattle.rules.specs.Places.{Halfway}
use Rattle.rules.proofs.plain.join.Given as goal

abbrev pub invariant-loop-i : goal.invariant-loop-i
invariant-loop-i l = Halfway (plain_merge l.kept l.initial.state) l.initial.state l.state l.i
