use Rattle.std.proofs.Common.{◌≡◌, map, take}
use Rattle.player.specs.Lines.{level_of, character}
use Rattle.player.proofs.lines.read_levels.Given as goal

abbrev pub invariant-loop-i : goal.invariant-loop-i
invariant-loop-i l = take l.i l.levels ≡ map (λ b. level_of (character b)) (take l.i l.line)
