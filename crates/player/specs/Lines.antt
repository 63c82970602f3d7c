-- Lines of inputs: one line a cycle, one character an input. Assumes nothing.
use Rattle.std.specs.Prelude.{ℕ, ◌+◌, ◌*◌, ◌/◌, ◌%◌, min, Bool, true, false, cond, ◌&&◌, List, length, take, drop, Option, ◌==◌}
use Rattle.levels.specs.declared.Bit.{Bit}
use Rattle.levels.specs.declared.Bit.TheVariants as bit
use Rattle.bundle.specs.declared.refusal.Refusal.{Refusal}
use Rattle.bundle.specs.declared.refusal.Fault.TheVariants as fault
use Rattle.bundle.specs.Format.{byte, ask_each}
use Rattle.model.specs.Core.{every}
use Rattle.player.specs.declared.lines.Character.{Character}
use Rattle.player.specs.declared.lines.Character.TheVariants.{Level, Newline, Other}

-- the characters 0 (48), 1 (49) and newline (10)
abbrev pub character : ℕ → Character
character b = cond (b == 48) (Level bit.Zero) (cond (b == 49) (Level bit.One) (cond (b == 10) Newline Other))

abbrev pub is_level : Character → Bool
is_level (Level v) = true
is_level Newline = false
is_level Other = false

abbrev pub is_newline : Character → Bool
is_newline (Level v) = false
is_newline Newline = true
is_newline Other = false

abbrev pub level_of : Character → Bit
level_of (Level v) = v
level_of Newline = bit.Zero
level_of Other = bit.Zero

-- where line l begins, all lines before it being whole: a line has a character for each of n inputs, then a newline
abbrev pub line_start : ℕ → ℕ → ℕ
line_start n l = l * (n + 1)

abbrev pub line_bytes : ℕ → List ℕ → ℕ → List ℕ
line_bytes n text l = take n (drop (line_start n l) text)

abbrev pub all_levels : List ℕ → Bool
all_levels bs = every (λ b. is_level (character b)) bs

abbrev pub line_whole : ℕ → List ℕ → ℕ → Bool
line_whole n text l = all_levels (line_bytes n text l) && is_newline (character (byte text (line_start n l + n)))

-- the lines, a last one cut short among them
abbrev pub line_count : ℕ → List ℕ → ℕ
line_count n text = length text / (n + 1) + min 1 (length text % (n + 1))

-- every line is whole, or the first that is not is refused
abbrev pub lines_refusal : ℕ → List ℕ → Option Refusal
lines_refusal n text = ask_each (line_whole n text) fault.Lines 0 (line_count n text)
