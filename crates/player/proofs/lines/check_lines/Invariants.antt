use Rattle.std.proofs.Common.{◌≡◌, ◌+◌, ◌*◌, drop}
use Rattle.std.specs.Iterator.Adapters.{enumerate_source, enumerate_count}
use Rattle.std.specs.Slice.Iter.{chunks_rest, chunks_size}
use Rattle.bundle.specs.declared.refusal.Fault.TheVariants as fault
use Rattle.bundle.proofs.Asked.{Left}
use Rattle.player.specs.Lines.{line_whole, line_count}
use Rattle.player.proofs.lines.check_lines.Given as goal

-- the lines before were whole, and what is left begins with the line of this number
abbrev pub invariant-loop-number : goal.invariant-loop-number
invariant-loop-number l =
    Left (line_whole l.inputs l.text) fault.Lines (line_count l.inputs l.text) (enumerate_count l.number-iterator)
    × (chunks_size (enumerate_source l.number-iterator) ≡ l.inputs + 1)
    × (chunks_rest (enumerate_source l.number-iterator) ≡ drop (enumerate_count l.number-iterator * (l.inputs + 1)) l.text)
