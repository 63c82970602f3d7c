use Rattle.std.proofs.Common.{◌≡◌, ◌++◌, map, take}
use Rattle.std.specs.List.{range_with_len, flat_map}
use Rattle.slow_tag.specs.declared.tag.RamWord.{RamWord}
use Rattle.slow_tag.specs.Known.{ram_bit}
use Rattle.slow_tag.proofs.tag.Tag.known_bits.Given as goal

abbrev pub invariant-loop-word : goal.invariant-loop-word
invariant-loop-word l =
    l.known.items ≡ l.initial.known.items ++ flat_map (λ (word : RamWord). map (ram_bit word) (range_with_len 0 16)) (take l.word-index l.word-items)
