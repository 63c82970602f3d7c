-- What is known of a start's places before its gates settle. Assumes nothing.
use Rattle.std.specs.Prelude.{ℕ, ◌+◌, ◌*◌, ◌/◌, ◌%◌, ◌^◌, ◌==◌, ◌&&◌, ◌++◌, nat_lt, List, Bool, Option, not, map, take, count_by, if◌then◌else◌}
use Rattle.std.specs.Bool.{then_some}
use Rattle.std.specs.Option.{option_flatten}
use Rattle.std.specs.List.{slice_get, enumerate_from, flat_map, range_with_len}
use Rattle.slow_tag.specs.declared.tag.Net.{Net}
use Rattle.slow_tag.specs.declared.tag.RamWord.{RamWord}
use Rattle.slow_tag.specs.declared.tag.Tag.{Tag}
use Rattle.slow_tag.specs.Uses.{holds_a_bit, constant_of}

abbrev pub flops_in : List Net → ℕ
flops_in nets = count_by (λ (net : Net). holds_a_bit net.cell.duty) nets

-- the bit of a start's flop, counted in net order
abbrev pub start_bit : Tag → ℕ → ℕ → Option Bool
start_bit tag start flop = option_flatten (slice_get tag.starts.items (start * tag.flops + flop))

-- what is known of a net that so many flops come before
abbrev pub flop_or_constant : Tag → ℕ → ℕ → Net → Option Bool
flop_or_constant tag start flops net =
    if holds_a_bit net.cell.duty then start_bit tag start flops else constant_of net.cell.duty

-- a flop has the start's bit after those of the flops before it
abbrev pub net_bit : Tag → ℕ → ℕ → Net → Option Bool
net_bit tag start number net = flop_or_constant tag start (flops_in (take number tag.nets.items)) net

abbrev pub is_bit_set : ℕ → ℕ → Bool
is_bit_set number place = nat_lt place 64 && (number / 2 ^ place % 2 == 1)

abbrev pub ram_bit : RamWord → ℕ → Option Bool
ram_bit word place = then_some (not (is_bit_set word.mask place)) (is_bit_set word.value place)

abbrev pub known_of : Tag → ℕ → List (Option Bool)
known_of tag start =
    map (λ (p : ℕ × Net). net_bit tag start p.0 p.1) (enumerate_from 0 tag.nets.items)
    ++ flat_map (λ (word : RamWord). map (ram_bit word) (range_with_len 0 16)) tag.ram.items
