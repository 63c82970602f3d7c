-- The memories and the wires of a bundle. Assumes nothing.
use Rattle.std.specs.Prelude.{ℕ, zero, suc, ◌+◌, ◌*◌, ◌/◌, ◌^◌, cond, List, length, Some, None, Option, ◌==◌, bit_and, nat_lt}
use Rattle.model.specs.declared.net.RamWord.{RamWord}
use Rattle.bundle.specs.Format.{two_bytes}
use Rattle.decode.specs.Entries.{only_if}

-- ---- entries of two bytes: ROM words, wires and pilots

abbrev pub word_count : List ℕ → ℕ
word_count bs = length bs / 2

abbrev pub word : List ℕ → ℕ → ℕ
word bs i = two_bytes bs (2 * i)

-- any word will do for the ROM
abbrev pub rom_read : List ℕ → ℕ → Option ℕ
rom_read bs i = Some (word bs i)

-- a wire names one of so many nets
abbrev pub wire_read : ℕ → List ℕ → ℕ → Option ℕ
wire_read nets bs i = only_if (nat_lt (word bs i) nets) (word bs i)

-- ---- RAM words: a value and the mask of its unknown bits, which are 0 in the value

abbrev pub ram_count : List ℕ → ℕ
ram_count bs = length bs / 4

abbrev pub ram_read : List ℕ → ℕ → Option RamWord
ram_read bs i =
    only_if (bit_and (two_bytes bs (4 * i)) (two_bytes bs (4 * i + 2)) == 0)
    (record { value = two_bytes bs (4 * i); unknown = two_bytes bs (4 * i + 2) })

-- ---- address bits: a memory has as many words as they can tell apart

-- the first of n numbers from a on whose power of two is the number of words
abbrev pub bits_from : ℕ → ℕ → ℕ → Option ℕ
bits_from words a zero = None
bits_from words a (suc n) = cond (words == 2 ^ a) (Some a) (bits_from words (a + 1) n)

abbrev pub address_bits : ℕ → ℕ → Option ℕ
address_bits words most = bits_from words 0 (most + 1)
