-- What the fields of a bundle hold, the lowest byte first; a byte past the end is 0. Assumes nothing.
use Rattle.std.specs.Prelude.{ℕ, ◌+◌, ◌*◌, List, get_or}

abbrev pub byte_at : List ℕ → ℕ → ℕ
byte_at bytes at = get_or bytes at 0

abbrev pub two_at : List ℕ → ℕ → ℕ
two_at bytes at = byte_at bytes at + 256 * byte_at bytes (at + 1)

abbrev pub four_at : List ℕ → ℕ → ℕ
four_at bytes at = two_at bytes at + 65536 * two_at bytes (at + 2)
