-- A bundle's header, contents rows and bodies, and the questions put to them in order. Assumes nothing.
use Rattle.std.specs.Prelude.{ℕ, zero, suc, ◌+◌, ◌*◌, Bool, true, false, cond, not, ◌&&◌, ◌||◌, List, [], ◌∷◌, length, take, drop, Some, None, Option, ◌==◌, nat_le, nat_lt, slice_index}
use Rattle.bundle.specs.declared.refusal.Fault.{Fault}
use Rattle.bundle.specs.declared.refusal.Fault.TheVariants as fault
use Rattle.bundle.specs.declared.refusal.Refusal.{Refusal}

-- ---- questions

abbrev pub refused_at : Fault → ℕ → Refusal
refused_at f p = record { fault = f; place = p }

-- a question with one place
abbrev pub ask : Bool → Fault → Option Refusal
ask true f = None
ask false f = Some (refused_at f 0)

-- a question about one place of many
abbrev pub ask_at : Bool → Fault → ℕ → Option Refusal
ask_at true f p = None
ask_at false f p = Some (refused_at f p)

-- a question put to each of n entries from number i on: the first that fails is the place
abbrev pub ask_each : (ℕ → Bool) → Fault → ℕ → ℕ → Option Refusal
ask_each good f i zero = None
ask_each good f i (suc n) = cond (good i) (ask_each good f (i + 1) n) (Some (refused_at f i))

-- the first question that is answered no
abbrev pub first_refusal : List (Option Refusal) → Option Refusal
first_refusal [] = None
first_refusal (None ∷ rest) = first_refusal rest
first_refusal (Some r ∷ rest) = Some r

-- ---- fields, little-endian

abbrev pub byte : List ℕ → ℕ → ℕ
byte bs i = slice_index bs i

abbrev pub two_bytes : List ℕ → ℕ → ℕ
two_bytes bs i = byte bs i + 256 * byte bs (i + 1)

abbrev pub four_bytes : List ℕ → ℕ → ℕ
four_bytes bs i = byte bs i + 256 * byte bs (i + 1) + 65536 * byte bs (i + 2) + 16777216 * byte bs (i + 3)

-- ---- the header: 18 bytes

abbrev pub header_right : List ℕ → Bool
header_right bs = nat_le 18 (length bs) && byte bs 0 == 0x54 && byte bs 1 == 0x42 && byte bs 2 == 1

abbrev pub rows : List ℕ → ℕ
rows bs = byte bs 3

abbrev pub clock : List ℕ → ℕ
clock bs = two_bytes bs 4

abbrev pub rom_energy : List ℕ → ℕ
rom_energy bs = two_bytes bs 6

abbrev pub ram_energy : List ℕ → ℕ
ram_energy bs = two_bytes bs 8

abbrev pub write_energy : List ℕ → ℕ
write_energy bs = two_bytes bs 10

abbrev pub window : List ℕ → ℕ
window bs = two_bytes bs 12

abbrev pub total_length : List ℕ → ℕ
total_length bs = four_bytes bs 14

-- ---- contents rows: eight bytes each

abbrev pub row_start : ℕ → ℕ
row_start i = 18 + 8 * i

abbrev pub row_kind : List ℕ → ℕ → ℕ
row_kind bs i = byte bs (row_start i)

abbrev pub row_zero : List ℕ → ℕ → ℕ
row_zero bs i = byte bs (row_start i + 1)

abbrev pub row_count : List ℕ → ℕ → ℕ
row_count bs i = two_bytes bs (row_start i + 2)

abbrev pub row_offset : List ℕ → ℕ → ℕ
row_offset bs i = four_bytes bs (row_start i + 4)

abbrev pub row_inside : List ℕ → ℕ → Bool
row_inside bs i = nat_le (row_start i + 8) (length bs)

-- kinds 1 to 7 in order, then only 128 to 255
abbrev pub kind_right : ℕ → ℕ → Bool
kind_right i kind = cond (nat_lt i 7) (kind == i + 1) (nat_le 128 kind)

abbrev pub row_right : List ℕ → ℕ → Bool
row_right bs i = kind_right i (row_kind bs i) && row_zero bs i == 0

-- ---- bodies

-- the bytes of an entry: cells and nets have 10, ROM words, wires and pilots 2, RAM words 4, starts and skipped bodies 1
abbrev pub entry_size : ℕ → ℕ
entry_size kind =
    cond (kind == 1) 10 (cond (kind == 2) 10 (cond (kind == 3) 2 (cond (kind == 4) 4 (cond (kind == 5) 2 (cond (kind == 6) 2 1)))))

abbrev pub body_length : List ℕ → ℕ → ℕ
body_length bs i = row_count bs i * entry_size (row_kind bs i)

abbrev pub body_end : List ℕ → ℕ → ℕ
body_end bs i = row_offset bs i + body_length bs i

-- where the part before body i ends: the table before the first, then the bodies
abbrev pub part_end : List ℕ → ℕ → ℕ
part_end bs zero = row_start (rows bs)
part_end bs (suc i) = body_end bs i

-- body i begins there, and the last one ends with the bundle
abbrev pub row_placed : List ℕ → ℕ → Bool
row_placed bs i =
    (row_offset bs i == part_end bs i) && (not (i + 1 == rows bs) || body_end bs i == length bs)

-- body i, as the stretch of the bundle that it is
abbrev pub body : List ℕ → ℕ → List ℕ
body bs i = take (body_length bs i) (drop (row_offset bs i) bs)

-- ---- the questions in order

abbrev pub bundle_refusal : List ℕ → Option Refusal
bundle_refusal bs =
    first_refusal (
    ask (header_right bs) fault.Header
    ∷ (ask (total_length bs == length bs) fault.Length
    ∷ (ask (nat_le 7 (rows bs) && nat_le (rows bs) 32) fault.Rows
    ∷ (ask_each (row_inside bs) fault.Rows 0 (rows bs)
    ∷ (ask_each (row_right bs) fault.Kinds 0 (rows bs)
    ∷ (ask_each (row_placed bs) fault.Bodies 0 (rows bs)
    ∷ []))))))
