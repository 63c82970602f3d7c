-- What a bundle hands out: its bytes, its header, and each body with its kind. Assumes nothing.
use Rattle.std.specs.Prelude.{◌≡◌, ℕ, ◌+◌, ◌<◌, ◌≤◌, Bool, true, false, cond, ◌&&◌, List, length, Some, None, Ok, Err, Option, Result, nat_le, nat_lt}
use Rattle.bundle.specs.declared.body.Body.{Body}
use Rattle.bundle.specs.declared.body.Body.TheVariants.{Cells, Nets, Rom, Ram, Wires, Pilots, Starts, Skipped}
use Rattle.bundle.specs.declared.bundle.Bundle.{Bundle}
use Rattle.bundle.specs.declared.header.Header.{Header}
use Rattle.bundle.specs.declared.refusal.Refusal.{Refusal}
use Rattle.bundle.specs.Contents.{the_header}
use Rattle.bundle.specs.Format.{rows, row_kind, row_inside, body, body_end, bundle_refusal}

abbrev pub bundle_bytes : Bundle → List ℕ
bundle_bytes b = b.bytes.now

abbrev pub bundle_header : Bundle → Header
bundle_header b = b.header

-- what every opened bundle is: not refused, with the header that its bytes have
abbrev pub Whole : Bundle → Type 0
Whole b = (bundle_refusal (bundle_bytes b) ≡ None) × (bundle_header b ≡ the_header (bundle_bytes b))

-- the bytes are a bundle's, or refused as the format says
abbrev pub Opened : List ℕ → Result Bundle Refusal → Type 0
Opened bs (Ok b) = (bundle_bytes b ≡ bs) × Whole b
Opened bs (Err e) = bundle_refusal bs ≡ Some e

-- the number of each case; 128 stands for every kind that is skipped
abbrev pub body_kind : Body → ℕ
body_kind (Cells b) = 1
body_kind (Nets b) = 2
body_kind (Rom b) = 3
body_kind (Ram b) = 4
body_kind (Wires b) = 5
body_kind (Pilots b) = 6
body_kind (Starts b) = 7
body_kind (Skipped b) = 128

abbrev pub body_bytes : Body → List ℕ
body_bytes (Cells b) = b.now
body_bytes (Nets b) = b.now
body_bytes (Rom b) = b.now
body_bytes (Ram b) = b.now
body_bytes (Wires b) = b.now
body_bytes (Pilots b) = b.now
body_bytes (Starts b) = b.now
body_bytes (Skipped b) = b.now

-- the number of a body's case, by the kind of its row: 1 to 7 are themselves, any other is skipped
abbrev pub kind_number : ℕ → ℕ
kind_number kind = cond (nat_le 1 kind && nat_le kind 7) kind 128

-- whether the bytes hold row i and its body; a whole bundle's do for each of its rows
abbrev pub has_body : Bundle → ℕ → Bool
has_body b i =
    nat_lt i (bundle_header b).rows && row_inside (bundle_bytes b) i && nat_le (body_end (bundle_bytes b) i) (length (bundle_bytes b))

-- body i, of the kind that its row says
abbrev pub HandedOut : Bundle → ℕ → Option Body → Type 0
HandedOut b i None = has_body b i ≡ false
HandedOut b i (Some d) =
    (has_body b i ≡ true) × (body_kind d ≡ kind_number (row_kind (bundle_bytes b) i)) × (body_bytes d ≡ body (bundle_bytes b) i)

-- a whole bundle has a body for each row and no other, the kinds 1 to 7 first, in order
abbrev pub InOrder : List ℕ → ℕ → Option Body → Type 0
InOrder bs i None = (rows bs ≤ i) × (7 ≤ i)
InOrder bs i (Some d) = (i < rows bs) × (body_kind d ≡ cond (nat_lt i 7) (i + 1) 128)
