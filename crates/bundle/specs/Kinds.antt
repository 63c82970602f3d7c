-- The number of each kind of body. Assumes nothing.
use Rattle.std.specs.Prelude.{◌≡◌, ℕ}
use Rattle.bundle.specs.declared.kind.Kind.{Kind}
use Rattle.bundle.specs.declared.kind.Kind.TheVariants as kind
use Rattle.bundle.specs.Bodies.{kind_number}

-- 128 stands for every number that is skipped
abbrev pub number_of : Kind → ℕ
number_of kind.Cells = 1
number_of kind.Nets = 2
number_of kind.Rom = 3
number_of kind.Ram = 4
number_of kind.Wires = 5
number_of kind.Pilots = 6
number_of kind.Starts = 7
number_of kind.Skipped = 128

-- what a row's number stands for
abbrev pub IsKindOf : ℕ → Kind → Type 0
IsKindOf number k = number_of k ≡ kind_number number
