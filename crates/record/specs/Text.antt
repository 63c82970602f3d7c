-- What is printed of an origin and of a fate. Assumes nothing.
use Rattle.std.specs.Prelude.{ℕ, List, ◌++◌, codes, decimal}
use Rattle.record.specs.declared.point.Origin.{Origin}
use Rattle.record.specs.declared.point.Origin.TheVariants as origin
use Rattle.record.specs.declared.point.Fate.{Fate}
use Rattle.record.specs.declared.point.Fate.TheVariants as fate

abbrev pub origin_text : Origin → List ℕ
origin_text origin.Start = codes "-"
origin_text (origin.From p) = decimal p

abbrev pub fate_text : Fate → List ℕ
fate_text fate.Open = codes "open"
fate_text fate.Walked = codes "walked"
fate_text (fate.Cut t) = codes "cut " ++ decimal t
fate_text fate.Halted = codes "halted"
