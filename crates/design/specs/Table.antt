-- What a table holds. Assumes nothing.
use Rattle.std.specs.Prelude.{ℕ, List, take}
use Rattle.design.specs.declared.table.Table.{Table}

abbrev pub items : {T : Type 0} {N : ℕ} → Table T N → List T
items t = take t.count t.values
