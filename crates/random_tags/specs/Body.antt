-- What a body is, and how large its entries are. Assumes nothing.
use Rattle.std.specs.Prelude.{ℕ, List}
use Rattle.random_tags.specs.declared.parts.Body.{Body}
use Rattle.random_tags.specs.declared.parts.Body.TheVariants.{Cells, Nets, Rom, Ram, Wires, Pilots, Starts}
use Rattle.random_tags.specs.declared.parts.Parts.{Parts}

-- how many bytes an entry has
abbrev pub entry_size : Body → ℕ
entry_size Cells = 10
entry_size Nets = 10
entry_size Rom = 2
entry_size Ram = 4
entry_size Wires = 2
entry_size Pilots = 2
entry_size Starts = 1

-- the bytes of a body
abbrev pub bytes_of : Parts → Body → List ℕ
bytes_of parts Cells = parts.cells.items
bytes_of parts Nets = parts.nets.items
bytes_of parts Rom = parts.rom.items
bytes_of parts Ram = parts.ram.items
bytes_of parts Wires = parts.wires.items
bytes_of parts Pilots = parts.pilots.items
bytes_of parts Starts = parts.starts.items
