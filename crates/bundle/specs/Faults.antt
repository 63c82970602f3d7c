-- Each fault's number and layer. Assumes nothing.
use Rattle.std.specs.Prelude.{ℕ}
use Rattle.bundle.specs.declared.refusal.Fault.{Fault}
use Rattle.bundle.specs.declared.refusal.Fault.TheVariants as fault

abbrev pub fault_number : Fault → ℕ
fault_number fault.Header = 1
fault_number fault.Length = 2
fault_number fault.Rows = 3
fault_number fault.Kinds = 4
fault_number fault.Bodies = 5
fault_number fault.Figures = 6
fault_number fault.Cells = 7
fault_number fault.Nets = 8
fault_number fault.Words = 9
fault_number fault.Wires = 10
fault_number fault.Pilots = 11
fault_number fault.Starts = 12
fault_number fault.Memory = 13
fault_number fault.NoStart = 14
fault_number fault.NoEntry = 15
fault_number fault.NoPoint = 16
fault_number fault.NoSlot = 17
fault_number fault.NotStarted = 18
fault_number fault.StillOpen = 19
fault_number fault.NoWindow = 20
fault_number fault.Damaged = 21
fault_number fault.Lines = 22

-- 1 is the bundle, 2 the design, 3 all after
abbrev pub fault_layer : Fault → ℕ
fault_layer fault.Header = 1
fault_layer fault.Length = 1
fault_layer fault.Rows = 1
fault_layer fault.Kinds = 1
fault_layer fault.Bodies = 1
fault_layer fault.Figures = 2
fault_layer fault.Cells = 2
fault_layer fault.Nets = 2
fault_layer fault.Words = 2
fault_layer fault.Wires = 2
fault_layer fault.Pilots = 2
fault_layer fault.Starts = 2
fault_layer fault.Memory = 3
fault_layer fault.NoStart = 3
fault_layer fault.NoEntry = 3
fault_layer fault.NoPoint = 3
fault_layer fault.NoSlot = 3
fault_layer fault.NotStarted = 3
fault_layer fault.StillOpen = 3
fault_layer fault.NoWindow = 3
fault_layer fault.Damaged = 3
fault_layer fault.Lines = 3
