-- Each question's number, and each number's layer. Assumes nothing.
use Rattle.std.specs.Prelude.{ℕ, nat_le, if◌then◌else◌}
use Rattle.slow_tag.specs.declared.refusal.Question.{Question}
use Rattle.slow_tag.specs.declared.refusal.Question.TheVariants as question

abbrev pub number_of : Question → ℕ
number_of question.Header = 1
number_of question.Length = 2
number_of question.Rows = 3
number_of question.Kinds = 4
number_of question.Bodies = 5
number_of question.Clock = 6
number_of question.Cells = 7
number_of question.Nets = 8
number_of question.Words = 9
number_of question.Wires = 10
number_of question.Pilots = 11
number_of question.Starts = 12
number_of question.Memory = 13
number_of question.StartNumber = 14
number_of question.EntryRoom = 15
number_of question.PointRoom = 16
number_of question.OpenRoom = 17
number_of question.Started = 18
number_of question.NoneOpen = 19
number_of question.Width = 20
number_of question.Names = 21
number_of question.Lines = 22

-- 1 is the bundle, 2 the design, 3 the calls
abbrev pub layer_of : ℕ → ℕ
layer_of number = if nat_le number 5 then 1 else (if nat_le number 12 then 2 else 3)
