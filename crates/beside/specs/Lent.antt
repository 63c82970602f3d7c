-- What of a bench's memory is lent to a call of the library, and what the call answers. Assumes nothing.
use Rattle.std.specs.Prelude.{◌≡◌, ℕ, ◌-◌, Option, Some, List, [], ◌∷◌, Result, Ok, Err, length, take, drop}
use Rattle.levels.specs.declared.Tri.{Tri}
use Rattle.bundle.specs.declared.refusal.Refusal.{Refusal as LibraryRefusal}
use Rattle.record.specs.declared.point.Point.{Point}
use Rattle.explore.specs.declared.answers.Ending.{Ending as LibraryEnding}
use Rattle.explore.specs.declared.exploration.Exploration.{Exploration}
use Rattle.explore.specs.Memory.{Memory as Held, memory_of}
use Rattle.beside.specs.declared.answer.Answer.{Answer}
use Rattle.beside.specs.declared.answer.Answer.TheVariants as answer
use Rattle.beside.specs.declared.bench.Bench.{Bench}
use Rattle.beside.specs.declared.memory.Memory.{Memory}
use Rattle.beside.specs.declared.pair.Taken.{Taken}
use Rattle.beside.specs.declared.memory.Part.{Part}
use Rattle.beside.specs.declared.memory.Part.TheVariants as part
use Rattle.beside.specs.Answer.{library_refusal, library_ending}

-- how many of a part's last places are not lent
abbrev pub left_out : Option Part → Part → ℕ
left_out (Some part.Points) part.Points = 1
left_out (Some part.Opened) part.Opened = 1
left_out (Some part.Kept) part.Kept = 1
left_out (Some part.Scratch) part.Scratch = 1
left_out short p = 0

-- how many of so many places of a part are lent: all, but for the last of the part that is lent too short
abbrev pub lent_count : Option Part → Part → ℕ → ℕ
lent_count short p n = n - left_out short p

abbrev pub lent_places : {A : Type 0} → Option Part → Part → List A → List A
lent_places short p items = take (lent_count short p (length items)) items

-- an exploration, and what is lent to it of these places
abbrev pub lent_to : Exploration → Option Part → List Point → List Tri → List Tri → List Tri → Held
lent_to x short points opened kept scratch =
    memory_of x (lent_places short part.Points points) (lent_places short part.Opened opened) (lent_places short part.Kept kept) (lent_places short part.Scratch scratch)

-- a bench's exploration, and what is lent to it
abbrev pub held : Bench → Held
held b = lent_to b.exploration b.memory.short b.memory.points.items b.memory.opened.items b.memory.kept.items b.memory.scratch.items

-- as many places as before, and those that are not lent stay as they were
abbrev pub KeepsRest : {A : Type 0} → Option Part → Part → List A → List A → Type 0
KeepsRest short p before after =
    (length after ≡ length before) × (drop (lent_count short p (length before)) after ≡ drop (lent_count short p (length before)) before)

-- what is not lent stays as it was
pub record Unlent (before after : Memory) : Type 0 where
  pub short : after.short ≡ before.short
  pub points : KeepsRest before.short part.Points before.points.items after.points.items
  pub opened : KeepsRest before.short part.Opened before.opened.items after.opened.items
  pub kept : KeepsRest before.short part.Kept before.kept.items after.kept.items
  pub scratch : KeepsRest before.short part.Scratch before.scratch.items after.scratch.items

-- what the library answers, or its refusal, in the form of both sides
abbrev pub answer_of : {A : Type 0} → (A → Answer) → Result A LibraryRefusal → Answer
answer_of form (Ok value) = form value
answer_of form (Err refusal) = answer.Refused (library_refusal refusal)

-- what a walk of the library answers, in that form
abbrev pub walk_answer : ℕ × LibraryEnding → Answer
walk_answer walked = answer.Walked walked.0 (library_ending walked.1)

-- the answer has the form of what the library answered, of which this stands
abbrev pub Answers : {A : Type 0} → (A → Answer) → (A → Type 0) → Answer → Type 0
Answers {A} form Of given = (library : A) × Of library × (given ≡ form library)

-- the start that was taken, if the answer is a point's number
abbrev pub taken : ℕ → Answer → List Taken
taken number (answer.Value point) = record { start = number; point = point } ∷ []
taken number (answer.Figures peak window) = []
taken number (answer.Walked count ending) = []
taken number (answer.Refused refusal) = []
