-- What both sides answer in one form, the refusal in an answer, and what is left of a slow answer when there is memory. Assumes nothing.
use Rattle.std.specs.Prelude.{Option, Some, None, Result, Ok, Err}
use Rattle.std.specs.declared.alloc.AllocError.{AllocError}
use Rattle.bundle.specs.declared.refusal.Refusal.{Refusal as LibraryRefusal}
use Rattle.bundle.specs.Faults.{fault_number, fault_layer}
use Rattle.explore.specs.declared.answers.Ending.{Ending as LibraryEnding}
use Rattle.explore.specs.declared.answers.Ending.TheVariants as library
use Rattle.slow.specs.declared.walk.Ending.{Ending as SlowEnding}
use Rattle.slow.specs.declared.walk.Ending.TheVariants as slow
use Rattle.slow_tag.specs.declared.refusal.Refusal.{Refusal as SlowRefusal}
use Rattle.slow_tag.specs.declared.refusal.Stop.{Stop}
use Rattle.slow_tag.specs.declared.refusal.Stop.TheVariants as stop
use Rattle.beside.specs.declared.answer.Answer.{Answer}
use Rattle.beside.specs.declared.answer.Answer.TheVariants as answer
use Rattle.beside.specs.declared.answer.Ending.{Ending}
use Rattle.beside.specs.declared.answer.Ending.TheVariants as ending
use Rattle.beside.specs.declared.answer.Refusal.{Refusal}

-- a refusal of the library
abbrev pub library_refusal : LibraryRefusal → Refusal
library_refusal r = record { number = fault_number r.fault; layer = fault_layer r.fault; place = r.place }

-- a refusal of the slow simulator
abbrev pub slow_refusal : SlowRefusal → Refusal
slow_refusal r = record { number = r.number; layer = r.layer; place = r.place }

-- how a walk of the library ends
abbrev pub library_ending : LibraryEnding → Ending
library_ending library.Spent = ending.Spent
library_ending library.Done = ending.Done
library_ending (library.Refused refusal) = ending.Refused (library_refusal refusal)

-- how a walk of the slow simulator ends
abbrev pub slow_ending : SlowEnding → Ending
slow_ending slow.Spent = ending.Spent
slow_ending slow.Done = ending.Done
slow_ending (slow.Refused refusal) = ending.Refused (slow_refusal refusal)

-- the refusal of a call, or of a point in a walk
abbrev pub refusal_of : Answer → Option Refusal
refusal_of (answer.Value n) = None
refusal_of (answer.Figures peak window) = None
refusal_of (answer.Walked count ending.Spent) = None
refusal_of (answer.Walked count ending.Done) = None
refusal_of (answer.Walked count (ending.Refused refusal)) = Some refusal
refusal_of (answer.Refused refusal) = Some refusal

-- the answer or the refusal, if there is memory
abbrev pub answered_of : {A : Type 0} → Result A Stop → Result (Result A SlowRefusal) AllocError
answered_of (Ok value) = Ok (Ok value)
answered_of (Err (stop.Refused refusal)) = Ok (Err refusal)
answered_of (Err (stop.Memory error)) = Err error
