-- The worked cases, by computing. Assumes nothing.
use Rattle.std.proofs.Common.{◌≡◌, ℕ, ◌≤◌, leb, List, [], ◌∷◌, None, refl, arith}
use Rattle.std.proofs.lemmas.Bool.{le-leb}
use Rattle.levels.specs.declared.Tri.{Tri}
use Rattle.levels.specs.Tris.{tri_kind}
use Rattle.bundle.specs.declared.refusal.Fault.TheVariants as fault
use Rattle.bundle.specs.Format.{ask_at, first_refusal}
use Rattle.record.specs.Record.{Record, Entry, Waiting, Treatment, walk, cut, keeps, cuts, treated, after_key, entry_for}
use Rattle.model.specs.Cycle.{start_state}
use Rattle.explore.specs.declared.answers.Ending.TheVariants as ending
use Rattle.explore.specs.declared.exploration.Exploration.{Exploration}
use Rattle.explore.specs.Memory.{point_room, open_room, entry_room}
use Rattle.explore.specs.Calls.{takes, done}
use Rattle.worked.specs.Worked.{WorkedCases, Listed, toggling, toggling_started}

-- ---- the states of points 0 to 4, and the entries

abbrev s0 : List Tri
s0 = start_state tri_kind toggling 0

abbrev s1 : List Tri
s1 = after_key tri_kind toggling s0 0

abbrev s2 : List Tri
s2 = after_key tri_kind toggling s0 2

abbrev s3 : List Tri
s3 = after_key tri_kind toggling s2 0

abbrev s4 : List Tri
s4 = after_key tri_kind toggling s2 2

abbrev first_entry : Entry Tri
first_entry = entry_for tri_kind toggling 0 0 0 s0

abbrev second_entry : Entry Tri
second_entry = entry_for tri_kind toggling 2 2 0 s2

abbrev open_at : ℕ → List Tri → Waiting Tri
open_at n s = record { number = n; state = s }

-- ---- the record after each point taken: 0, 2, 4, 3, 1

abbrev t0 : Treatment tri_kind toggling
t0 = walk s0 (first_entry ∷ [])

abbrev r1 : Record Tri
r1 = treated tri_kind toggling toggling_started 0 [] t0

abbrev t2 : Treatment tri_kind toggling
t2 = walk s2 (first_entry ∷ second_entry ∷ [])

abbrev r2 : Record Tri
r2 = treated tri_kind toggling r1 2 (open_at 1 s1 ∷ []) t2

abbrev r3 : Record Tri
r3 = treated tri_kind toggling r2 4 (open_at 3 s3 ∷ open_at 1 s1 ∷ []) (cut 2)

abbrev r4 : Record Tri
r4 = treated tri_kind toggling r3 3 (open_at 1 s1 ∷ []) (cut 0)

abbrev r5 : Record Tri
r5 = treated tri_kind toggling r4 1 [] (cut 0)

-- ---- room

room_enough : (x : Exploration) (p a b c : ℕ) → a ≤ entry_room x → b ≤ point_room x → c ≤ open_room x →
    first_refusal (ask_at (leb a (entry_room x)) fault.NoEntry p ∷ ask_at (leb b (point_room x)) fault.NoPoint p ∷ ask_at (leb c (open_room x)) fault.NoSlot p ∷ []) ≡ None
room_enough x p a b c entries points slots =
    let e = le-leb a (entry_room x) entries in
    let h = le-leb b (point_room x) points in
    let o = le-leb c (open_room x) slots in
    simp (e, h, o)

-- ---- the walk

listed : Listed
listed x points slots entries = (
  r5,
  takes 65534 4 toggling_started r5 0 s0 [] t0 ending.Done refl (keeps refl refl refl) (room_enough x 0 1 3 2 (omega arith) (omega arith) (omega arith))
      (takes 65533 3 r1 r5 2 s2 (open_at 1 s1 ∷ []) t2 ending.Done refl (keeps refl refl refl) (room_enough x 2 2 5 3 entries points slots)
      (takes 65532 2 r2 r5 4 s4 (open_at 3 s3 ∷ open_at 1 s1 ∷ []) (cut 2) ending.Done refl (cuts 1 refl refl refl refl) refl
      (takes 65531 1 r3 r5 3 s3 (open_at 1 s1 ∷ []) (cut 0) ending.Done refl (cuts 0 refl refl refl refl) refl
      (takes 65530 0 r4 r5 1 s1 [] (cut 0) ending.Done refl (cuts 0 refl refl refl refl) refl (done 65530 r5 refl))))),
  refl,
)

pub worked_cases : WorkedCases
worked_cases = record {
  and_of_zero_and_unknown = refl;
  xor_of_one_unknown_net = refl;
  choice_between_equals = refl;
  unknown_to_unknown = refl;
  enable_unknown_held_and_offered_zero = refl;
  address_unknown_over_ones = refl;
  enable_unknown_one_held_zero_offered = refl;
  bundle_read = (refl, refl, refl);
  listed = listed;
  figures = (refl, refl, refl);
}
