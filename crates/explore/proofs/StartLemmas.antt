-- What a start that is not refused has room for, and the record after it. Assumes nothing.
use Rattle.std.proofs.Common.{◌≡◌, ℕ, ◌+◌, ◌*◌, ◌/◌, ◌<◌, ◌≤◌, ltb, List, [], ◌∷◌, ◌++◌, length, take, set, None, sym, refl, ap, ◌∙◌, arith}
use borrow.Rule.Slice.PartMut.{put_mid}
use Rattle.std.proofs.lemmas.Nat.{div-add-mod', mul-le}
use Rattle.std.proofs.lemmas.List.{length-take-le}
use Rattle.std.proofs.lemmas.Bool.{ltb-true}
use Rattle.levels.specs.declared.Tri.{Tri}
use Rattle.levels.specs.Tris.{tri_kind}
use Rattle.bundle.specs.declared.refusal.Fault.TheVariants as fault
use Rattle.bundle.specs.Format.{ask}
use Rattle.explore.proofs.Answered.{whole_answered}
use Rattle.model.specs.Core.{Core, places}
use Rattle.model.specs.Cycle.{start_state, key_of}
use Rattle.record.specs.declared.point.Origin.TheVariants as origin
use Rattle.record.specs.declared.point.Fate.TheVariants as fate
use Rattle.record.specs.declared.point.Point.{Point}
use Rattle.record.specs.Record.{started, start_count}
use Rattle.explore.specs.declared.exploration.Exploration.{Exploration}
use Rattle.explore.specs.Memory.{memory_of, view, fits, point_room, open_room, Adds, HasRoom}
use Rattle.explore.specs.Calls.{start_refusal}
use Rattle.explore.specs.Parts.{open_points}
use Rattle.explore.proofs.Fits.{fitting}
use Rattle.explore.proofs.Views.{times_more, open_points_at, kept_entries_at, waiting_push, points_push, same_record}

-- ---- room

-- room for one more open state
pub open_room_more : (x : Exploration) (count : ℕ) → count < open_room x → (count < 64) × ((count + 1) * x.places ≤ x.open_length)
open_room_more x count h =
    let q = x.open_length / x.places in
    (omega arith, omega (arith, mul-le (count + 1) x.places q x.places (omega arith) (omega arith), div-add-mod' x.open_length x.places))

-- what a start that is not refused has
module _ (d : Core) (n : ℕ) (x : Exploration) (points : List Point) (opened kept scratch : List Tri) where
  pub record StartRoom : Type 0 where
    pub some_start : n < start_count d
    pub places_fit : places d ≡ x.places
    pub room : HasRoom 1 x
    pub point_lent : x.point_count < length points
    pub stretch_lent : x.open_count * x.places + x.places ≤ length opened

  pub start_room : start_refusal d n (memory_of x points opened kept scratch) ≡ None → StartRoom
  start_room e =
      let m = memory_of x points opened kept scratch in
      let q = ask (ltb x.open_count (open_room x)) fault.NoSlot ∷ [] in
      let r = ask (ltb x.point_count (point_room x)) fault.NoPoint ∷ q in
      let s = ask (ltb n (start_count d)) fault.NoStart ∷ r in
      let memory = whole_answered (fits d m) fault.Memory s e in
      let start = whole_answered (ltb n (start_count d)) fault.NoStart r memory.1 in
      let point = whole_answered (ltb x.point_count (point_room x)) fault.NoPoint q start.1 in
      let slot = whole_answered (ltb x.open_count (open_room x)) fault.NoSlot [] point.1 in
      let fitted = fitting d m memory.0 in
      let below : x.point_count < point_room x = ltb-true x.point_count (point_room x) point.0 in
      let open_more = open_room_more x x.open_count (ltb-true x.open_count (open_room x) slot.0) in
      record {
        some_start = ltb-true n (start_count d) start.0;
        places_fit = fitted.places_fit;
        room = record { few_points = omega arith; points_inside = omega arith; few_open = omega (arith, open_more.0); open_inside = open_more.1 };
        point_lent = omega (arith, fitted.points_fit);
        stretch_lent = omega (arith, open_more.1, times_more x.open_count x.places, fitted.opened_fit);
      }

-- ---- the record after

abbrev pub start_record : ℕ → Point
start_record key = record { origin = origin.Start; key = key; charge = 0; fate = fate.Open }

pub started_view : (d : Core) (n : ℕ) (x x' : Exploration) (points : List Point) (opened kept scratch scratch' state : List Tri) (key a k : ℕ)
    → Adds 1 x x' → x'.numbers ≡ set x.numbers x.open_count x.point_count → x.point_count < length points → x.open_count < length x.numbers
    → a ≡ x.open_count * x.places → k ≡ x.places → length state ≡ x.places → a ≤ length opened
    → state ≡ start_state tri_kind d n → key ≡ key_of tri_kind d (start_state tri_kind d n)
    → view (memory_of x' (set points x.point_count (start_record key)) (put_mid a k opened state) kept scratch')
    ≡ started tri_kind d (view (memory_of x points opened kept scratch)) n
started_view d n x x' points opened kept scratch scratch' state key a k adds its_number inside slot start whole long h is_start is_key =
    let new = set points x.point_count (start_record key) in
    let size : x.point_count ≡ length (take x.point_count points) = sym (length-take-le x.point_count points (omega arith)) in
    let behind = open_points x.places x.numbers opened x.open_count in
    same_record
    (ap (λ (m : ℕ). take m new) adds.more_points
    ∙ (points_push points x.point_count (start_record key) inside
    ∙ ap (λ (m : ℕ). take x.point_count points ++ (start_record m ∷ [])) is_key))
    (open_points_at adds.lengths.same_places its_number refl adds.more_open
    ∙ (waiting_push x.places x.numbers opened x.open_count x.point_count a k state slot start whole long h
    ∙ (ap (λ (m : ℕ). record { number = m; state = state } ∷ behind) size
    ∙ ap (λ (s : List Tri). record { number = length (take x.point_count points); state = s } ∷ behind) is_start)))
    (kept_entries_at adds.lengths.same_places adds.same_entries refl adds.same_entry_count)
