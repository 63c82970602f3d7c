-- The record after a point is closed or walked. Assumes nothing.
use Rattle.std.proofs.Common.{◌≡◌, ℕ, ◌+◌, ◌-◌, ◌*◌, ◌<◌, ◌≤◌, leb, List, [], ◌∷◌, ◌++◌, map, length, get_or, take, drop, Option, sym, refl, ap, ◌∙◌, subst, ap₂, arith}
use Rattle.std.proofs.lemmas.List.FromFn.{length-map-range_with_len}
use Rattle.std.proofs.lemmas.List.{length-set, length_push, length-take-le, drop-set-lt}
use Rattle.bundle.specs.declared.refusal.Refusal.{Refusal}
use Rattle.bundle.specs.declared.refusal.Fault.TheVariants as fault
use Rattle.bundle.specs.Format.{ask_at, first_refusal}
use Rattle.levels.specs.declared.Tri.{Tri}
use Rattle.levels.specs.Tris.{tri_kind}
use Rattle.model.specs.Core.{Core}
use Rattle.record.specs.declared.point.Fate.{Fate}
use Rattle.record.specs.declared.point.Fate.TheVariants as fate
use Rattle.record.specs.declared.point.Point.{Point}
use Rattle.record.specs.Record as recorded
use Rattle.record.specs.Record.{nowhere, with_fate, marked_as, walk, treated, successor_keys, successor_point, waiting_from, entry_for}
use Rattle.explore.specs.declared.plan.Plan.{Plan}
use Rattle.explore.specs.declared.plan.Plan.TheVariants as plan
use Rattle.explore.specs.declared.exploration.Entry.{Entry}
use Rattle.explore.specs.declared.exploration.Exploration.{Exploration}
use Rattle.explore.specs.Memory.{Memory, memory_of, Adds, view, point_room, open_room, entry_room}
use Rattle.explore.specs.Plans.{planned_entries}
use Rattle.explore.specs.Steps.{Pushed, Kept, entries_after}
use Rattle.explore.specs.Calls.{room_refusal}
use Rattle.explore.specs.Moves.{Popped, Entered, WalkedOn, asked, others, Holds}
use Rattle.explore.proofs.Facts.{lengths_on}
use Rattle.explore.proofs.Views.{open_points_at, kept_entries_at, same_record, points_set}

-- ---- closed

module _ (before after : Memory) (p : ℕ) (f : Fate) (used : p < before.exploration.point_count)
    (points : after.lent.points ≡ marked_as f p before.lent.points) (opened : after.lent.opened ≡ before.lent.opened)
    (kept : after.lent.kept ≡ before.lent.kept) (popped : Popped before.exploration after.exploration) where
  pub closed_view : view after ≡ record { points = marked_as f p (view before).points; waiting = others before; entries = (view before).entries }
  closed_view =
      same_record
      (ap₂ (λ (n : ℕ) (ps : List Point). take n ps) popped.same_points points ∙ points_set before.lent.points before.exploration.point_count p f used)
      (open_points_at popped.lengths.same_places popped.same_numbers opened popped.fewer_open)
      (kept_entries_at popped.lengths.same_places popped.same_entries kept popped.same_entry_count)

  pub closed_holds : Holds before after
  closed_holds = record {
    lengths = popped.lengths;
    more_points = omega (arith, popped.same_points);
    more_entries = omega (arith, popped.same_entry_count);
    other_points = ap (drop after.exploration.point_count) points
        ∙ drop-set-lt after.exploration.point_count before.lent.points p (with_fate f (get_or before.lent.points p nowhere)) (omega (arith, popped.same_points));
    other_kept = ap (drop (after.exploration.entry_count * after.exploration.places)) kept;
  }

-- ---- walked

planned_length : (d : Core) (q : Plan) (key p : ℕ) (s : List Tri) (es : List (recorded.Entry Tri)) → length (planned_entries d q key p s es) ≡ entries_after q (length es)
planned_length d plan.Halt key p s es = refl
planned_length d (plan.Cut t) key p s es = refl
planned_length d plan.Pass key p s es = refl
planned_length d plan.Add key p s es = length_push es (entry_for tri_kind d key p 0 s)
planned_length d (plan.Replace i count) key p s es = length-set es i (entry_for tri_kind d key p count s)

module _ (d : Core) (q : Plan) (p key : ℕ) (s : List Tri) (count : ℕ) (before : Memory)
    (size : count ≡ length (successor_keys tri_kind d s)) (long : before.exploration.point_count ≤ length before.lent.points) where
  -- the room that is asked for
  pub walked_asked : room_refusal d before.exploration (view before) p (before.exploration.open_count - 1)
      (walk s (planned_entries d q key p s (view before).entries)) ≡ asked before.exploration q p count
  walked_asked =
      let x : Exploration = before.exploration in
      let entries : length (planned_entries d q key p s (view before).entries) ≡ entries_after q x.entry_count =
      planned_length d q key p s (view before).entries ∙ ap (entries_after q) (length-map-range_with_len _ 0 x.entry_count) in
      let points : length (view before).points + length (successor_keys tri_kind d s) ≡ x.point_count + count =
      ap₂ (λ (a b : ℕ). a + b) (length-take-le x.point_count before.lent.points long) (sym size) in
      let slots : x.open_count - 1 + length (successor_keys tri_kind d s) ≡ x.open_count - 1 + count = ap (λ (b : ℕ). x.open_count - 1 + b) (sym size) in
      let form : ℕ → ℕ → ℕ → Option Refusal = λ a b c.
      first_refusal (ask_at (leb a (entry_room x)) fault.NoEntry p ∷ (ask_at (leb b (point_room x)) fault.NoPoint p ∷ (ask_at (leb c (open_room x)) fault.NoSlot p ∷ []))) in
      ap (λ (a : ℕ). form a (length (view before).points + length (successor_keys tri_kind d s)) (x.open_count - 1 + length (successor_keys tri_kind d s))) entries
      ∙ (ap (λ (b : ℕ). form (entries_after q x.entry_count) b (x.open_count - 1 + length (successor_keys tri_kind d s))) points
      ∙ ap (form (entries_after q x.entry_count) (x.point_count + count)) slots)

  module _ (after : Memory) (used : p < before.exploration.point_count) (walked : WalkedOn d q p key s count before after) where
    pub walked_view : view after ≡ treated tri_kind d (view before) p (others before) (walk s (planned_entries d q key p s (view before).entries))
    walked_view =
        let x : Exploration = before.exploration in
        same_record
        (ap (λ (n : ℕ). take n after.lent.points) walked.more_points ∙ (walked.pushed.points_added
        ∙ ap (λ (ps : List Point). ps ++ map (successor_point tri_kind d p s) (successor_keys tri_kind d s)) (points_set before.lent.points x.point_count p fate.Walked used)))
        (open_points_at walked.lengths.same_places refl refl walked.more_open ∙ (walked.pushed.open_added
        ∙ ap (λ (n : ℕ). waiting_from tri_kind d n s ++ others before) (sym (length-take-le x.point_count before.lent.points long))))
        (kept_entries_at walked.lengths.same_places refl refl walked.more_entries ∙ walked.kept.entries_kept)

    entries_grow : (r : Plan) (n : ℕ) → n ≤ entries_after r n
    entries_grow plan.Halt n = omega arith
    entries_grow (plan.Cut t) n = omega arith
    entries_grow plan.Pass n = omega arith
    entries_grow plan.Add n = omega arith
    entries_grow (plan.Replace i c) n = omega arith

    pub walked_holds : Holds before after
    walked_holds =
        let x : Exploration = before.exploration in
        let y : Exploration = after.exploration in
        let behind : y.entry_count * y.places ≡ entries_after q x.entry_count * x.places = ap₂ (λ (a b : ℕ). a * b) walked.more_entries walked.lengths.same_places in
        record {
          lengths = walked.lengths;
          more_points = omega (arith, walked.more_points);
          more_entries = omega (arith, walked.more_entries, entries_grow q x.entry_count);
          other_points = ap (λ (n : ℕ). drop n after.lent.points) walked.more_points ∙ (walked.pushed.points_behind
              ∙ (drop-set-lt (x.point_count + count) before.lent.points p (with_fate fate.Walked (get_or before.lent.points p nowhere)) (omega arith)
              ∙ ap (λ (n : ℕ). drop n before.lent.points) (sym walked.more_points)));
          other_kept = ap (λ (n : ℕ). drop n after.lent.kept) behind ∙ (walked.kept.kept_behind ∙ ap (λ (n : ℕ). drop n before.lent.kept) (sym behind));
        }

-- the point closed, its plan's entry written, and its successors pushed
pub walked_record : (d : Core) (q : Plan) (p key : ℕ) (s : List Tri) (count : ℕ) (x y z w : Exploration) (points points' points'' : List Point) (opened opened' kept kept' : List Tri) →
    points' ≡ marked_as fate.Walked p points → Popped x y → Entered d q key p s y z kept kept' → Adds count z w →
    Pushed z.places points' points'' opened opened' z.numbers w.numbers z.point_count z.open_count count
    (map (successor_point tri_kind d p s) (successor_keys tri_kind d s)) (waiting_from tri_kind d z.point_count s) →
    WalkedOn d q p key s count (memory_of x points opened kept []) (memory_of w points'' opened' kept' [])
walked_record d q p key s count x y z w points points' points'' opened opened' kept kept' marked popped entered adds pushed =
    let to_z = lengths_on x y z popped.lengths entered.lengths in
    let same_points : z.point_count ≡ x.point_count = entered.same_points ∙ popped.same_points in
    let fewer_open : z.open_count ≡ x.open_count - 1 = entered.same_open ∙ popped.fewer_open in
    let same_numbers : z.numbers ≡ x.numbers = entered.same_numbers ∙ popped.same_numbers in
    let added = map (successor_point tri_kind d p s) (successor_keys tri_kind d s) in
    record {
      lengths = lengths_on x z w to_z adds.lengths;
      more_points = omega (arith, adds.more_points);
      more_open = omega (arith, adds.more_open);
      more_entries = adds.same_entry_count ∙ (entered.more_entries ∙ ap (entries_after q) popped.same_entry_count);
      pushed =
          subst (λ (n : ℕ). Pushed n (marked_as fate.Walked p points) points'' opened opened' x.numbers w.numbers x.point_count (x.open_count - 1) count added
          (waiting_from tri_kind d x.point_count s)) to_z.same_places
          (subst (λ (ps : List Point). Pushed z.places ps points'' opened opened' x.numbers w.numbers x.point_count (x.open_count - 1) count added
          (waiting_from tri_kind d x.point_count s)) marked
          (subst (λ (ns : List ℕ). Pushed z.places points' points'' opened opened' ns w.numbers x.point_count (x.open_count - 1) count added
          (waiting_from tri_kind d x.point_count s)) same_numbers
          (subst (λ (f : ℕ). Pushed z.places points' points'' opened opened' z.numbers w.numbers f (x.open_count - 1) count added
          (waiting_from tri_kind d f s)) same_points
          (subst (λ (o : ℕ). Pushed z.places points' points'' opened opened' z.numbers w.numbers z.point_count o count added
          (waiting_from tri_kind d z.point_count s)) fewer_open pushed))));
      kept =
          subst (λ (es : List Entry). Kept d x.places q key p s x.entries es kept kept' x.entry_count) (sym adds.same_entries)
          (subst (λ (n : ℕ). Kept d n q key p s x.entries z.entries kept kept' x.entry_count) popped.lengths.same_places
          (subst (λ (es : List Entry). Kept d y.places q key p s es z.entries kept kept' x.entry_count) popped.same_entries
          (subst (λ (n : ℕ). Kept d y.places q key p s y.entries z.entries kept kept' n) popped.same_entry_count entered.written)));
    }
