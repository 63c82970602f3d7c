-- Points taken one after the other. Assumes nothing.
use Rattle.std.proofs.Common.{◌≡◌, ℕ, suc, ◌+◌, ◌-◌, ◌*◌, ◌<◌, ◌≤◌, List, [], length, drop, Ok, Err, sym, refl, ap, ◌∙◌, subst, arith}
use Rattle.std.proofs.lemmas.Nat.{mul-le}
use Rattle.std.proofs.lemmas.List.FromFn.{length-map-range_with_len}
use Rattle.std.proofs.lemmas.List.{length-reverse, drop-drop}
use Rattle.bundle.specs.declared.refusal.Refusal.{Refusal}
use Rattle.levels.specs.declared.Tri.{Tri}
use Rattle.levels.specs.Tris.{tri_kind}
use Rattle.model.specs.Core.{Core}
use Rattle.record.specs.Record.{Record, Meaning, Treatment, halt, cut, walk}
use Rattle.explore.specs.declared.answers.Ending.{Ending}
use Rattle.explore.specs.declared.answers.Ending.TheVariants as ending
use Rattle.explore.specs.declared.exploration.Exploration.{Exploration}
use Rattle.explore.specs.Memory.{Memory, SameLengths, view, point_room, open_room, entry_room}
use Rattle.explore.specs.Parts.{open_points}
use Rattle.explore.specs.Calls.{room_refusal, Takes, done, spent, refused, takes}
use Rattle.explore.specs.Moves.{others, Holds, TakesLast}
use Rattle.explore.proofs.Facts.{lengths_stay, lengths_on}
use Rattle.explore.proofs.Views.{waiting_last}

-- ---- what lasts

pub holds_same : (m : Memory) → Holds m m
holds_same m = record { lengths = lengths_stay m.exploration; more_points = omega arith; more_entries = omega arith; other_points = refl; other_kept = refl }

-- what two lists share from a place on they share from any later place on
drop_later : {X : Type 0} (m n : ℕ) (xs ys : List X) → m ≤ n → drop m xs ≡ drop m ys → drop n xs ≡ drop n ys
drop_later m n xs ys h e =
    let more : n ≡ m + (n - m) = omega arith in
    ap (λ (a : ℕ). drop a xs) more ∙ (sym (drop-drop (n - m) m xs) ∙ (ap (drop (n - m)) e ∙ (drop-drop (n - m) m ys ∙ ap (λ (a : ℕ). drop a ys) (sym more))))

pub holds_more : (a b c : Memory) → Holds a b → Holds b c → Holds a c
holds_more a b c so one =
    let n : b.exploration.places ≡ c.exploration.places = sym one.lengths.same_places in
    let behind : b.exploration.entry_count * b.exploration.places ≤ c.exploration.entry_count * c.exploration.places =
    mul-le b.exploration.entry_count b.exploration.places c.exploration.entry_count c.exploration.places one.more_entries (omega arith) in
    record {
      lengths = lengths_on a.exploration b.exploration c.exploration so.lengths one.lengths;
      more_points = omega (arith, so.more_points, one.more_points);
      more_entries = omega (arith, so.more_entries, one.more_entries);
      other_points = one.other_points
          ∙ drop_later b.exploration.point_count c.exploration.point_count b.lent.points a.lent.points one.more_points so.other_points;
      other_kept = one.other_kept
          ∙ drop_later (b.exploration.entry_count * b.exploration.places) (c.exploration.entry_count * c.exploration.places) b.lent.kept a.lent.kept behind so.other_kept;
    }

-- ---- the room is that of the making

room_same : (d : Core) (x y : Exploration) → SameLengths x y → (r : Record Tri) (p n : ℕ) (t : Treatment tri_kind d) → room_refusal d y r p n t ≡ room_refusal d x r p n t
room_same d x y same r p n halt = refl
room_same d x y same r p n (cut c) = refl
room_same d x y same r p n (walk s es) =
    let e : entry_room y ≡ entry_room x = let a = same.same_kept_length in let b = same.same_places in cc in
    let f : point_room y ≡ point_room x = let a = same.same_point_length in cc in
    let g : open_room y ≡ open_room x = let a = same.same_open_length in let b = same.same_places in cc in
    cc

others_length : (m : Memory) → length (others m) ≡ m.exploration.open_count - 1
others_length m = length-reverse _ ∙ length-map-range_with_len _ 0 (m.exploration.open_count - 1)

-- ---- one more point taken

module _ (d : Core) (m : Meaning Tri) (x : Exploration) where
  -- what the points that are taken from here on make of it all, so many having been taken
  abbrev pub Continues : ℕ → ℕ → Record Tri → Record Tri → Type 0
  Continues budget taken start now =
      (c : ℕ) (e : Ending) (after : Record Tri) → Takes d m x (budget - taken) now c e after → Takes d m x budget start (taken + c) e after

  pub continues_start : (budget : ℕ) (start : Record Tri) → Continues budget 0 start start
  continues_start budget start c e after t =
      let b : budget - 0 ≡ budget = omega arith in
      let k : c ≡ 0 + c = omega arith in
      subst (λ (n : ℕ). Takes d m x budget start n e after) k (subst (λ (n : ℕ). Takes d m x n start c e after) b t)

  module _ (budget taken : ℕ) (start : Record Tri) (before after : Memory) (same : SameLengths x before.exploration) (so : Continues budget taken start (view before)) where
    room_here : (p : ℕ) (t : Treatment tri_kind d) →
        room_refusal d x (view before) p (length (others before)) t ≡ room_refusal d before.exploration (view before) p (before.exploration.open_count - 1) t
    room_here p t =
        ap (λ (n : ℕ). room_refusal d x (view before) p n t) (others_length before)
        ∙ sym (room_same d x before.exploration same (view before) p (before.exploration.open_count - 1) t)

    pub continues_more : (u : Unit {0}) → taken < budget → TakesLast d m before after (Ok u) → Continues budget (taken + 1) start (view after)
    continues_more u h last c e end rest =
        let n : budget - taken ≡ suc (budget - (taken + 1)) = omega arith in
        let k : taken + suc c ≡ taken + 1 + c = omega arith in
        let steps = last.steps in
        let one : Takes d m x (suc (budget - (taken + 1))) (view before) (suc c) e end =
        takes (budget - (taken + 1)) c (view before) end last.point last.state (others before) last.treatment e last.is_last last.treats
        (room_here last.point last.treatment ∙ steps.0)
        (subst (λ (r : Record Tri). Takes d m x (budget - (taken + 1)) r c e end) steps.1 rest) in
        subst (λ (i : ℕ). Takes d m x budget start i e end) k
        (so (suc c) e end (subst (λ (i : ℕ). Takes d m x i (view before) (suc c) e end) (sym n) one))

    pub continues_refused : (e : Refusal) → taken < budget → TakesLast d m before after (Err e) → Takes d m x budget start taken (ending.Refused e) (view after)
    continues_refused e h last =
        let n : budget - taken ≡ suc (budget - (taken + 1)) = omega arith in
        let k : taken + 0 ≡ taken = omega arith in
        let steps = last.steps in
        let one : Takes d m x (suc (budget - (taken + 1))) (view before) 0 (ending.Refused e) (view before) =
        refused (budget - (taken + 1)) (view before) last.point last.state (others before) last.treatment e last.is_last last.treats
        (room_here last.point last.treatment ∙ steps.0) in
        subst (λ (r : Record Tri). Takes d m x budget start taken (ending.Refused e) r) (ap view (sym steps.1))
        (subst (λ (i : ℕ). Takes d m x budget start i (ending.Refused e) (view before)) k
        (so 0 (ending.Refused e) (view before) (subst (λ (i : ℕ). Takes d m x i (view before) 0 (ending.Refused e) (view before)) (sym n) one)))

    pub continues_done : before.exploration.open_count ≡ 0 → Takes d m x budget start taken ending.Done (view before)
    continues_done none =
        let k : taken + 0 ≡ taken = omega arith in
        let y : Exploration = before.exploration in
        let empty : (view before).waiting ≡ [] = ap (open_points y.places y.numbers before.lent.opened) none in
        subst (λ (i : ℕ). Takes d m x budget start i ending.Done (view before)) k (so 0 ending.Done (view before) (done (budget - taken) (view before) empty))

    pub continues_spent : taken ≡ budget → 0 < before.exploration.open_count → Takes d m x budget start taken ending.Spent (view before)
    continues_spent all some =
        let k : taken + 0 ≡ taken = omega arith in
        let n : budget - taken ≡ 0 = omega arith in
        let y : Exploration = before.exploration in
        subst (λ (i : ℕ). Takes d m x budget start i ending.Spent (view before)) k
        (so 0 ending.Spent (view before) (subst (λ (i : ℕ). Takes d m x i (view before) 0 ending.Spent (view before)) (sym n)
        (spent (view before) _ _ (waiting_last y.places y.numbers before.lent.opened y.open_count some))))
