use Rattle.std.proofs.Common.{◌≡◌, ℕ, ◌+◌, ◌-◌, ◌*◌, sym, ap, ◌∙◌, subst, ap₂, arith}
use Rattle.design.specs.declared.design.Design.{Design}
use Rattle.design.specs.Views.{core}
use Rattle.explore.specs.Steps.{InUse, entries_after}
use Rattle.explore.specs.Holding.{Edged}
use Rattle.explore.proofs.Moving.{walked_record}
use Rattle.explore.proofs.Rooms.{room_of}
use Rattle.explore.proofs.Facts.{in_use_of, replaced_within, lengths_on}
use Rattle.explore.proofs.held.Held.walk_on.Goals as goal

pub keep-requires : goal.keep-requires
keep-requires c =
    let h = c.args.self.now in
    let x = h.exploration.now in
    let y = c.close.new.self.exploration.now in
    let q = c.args.plan in
    let popped = c.close.ensures.popped in
    let same = popped.lengths in
    let room = room_of x q c.args.number c.args.edge.now.count c.requires.room in
    let entries : entries_after q y.entry_count ≡ entries_after q x.entry_count = ap (entries_after q) popped.same_entry_count in
    record {
      used = subst (InUse q) (sym popped.same_entry_count) (in_use_of x q c.requires.plan);
      few = omega (arith, room.few_entries);
      inside = omega (arith, ap₂ (λ (a b : ℕ). a * b) entries same.same_places, same.same_kept_length, room.entries_inside);
      replaced = replaced_within x q y.open_count y.point_count c.requires.plan (omega (arith, popped.fewer_open, c.requires.some)) popped.same_points;
      state = c.requires.edge.current_whole ∙ (sym h.places_fit ∙ sym same.same_places);
      kept = c.close.new.self.kept_fit;
    }

pub invariant_of-self : goal.invariant_of-self
invariant_of-self c =
    let closed = c.close.new.self in
    let same = (c.keep.ensures (core c.args.self.now.design.now)).lengths in
    record {
      places_fit = same.same_places ∙ closed.places_fit;
      points_fit = closed.points_fit ∙ sym same.same_point_length;
      opened_fit = closed.opened_fit ∙ sym same.same_open_length;
      kept_fit = c.keep.auto.kept ∙ (closed.kept_fit ∙ sym same.same_kept_length);
    }

pub push_successors-requires : goal.push_successors-requires
push_successors-requires c =
    let h = c.args.self.now in
    let x = h.exploration.now in
    let y = c.close.new.self.exploration.now in
    let z = c.keep.new.self in
    let d = core h.design.now in
    let count = c.args.edge.now.count in
    let popped = c.close.ensures.popped in
    let entered = c.keep.ensures d in
    let same = lengths_on x y z popped.lengths entered.lengths in
    let points : z.point_count ≡ x.point_count = entered.same_points ∙ popped.same_points in
    let slots : z.open_count ≡ x.open_count - 1 = entered.same_open ∙ popped.fewer_open in
    let room = room_of x c.args.plan c.args.number count c.requires.room in
    record {
      edge = subst (λ (g : Design). Edged (core g) c.args.edge.now) (sym c.close.ensures.same.same_design) c.requires.edge;
      room = record {
        few_points = omega (arith, room.few_points);
        points_inside = omega (arith, same.same_point_length, room.points_inside);
        few_open = omega (arith, room.few_open);
        open_inside = omega (arith, ap₂ (λ (a b : ℕ). (a + count) * b) slots same.same_places, same.same_open_length, room.open_inside);
      };
    }

pub returns-clause-walked : goal.returns-clause-walked
returns-clause-walked c =
    let h = c.args.self.now in
    let closed = c.close.new.self in
    let pushed = c.push_successors.new.self in
    let d = core h.design.now in
    let last = c.push_successors.ensures in
    rw last.kept (
    walked_record d c.args.plan c.args.number c.args.key c.args.edge.now.current.now c.args.edge.now.count h.exploration.now closed.exploration.now c.keep.new.self
    pushed.exploration.now h.points.now closed.points.now pushed.points.now h.opened.now pushed.opened.now
    h.kept.now c.keep.new.kept c.close.ensures.marked c.close.ensures.popped (rw c.close.ensures.kept at (c.keep.ensures d)) last.adds
    (rw (c.close.ensures.same.same_design, c.close.ensures.opened) at last.pushed)
    )
