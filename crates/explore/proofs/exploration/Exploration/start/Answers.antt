use Rattle.std.proofs.Common.{◌≡◌, ◌+◌, ◌-◌, ◌*◌, length, take, drop, sym, refl, ◌∙◌, arith, rules}
use Rattle.std.proofs.lemmas.List.{drop-set-lt, length-take-le, length-drop}
use Rattle.design.specs.Views.{core}
use Rattle.model.specs.Core.{places}
use Rattle.explore.proofs.Views.{length_put}
use Rattle.explore.proofs.StartLemmas.{StartRoom, start_room, started_view, start_record}
use Rattle.explore.proofs.exploration.Exploration.start.Goals as goal
use Rattle.explore.proofs.exploration.Exploration.start.Goals.{In_ok-allowed}

-- what the questions left
room : (c : In_ok-allowed) → StartRoom (core c.args.design.now) c.args.number c.args.self.now c.args.points.now c.args.opened.now c.args.kept.now c.args.scratch.now
room c = start_room (core c.args.design.now) c.args.number c.args.self.now c.args.points.now c.args.opened.now c.args.kept.now c.args.scratch.now (sym c.in_ok-allowed.ensures)

pub overflow_add-first : goal.overflow_add-first
overflow_add-first c =
    let h = (room (goal.at.overflow_add-first c).In_ok-allowed).stretch_lent in
    search rules

pub slice_bounds-write_start-end : goal.slice_bounds-write_start-end
slice_bounds-write_start-end c =
    let h = (room (goal.at.slice_bounds-write_start-end c).In_ok-allowed).stretch_lent in
    search rules

pub returns-in_err-key : goal.returns-in_err-key
returns-in_err-key c =
    let x = c.args.self.now in
    let a = x.open_count * x.places in
    let d = core c.args.design.now in
    let opened = c.args.opened.now in
    let r = room (goal.at.returns-in_err-key c).In_ok-allowed in
    let long : length (take (a + x.places - a) (drop a opened)) ≡ places d =
    length-take-le (a + x.places - a) (drop a opened) (omega (arith, length-drop a opened, r.stretch_lent)) ∙ omega (arith, r.places_fit) in
    absurd (c.in_err-key.ensures long r.some_start)

pub bounds-points-point : goal.bounds-points-point
bounds-points-point c = (room (goal.at.bounds-points-point c).In_ok-allowed).point_lent

pub add_open-requires : goal.add_open-requires
add_open-requires c = (room (goal.at.add_open-requires c).In_ok-allowed).room

pub returns : goal.returns
returns c =
    let x = c.args.self.now in
    let a = x.open_count * x.places in
    let d = core c.args.design.now in
    let points = c.args.points.now in
    let opened = c.args.opened.now in
    let state = c.write_start.new.state in
    let key = c.in_ok-key.key in
    let adds = c.add_open.ensures.adds in
    let none = sym c.in_ok-allowed.ensures in
    let r = room (goal.at.returns c).In_ok-allowed in
    let whole : a + x.places - a ≡ x.places = omega arith in
    let long : length state ≡ x.places =
    c.write_start.auto.state ∙ (length-take-le (a + x.places - a) (drop a opened) (omega (arith, length-drop a opened, r.stretch_lent)) ∙ whole) in
    let as_many = length_put x.places x.open_count a (a + x.places - a) opened state refl whole long r.stretch_lent in (
      none,
      refl,
      started_view d c.args.number x c.add_open.new.self points opened c.args.kept.now c.args.scratch.now c.fill.new.self state key a (a + x.places - a)
          adds c.add_open.ensures.number r.point_lent c.add_open.ensures.slot refl whole long (omega (arith, r.stretch_lent)) c.in_ok-key.ensures.1 c.in_ok-key.ensures.0,
      record {
        lengths = adds.lengths;
        other_points = drop-set-lt c.add_open.new.self.point_count points x.point_count (start_record key) (omega (arith, adds.more_points));
        as_many_open = as_many;
        other_kept = refl;
        scratch_unknown = search rules;
      },
    )
