use Rattle.std.proofs.Common.{◌≡◌, ℕ, ◌+◌, sym, refl, ◌∙◌, subst, arith, rules}
use Rattle.std.proofs.lemmas.Nat.{mul-le}
use Rattle.design.specs.declared.design.Design.{Design}
use Rattle.design.specs.Views.{core}
use Rattle.explore.specs.Memory.{Adds}
use Rattle.explore.specs.Holding.{Edged}
use Rattle.explore.proofs.Facts.{adds_none, adds_one}
use Rattle.explore.proofs.Slices.{held_on}
use Rattle.explore.proofs.Successive.{pushed_none, pushed_next, pushed_all}
use Rattle.explore.proofs.held.Held.push_successors.Goals as goal

pub loop-choice-init : goal.loop-choice-init
loop-choice-init c =
    let h = c.args.self.now in
    let x = h.exploration.now in
    (adds_none x, pushed_none x.places h.points.now h.opened.now x.numbers x.point_count x.open_count, refl, search rules)

pub push_successor-requires : goal.push_successor-requires
push_successor-requires c =
    let x = c.args.self.now.exploration.now in
    let y = c.loop-choice.self.exploration.now in
    let adds = c.loop-choice.invariant.0 in
    let same = adds.lengths in
    record {
      edge = subst (λ (d : Design). Edged (core d) c.args.edge.now) (sym c.loop-choice.invariant.3.same_design) c.requires.edge;
      among = omega arith;
      room = record {
        few_points = omega (arith, adds.more_points, c.requires.room.few_points);
        points_inside = omega (arith, adds.more_points, same.same_point_length, c.requires.room.points_inside);
        few_open = omega (arith, adds.more_open, c.requires.room.few_open);
        open_inside = omega (
          arith,
          mul-le (y.open_count + 1) y.places (x.open_count + c.args.edge.now.count) x.places (omega (arith, adds.more_open)) (omega (arith, same.same_places)),
          same.same_open_length,
          c.requires.room.open_inside,
        );
      };
    }

pub loop-choice-preserved : goal.loop-choice-preserved
loop-choice-preserved c =
    let h = c.args.self.now in
    let l = c.loop-choice.self in
    let m = c.push_successor.new.self in
    let x = h.exploration.now in
    let y = l.exploration.now in
    let z = m.exploration.now in
    let current = c.args.edge.now.current.now in
    let adds = c.loop-choice.invariant.0 in
    let last = c.push_successor.ensures in (
      adds_one x y z c.loop-choice.choice adds last.adds,
      pushed_next x.places (core h.design.now) current c.args.from h.points.now l.points.now h.opened.now l.opened.now
          x.numbers y.numbers x.point_count x.open_count m.points.now m.opened.now
          z.numbers c.loop-choice.choice y.places y.point_count y.open_count (omega (arith, c.requires.edge.counted))
          adds.lengths.same_places adds.more_points adds.more_open c.loop-choice.invariant.1
          (rw c.loop-choice.invariant.3.same_design at last.pushed),
      last.kept ∙ c.loop-choice.invariant.2,
      held_on h l m c.loop-choice.invariant.3 last.same,
    )

pub returns : goal.returns
returns c =
    let h = c.args.self.now in
    let l = c.loop-choice.self in
    let x = h.exploration.now in
    let count = c.args.edge.now.count in
    let end : c.loop-choice.choice ≡ count = omega arith in
    record {
      adds = subst (λ (n : ℕ). Adds n x l.exploration.now) end c.loop-choice.invariant.0;
      pushed = pushed_all x.places (core h.design.now) c.args.edge.now.current.now c.args.from h.points.now l.points.now h.opened.now l.opened.now
          x.numbers l.exploration.now.numbers x.point_count x.open_count c.loop-choice.choice count end c.requires.edge.counted c.loop-choice.invariant.1;
      kept = c.loop-choice.invariant.2;
      same = c.loop-choice.invariant.3;
    }
