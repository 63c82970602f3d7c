use Rattle.std.proofs.Common.{rules, tests, ◌≡◌, ◌≤◌, ◌-◌, ℕ, List, map, take, length, eqb-true, ap, ap₂, ◌∙◌, subst₂, arith}
use Rattle.std.specs.Bool.{Decides}
use Rattle.std.proofs.lemmas.List.{length-map}
use Rattle.std.proofs.lemmas.Iterator.{YieldsList-from_slice, YieldsList-from_zip, YieldsList-from_map, same_from_all}
use Rattle.std.proofs.lemmas.Iterator.Consumers.{YieldsList-at}
use Rattle.record.specs.declared.point.Point.{Point}
use Rattle.slow.specs.declared.record.Point.{Point as SlowPoint}
use Rattle.beside.specs.Sides.{slow_point}
use Rattle.beside.proofs.Sides.{points_told, other_count}
use Rattle.beside.proofs.pair.Pair.same_points.Goals as goal

pub returns-then-count-len : goal.returns-then-count-len
returns-then-count-len c =
    let points : List Point = c.in-Some.points.now in
    let others : List SlowPoint = c.deref-then-count-len.result.now in
    let count = c.args.self.now.bench.exploration.point_count in
    let all : List Point = c.args.self.now.bench.memory.points.items in
    let read = c.in-Some.ensures.lookup.0 in
    let counted = c.point_count-count.ensures in
    let few : count ≤ length all = omega (arith, read.1, counted, ap length c.deref.ensures.value) in
    let places : c.point_count-count.result - 0 ≡ count = omega (arith, counted) in
    let front : points ≡ take count all = read.2 ∙ ap₂ (λ (n : ℕ) (xs : List Point). take n xs) places c.deref.ensures.value in
    let told = same_from_all c.all.new.self _ c.all.result (map slow_point points) others c.all.ensures.ran
    (YieldsList-from_zip (YieldsList-at c.zip.ensures.first (YieldsList-from_map _ slow_point
    (YieldsList-at c.map.ensures.source (YieldsList-from_slice points cc)) c.map.ensures.closure (λ p r h m. search rules)))
    (YieldsList-at c.zip.ensures.second (YieldsList-from_slice others cc)))
    (length-map points slow_point ∙ omega (arith, read.3, c.if-count-len.true, c.len.ensures, ap length c.deref-then-count-len.ensures.value))
    (λ x q k. search (rules, tests)) (λ x q k. search (rules, tests)) in
    points_told count all c.args.self.now.record.points.items c.all.result few
    (subst₂ (λ (front : List Point) (others : List SlowPoint). Decides c.all.result (map slow_point front ≡ others)) front c.deref-then-count-len.ensures.value told)

pub returns-else-count-len : goal.returns-else-count-len
returns-else-count-len c = (
  (λ t. absurd (c.if-count-len.false (eqb-true _ _ t))),
  λ same. absurd (other_count _ _ _ (λ e. c.if-count-len.false (omega (arith, e, c.point_count-count.ensures, c.len.ensures, c.args.self.now.record.points.ok.0))) same),
)
