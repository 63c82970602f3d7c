use Rattle.std.proofs.Common.{ℕ, unwrap_or, ap, ◌∙◌, rules, tests}
use Rattle.std.proofs.lemmas.Iterator.{YieldsList-from_slice, YieldsList-from_map}
use Rattle.std.proofs.lemmas.Iterator.Consumers.{reduce_from_yields_List}
use Rattle.record.specs.declared.point.Point.{Point}
use Rattle.figures.proofs.Greatest.{greatest_max}
use Rattle.figures.proofs.charges.peak.Goals as goal

pub returns : goal.returns
returns c =
    let ps = c.args.points.now in
    let charge : Point → ℕ = λ p. p.charge in
    c.unwrap_or.ensures
    ∙ ap (λ o. unwrap_or o 0) (reduce_from_yields_List _ c.map.result _ c.max.ensures.ran
    (YieldsList-from_map _ charge (YieldsList-from_slice ps cc) c.map.ensures.closure (λ x b q k. search (rules, tests))))
    ∙ greatest_max charge ps
