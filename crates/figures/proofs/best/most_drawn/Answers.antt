use Rattle.std.proofs.Common.{unwrap_or, ap, ◌∙◌, rules, tests}
use Rattle.std.proofs.lemmas.Iterator.{YieldsList-from_slice, YieldsList-from_map}
use Rattle.std.proofs.lemmas.Iterator.Adapters.{serves_from_places}
use Rattle.std.proofs.lemmas.Iterator.Consumers.{YieldsList-at, YieldsList-from_enumerate, reduce_from_yields_List}
use Rattle.record.specs.Bounds.{greatest}
use Rattle.figures.proofs.Greatest.{greatest_max}
use Rattle.figures.proofs.BestRows.{drawn_on, most_at, named_at}
use Rattle.figures.proofs.best.most_drawn.Goals as goal

pub max-requires-clause-can : goal.max-requires-clause-can
max-requires-clause-can c =
    let ps = c.args.points.now in
    let road = YieldsList-at c.map.ensures.source (YieldsList-from_enumerate (YieldsList-from_slice ps cc) cc) in
    ((tt, tt, search rules), serves_from_places road (λ x q h. search (rules, tests)) (λ x k l e. let h = named_at ps c.requires.named c.args.best.now c.requires.best (x.0, x.1.now) k l e in search rules))

pub returns : goal.returns
returns c w best =
    let ps = c.args.points.now in
    let row = c.args.best.now in
    let road = YieldsList-at c.map.ensures.source (YieldsList-from_enumerate (YieldsList-from_slice ps cc) cc) in
    c.unwrap_or.ensures
    ∙ ap (λ o. unwrap_or o 0) (reduce_from_yields_List _ c.map.result _ c.max.ensures.ran
    (YieldsList-from_map _ (drawn_on row) road c.map.ensures.closure (λ x b q k. search (rules, tests))))
    ∙ greatest_max (drawn_on row) _
    ∙ ap greatest (most_at ps c.requires.named w row best)
