use Rattle.std.proofs.Common.{◌≡◌, ℕ, ◌<◌, Bor, length, ap, ◌∙◌, arith, rules, count_by}
use Rattle.std.proofs.iter.runs.Made.{chains}
use Rattle.std.proofs.lemmas.List.{get_or_default}
use Rattle.std.proofs.lemmas.Iterator.{YieldsList-from_slice}
use Rattle.std.proofs.lemmas.Iterator.Adapters.{serves_from_places}
use Rattle.model.specs.Cycle.{at}
use Rattle.record.specs.Record.{is_unknown}
use Rattle.successors.proofs.PilotLemmas.{unknowns_counted}
use Rattle.successors.proofs.pilots.count_unknown.Goals as goal

pub count-requires-clause-can : goal.count-requires-clause-can
count-requires-clause-can g c =
    let ps = c.args.pilots.now in
    let s = c.args.state.now in
    let lent : c.filter.result.p.0.now ≡ s = ap (λ p. p.0.now) c.filter.ensures.closure in (
      tt,
      tt,
      serves_from_places (YieldsList-from_slice ps (cc)) (λ x q h. search rules)
          (λ x i h e. let within : x.now < length s = omega (arith, get_or_default ps i x.now 0 h, c.requires.within i h) in
          λ y m _ _ _ _ _ _ _ _. omega (arith, ap (λ (b : Bor ℕ). b.now) m, ap length lent)),
    )

pub returns-clause-value : goal.returns-clause-value
returns-clause-value g c =
    let k = g.V.Level.kind in
    let ps = c.args.pilots.now in
    let s = c.args.state.now in
    let counted : c.count.result ≡ count_by (λ p. is_unknown k (at k s p)) ps = search (rules, chains) in
    counted ∙ unknowns_counted k ps s
