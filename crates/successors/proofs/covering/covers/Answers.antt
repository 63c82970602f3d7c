use Rattle.std.proofs.Common.{◌≡◌, sym, ◌∙◌, rules}
use Rattle.std.specs.List.{list_all, zip}
use Rattle.std.proofs.lemmas.Iterator.{YieldsList-from_slice, YieldsList-from_zip}
use Rattle.std.proofs.lemmas.Iterator.Search.{all_from_yields_List}
use Rattle.std.proofs.lemmas.Bool.{ne_eqb}
use Rattle.record.specs.Record.{covers}
use Rattle.successors.proofs.CoverLemmas.{covers_unequal, covers_zip}
use Rattle.successors.proofs.covering.covers.Goals as goal

pub returns-then-kept-state : goal.returns-then-kept-state
returns-then-kept-state g c =
    let k = g.V.Level.kind in
    let all : c.all.result ≡ list_all (λ p. covers k p.0 p.1) (zip c.args.kept.now c.args.state.now) =
    all_from_yields_List (λ p. covers k p.0 p.1) c.all.new.self _ c.all.result c.all.ensures.ran
    (YieldsList-from_zip (YieldsList-from_slice c.args.kept.now (cc)) (YieldsList-from_slice c.args.state.now (search rules))) (λ x b q h. search rules) in
    all ∙ covers_zip k c.args.kept.now c.args.state.now c.if-kept-state.true

pub returns-else-kept-state : goal.returns-else-kept-state
returns-else-kept-state g c =
    ne_eqb _ _ c.if-kept-state.false ∙ sym (covers_unequal g.V.Level.kind c.args.kept.now c.args.state.now c.if-kept-state.false)
