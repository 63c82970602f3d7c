use Rattle.std.proofs.Common.{◌≡◌, length, sym, refl, ap, ◌∙◌, arith, ltb-false}
use Rattle.std.proofs.lemmas.Bool.{eq-eqb, cond-true}
use Rattle.std.proofs.lemmas.Result.{err_from_is_err_and}
use Rattle.model.specs.Core.{places}
use Rattle.model.specs.Cycle.{settled}
use Rattle.design.specs.Views.{core}
use Rattle.engine.proofs.Asked.{asked_same, asked_below}
use Rattle.engine.proofs.Starting.{begun_all, start_refused}
use Rattle.engine.proofs.starts.start.Goals as goal

pub returns-in_err-ask-2 : goal.returns-in_err-ask-2
returns-in_err-ask-2 g c =
    let d = core c.args.design.now in
    let s = c.args.state.now in
    let exit = err_from_is_err_and c.from_residual-in_err-ask-2.result c.from_residual-in_err-ask-2.ensures.1 in
    let whole : length s ≡ places d = asked_same _ _ _ c.in_ok-ask.ensures ∙ c.places.ensures in
    let refused = start_refused _ _ c.in_err-ask-2.ensures in
    let late = ltb-false _ _ refused.0 in
    rw (exit.1, exit.2) (
      (λ e h. omega arith),
      refused.1 ∙ sym (cond-true _ _ _ (eq-eqb (length s) (places d) whole)),
      refl,
    )

pub returns : goal.returns
returns g c =
    let k = g.V.Level.kind in
    let d = core c.args.design.now in
    let s = c.args.state.now in
    let whole : length s ≡ places d = asked_same _ _ _ c.in_ok-ask.ensures ∙ c.places.ensures in
    let early = asked_below _ _ _ c.in_ok-ask-2.ensures in
    let all = begun_all k d c.args.number c.start_ram.new.state
    (omega (arith, c.start_ram.auto.state, c.start_nets.auto.state))
    (λ i h. c.start_ram.ensures.nets i h ∙ c.start_nets.ensures i h)
    c.start_ram.ensures.words in
    (whole, omega arith, c.settle_gates.ensures ∙ ap (settled k d) all)
