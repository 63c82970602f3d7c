use Rattle.std.proofs.Common.{ℕ, ◌+◌, ◌/◌, List, get_or, drop, set, sym, ap, ◌∙◌}
use Rattle.std.proofs.lemmas.List.{at_drop_all}
use Rattle.record.specs.Record.{keyed}
use Rattle.successors.proofs.PilotLemmas.{keyed_more}
use Rattle.successors.proofs.pilots.set_pilots.Goals as goal

pub loop-pilot-preserved : goal.loop-pilot-preserved
loop-pilot-preserved g c =
    let k = g.V.Level.kind in
    let ps = c.args.pilots.now in
    let i = c.loop-pilot.pilot-index in
    ap (λ v. keyed k (drop (i + 1) ps) (c.loop-pilot.bits / 2) (set c.loop-pilot.state (get_or ps i 0) v)) c.of_bit.ensures
    ∙ (keyed_more k ps i c.loop-pilot.bits c.loop-pilot.state c.loop-pilot-test.true ∙ c.loop-pilot.invariant)

pub returns : goal.returns
returns g c =
    sym (at_drop_all (λ (ps : List ℕ). keyed g.V.Level.kind ps c.loop-pilot.bits c.loop-pilot.state) c.args.pilots.now
    c.loop-pilot.pilot-index c.loop-pilot-test.false)
    ∙ c.loop-pilot.invariant
