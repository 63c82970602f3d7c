use Rattle.std.proofs.Common.{◌∙◌}
use Rattle.design.specs.Views.{core}
use Rattle.successors.proofs.ConstantLemmas.{restored_all}
use Rattle.engine.proofs.Asked.{asked_same}
use Rattle.successors.proofs.SuccessorLemmas.{pilots_within}
use Rattle.successors.proofs.restoring.restore.Goals as goal

pub set_pilots-requires : goal.set_pilots-requires
set_pilots-requires g c =
    pilots_within (core c.args.design.now) c.args.design.now.sound _ c.pilots.ensures c.args.state.now
    (asked_same _ _ _ c.in_ok-ask.ensures ∙ c.places.ensures)

pub returns : goal.returns
returns g c =
    let d = core c.args.design.now in (
      asked_same _ _ _ c.in_ok-ask.ensures ∙ c.places.ensures,
      restored_all g.V.Level.kind d c.pilots.result.now c.nets.result.now c.args.key c.args.state.now c.set_pilots.new.state
          c.set_constants.new.state c.pilots.ensures c.nets.ensures c.set_pilots.ensures (c.set_constants.ensures d),
    )
