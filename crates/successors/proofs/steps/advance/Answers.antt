use Rattle.std.proofs.Common.{◌∙◌}
use Rattle.design.specs.Views.{core}
use Rattle.successors.proofs.SuccessorLemmas.{pilots_few, pilots_within, successor_count}
use Rattle.successors.proofs.steps.advance.Goals as goal

pub count_unknown-requires : goal.count_unknown-requires
count_unknown-requires g c =
    let d = core c.args.design.now in
    let sound = c.args.design.now.sound in
    record {
      within = pilots_within d sound _ c.pilots.ensures c.edge.new.after
          (c.edge.auto.after ∙ c.in_ok-edge.ensures.cases.0.after_whole);
      few = pilots_few d sound _ c.pilots.ensures;
    }

pub returns : goal.returns
returns g c =
    let edged = c.in_ok-edge.ensures.cases in
    let count = successor_count g.V.Level.kind (core c.args.design.now) _ c.args.state.now c.edge.new.after c.count_unknown.result
    c.pilots.ensures edged.1 c.count_unknown.ensures.value c.count_unknown.ensures.bound in
    record { cases = (edged.0, edged.1, count.0); bound = count.1; leaves = c.in_ok-edge.ensures.leaves }
