use Rattle.std.proofs.Common.{◌∙◌, arith}
use Rattle.design.specs.Views.{core}
use Rattle.model.specs.Cycle.{given_by}
use Rattle.engine.proofs.EdgeLemmas.{edge_all}
use Rattle.engine.proofs.state.State.edge.Goals as goal

pub returns : goal.returns
returns g c =
    let d = core c.args.self.now.design.now in
    edge_all g.V.Level.kind d c.args.self.now.levels.now c.edge_words.new.after (given_by g.V.Level.kind d c.args.line.now) (omega arith)
    (λ i h. c.edge_words.ensures.nets i h ∙ c.edge_nets.ensures i h) c.edge_words.ensures.ram
