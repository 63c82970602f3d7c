use Rattle.rules.specs.Covers.{whole_from}
use Rattle.rules.proofs.words.WholeWordsRule.merge.Goals as goal

pub returns : goal.returns
returns g c =
    whole_from (g.R.Rule.meaning c.args.self.now.rule) c.args.kept.now c.args.state.now c.merge.new.state c.make_whole.new.state
    c.args.nets c.args.count c.merge.ensures c.make_whole.ensures
