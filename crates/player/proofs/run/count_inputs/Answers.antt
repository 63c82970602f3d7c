use Rattle.std.proofs.Common.{rules}
use Rattle.model.specs.Core.{is_input}
use Rattle.model.proofs.Tallies.{tally-count_by}
use Rattle.player.proofs.run.count_inputs.Goals as goal

pub returns : goal.returns
returns c = rw (tally-count_by is_input c.args.nets.now) (search rules)
