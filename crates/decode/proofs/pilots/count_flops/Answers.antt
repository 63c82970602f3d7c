use Rattle.std.proofs.Common.{rules}
use Rattle.model.specs.Core.{is_flop}
use Rattle.model.proofs.Tallies.{tally-count_by}
use Rattle.decode.proofs.pilots.count_flops.Goals as goal

pub returns : goal.returns
returns c = rw (tally-count_by is_flop c.args.nets.now) (search rules)
