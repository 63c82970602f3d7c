use Rattle.std.proofs.Common.{ℕ, take, arith}
use Rattle.model.specs.Core.{is_flop, tally}
use Rattle.decode.proofs.Steps.{map_read}
use Rattle.decode.proofs.starts.flop_places.Goals as goal

pub returns : goal.returns
returns c =
    map_read (λ (p : ℕ). tally is_flop (take p c.args.nets.now)) c.args.pilots.now c.loop-k.values (omega arith)
    (λ j h. c.loop-k.invariant.1 j (omega arith))
