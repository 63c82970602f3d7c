use Rattle.std.proofs.Common.{◌≡◌, ℕ, ◌<◌, ◌≤◌, true, length, sym, ◌∙◌, arith, rules}
use Rattle.bundle.specs.declared.refusal.Fault.TheVariants as fault
use Rattle.model.specs.Core.{is_flop}
use Rattle.decode.proofs.Refusing.{asked_yes}
use Rattle.model.proofs.Tallies.{tally_few}
use Rattle.decode.proofs.Steps.{starts_fit, whole_parts}
use Rattle.decode.proofs.stages.read_starts.Goals as goal

pub read_all-requires : goal.read_all-requires
read_all-requires c =
    let n : ℕ = length c.args.bytes.now in
    let f : ℕ = c.count_flops-flops.result in
    let y : c.whole_starts.result ≡ true = asked_yes c.whole_starts.result fault.Starts c.in_ok-ask.ensures in
    let w = whole_parts f n (sym c.whole_starts.ensures.whole ∙ y) in
    let some : 0 < f = c.whole_starts.ensures.some y in
    let room : n ≤ 32768 = omega (arith, tally_few is_flop c.args.nets.now, starts_fit n f w.0 w.2 (omega (arith, tally_few is_flop c.args.nets.now))) in
    search rules
