use Rattle.std.proofs.Common.{ℕ, ◌/◌, ◌^◌, eqb, ap}
use Rattle.std.proofs.lemmas.Nat.{and_mask}
use Rattle.engine.proofs.memory.bit_of.Goals as goal

pub returns : goal.returns
returns c = ap (λ (n : ℕ). eqb n 1) (and_mask (c.args.number / 2 ^ c.args.place) 1)
