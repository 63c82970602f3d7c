use Rattle.std.proofs.Common.{◌≤◌, length, ◌∙◌, rules}
use Rattle.explore.proofs.Treating.{looked_at}
use Rattle.explore.proofs.exploration.Exploration.look_up.Goals as goal

pub returns : goal.returns
returns c d kept =
    let x = c.args.self.now in
    let few : x.entry_count ≤ length x.entries = let h = x.few_entries in search rules in
    c.place_of.ensures ∙ looked_at d c.args.key x.places x.entries kept x.entry_count few
