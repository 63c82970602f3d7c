use Rattle.std.proofs.Common.{◌+◌, ◌*◌, ◌≤◌, length, ◌∙◌, arith, rules}
use Rattle.explore.proofs.Treating.{stretch_inside, stretch_part}
use Rattle.explore.proofs.held.Held.copy_state.Goals as goal

pub slice_bounds-copy_from_slice-end : goal.slice_bounds-copy_from_slice-end
slice_bounds-copy_from_slice-end c =
    let held = c.args.self.now in
    let x = held.exploration.now in
    let inside = stretch_inside c.args.slot x.places x.open_count x.open_length c.requires.slot x.open_inside in
    let h : c.args.slot * x.places + x.places ≤ length held.opened.now = omega (arith, held.opened_fit) in
    search rules

pub returns : goal.returns
returns c =
    let held = c.args.self.now in
    c.copy_from_slice.ensures.after ∙ stretch_part c.args.slot held.exploration.now.places held.opened.now
