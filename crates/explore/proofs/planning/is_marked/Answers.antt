use Rattle.std.proofs.Common.{ℕ, ◌<◌, true, length, get_or, ap, ◌∙◌, arith}
use Rattle.std.proofs.lemmas.List.{get_or_default}
use Rattle.levels.specs.declared.Tri.{Tri}
use Rattle.levels.specs.declared.Tri.TheVariants.{Zero, X}
use Rattle.levels.specs.Tris.{tri_allows}
use Rattle.design.specs.Views.{core}
use Rattle.model.proofs.Sound.{sound_parts}
use Rattle.explore.proofs.planning.is_marked.Goals as goal

pub bounds-state-mark : goal.bounds-state-mark
bounds-state-mark c = let d = core c.args.design.now in omega (arith, (sound_parts d c.args.design.now.sound).mark_net)

pub returns : goal.returns
returns c =
    let d = core c.args.design.now in
    let s = c.args.state.now in
    let inside : c.mark.result < length s = omega (arith, (sound_parts d c.args.design.now.sound).mark_net) in
    c.allows.ensures
    ∙ ap (λ (v : Tri). tri_allows v true) (get_or_default s c.mark.result Zero X inside ∙ ap (λ (i : ℕ). get_or s i X) c.mark.ensures)
