use Rattle.design.specs.Views.{core}
use Rattle.explore.specs.Memory.{memory_of}
use Rattle.explore.proofs.FigureLemmas.{peak_held}
use Rattle.explore.proofs.exploration.Exploration.peak.Goals as goal

pub used-requires : goal.used-requires
used-requires c =
    peak_held (core c.args.design.now) (memory_of c.args.self.now c.args.points.now c.args.opened.now c.args.kept.now c.args.scratch.now) c.fits-fits.result c.fits-fits.ensures c.in_ok-ask_done.ensures
