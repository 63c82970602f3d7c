use Rattle.std.proofs.Common.{subst}
use Rattle.model.specs.Core.{Core}
use Rattle.bounder.specs.Bound.{NoRunDrawsMore}
use Rattle.bounder.proofs.program.explore_tag.Goals as goal

pub returns : goal.returns
returns c =
    subst (λ (d : Core). NoRunDrawsMore d c.in_ok-head.head) c.in_ok-read_design.ensures.tables c.in_ok-head.ensures.no_run_draws_more
