use Rattle.std.proofs.Common.{◌≡◌, ap, ◌∙◌, sym, subst, subst₂}
use Rattle.design.specs.Views.{core}
use Rattle.explore.specs.Calls.{Walks}
use Rattle.beside.specs.declared.bench.Bench.{Bench}
use Rattle.beside.specs.declared.rule.Rule.{Rule}
use Rattle.beside.specs.Lent.{held, Unlent}
use Rattle.beside.specs.Rules.{rule_of, meaning_of}
use Rattle.beside.proofs.pair.Pair.walk.Goals as goal
use Rattle.beside.proofs.pair.Pair.walk.Goals.{in-Walked, in-Refused, in_default-matches, in_default}

pub returns-clause-library : goal.returns-clause-library
returns-clause-library g c =
    let told = c.walk-library.ensures.walked in
    let rule : told.0 ≡ rule_of c.into-number.result = told.1 ∙ c.from-rule.ensures in
    let same : c.match-library.self.bench ≡ c.walk-library.new.self = elim c.match-library.branch [
      | in-Walked w ↦ ap (λ p. p.bench) w.self-is
      | in_default w ↦ ap (λ p. p.bench) w.self-is
    ] in
    let library : c.match-library.library ≡ c.walk-library.result = elim c.match-library.branch [
      | in-Walked w ↦ w.library-is ∙ sym w.in-Walked.is
      | in_default w ↦ w.library-is
    ] in (
      c.into-number.result,
      c.into-number.ensures,
      (
        told.2.0,
        subst₂ (λ (r : Rule) (b : Bench). Walks (core c.args.self.now.design.now) (meaning_of r) c.args.budget (held c.args.self.now.bench) (held b) told.2.0) rule (sym same) told.2.1,
        library ∙ told.2.2,
      ),
    )

pub returns-clause-unlent : goal.returns-clause-unlent
returns-clause-unlent g c =
    let same : c.match-library.self.bench ≡ c.walk-library.new.self = elim c.match-library.branch [
      | in-Walked w ↦ ap (λ p. p.bench) w.self-is
      | in_default w ↦ ap (λ p. p.bench) w.self-is
    ] in
    subst (λ (b : Bench). Unlent c.args.self.now.bench.memory b.memory) (sym same) c.walk-library.ensures.unlent
