use Rattle.std.proofs.Common.{◌≡◌, ℕ, ap, ◌∙◌, sym, subst, subst₂}
use Rattle.levels.specs.declared.Tri.{Tri}
use Rattle.model.specs.Core.{Core}
use Rattle.record.specs.Record.{Meaning}
use Rattle.explore.specs.Calls.{Walks}
use Rattle.explore.specs.declared.answers.Ending.{Ending as LibraryEnding}
use Rattle.design.specs.Views.{core}
use Rattle.beside.specs.declared.answer.Answer.TheVariants as answer
use Rattle.beside.specs.declared.answer.Ending.{Ending}
use Rattle.beside.specs.declared.bench.Bench.{Bench}
use Rattle.beside.specs.Lent.{held}
use Rattle.beside.specs.Rules.{meaning_of}
use Rattle.beside.proofs.bench.Bench.walk.Goals as goal
use Rattle.beside.proofs.bench.Bench.walk.Goals.{in-Plain, in-Eager, in-Words, in-EagerWords, in-EagerWordsTwice}

-- a walk by a rule of the library is one under the rule of its name
under : (d : Core) (budget : ℕ) (before after after′ : Bench) (meaning meaning′ : Meaning Tri) (answer answer′ : ℕ × LibraryEnding)
    → meaning ≡ meaning′ → after ≡ after′ → answer ≡ answer′
    → Walks d meaning′ budget (held before) (held after′) answer′ → Walks d meaning budget (held before) (held after) answer
under d budget before after after′ meaning meaning′ answer answer′ em ea er walked =
    subst (λ (m : Meaning Tri). Walks d m budget (held before) (held after) answer) (sym em)
    (subst₂ (λ (b : Bench) (r : ℕ × LibraryEnding). Walks d meaning′ budget (held before) (held b) r) (sym ea) (sym er) walked)

pub returns-clause-walked : goal.returns-clause-walked
returns-clause-walked g c =
    let walked : Walks (core c.args.design.now) (meaning_of c.into.result) c.args.budget (held c.args.self.now) (held c.match-into.self) c.match-into.from
    = elim c.match-into.branch [
      | in-Plain w ↦ under (core c.args.design.now) c.args.budget c.args.self.now _ _ _ _ _ _ (ap meaning_of w.in-Plain.is) w.self-is w.from-is w.walk_by.ensures.walked
      | in-Eager w ↦ under (core c.args.design.now) c.args.budget c.args.self.now _ _ _ _ _ _ (ap meaning_of w.in-Eager.is) w.self-is w.from-is w.walk_by-in-Eager.ensures.walked
      | in-Words w ↦ under (core c.args.design.now) c.args.budget c.args.self.now _ _ _ _ _ _ (ap meaning_of w.in-Words.is) w.self-is w.from-is w.walk_by-in-Words.ensures.walked
      | in-EagerWords w ↦ under (core c.args.design.now) c.args.budget c.args.self.now _ _ _ _ _ _ (ap meaning_of w.in-EagerWords.is) w.self-is w.from-is w.walk_by-in-EagerWords.ensures.walked
      | in-EagerWordsTwice w ↦ under (core c.args.design.now) c.args.budget c.args.self.now _ _ _ _ _ _ (ap meaning_of w.in-EagerWordsTwice.is) w.self-is w.from-is w.walk_by-in-EagerWordsTwice.ensures.walked
    ] in
    (c.into.result, c.into.ensures, (c.match-into.from, walked, c.from.ensures.2 ∙ ap (λ (e : Ending). answer.Walked c.match-into.from.0 e) c.from.ensures.1))
