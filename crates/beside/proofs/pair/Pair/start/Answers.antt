use Rattle.std.proofs.Common.{rules, ◌≡◌, ◌++◌, [], append-nil, ap, ◌∙◌, sym, subst}
use Rattle.beside.specs.declared.bench.Bench.{Bench}
use Rattle.design.specs.Views.{core}
use Rattle.explore.specs.Memory.{Memory as Held}
use Rattle.explore.specs.Calls.{Starts}
use Rattle.beside.specs.declared.answer.Answer.{Answer}
use Rattle.beside.specs.declared.answer.Answer.TheVariants.{Value, Refused}
use Rattle.beside.specs.declared.answer.Refusal.{Refusal}
use Rattle.beside.specs.Lent.{held, Unlent, taken}
use Rattle.beside.proofs.Parts.{first_ones, if_ok}
use Rattle.beside.proofs.pair.Pair.start.Goals as goal
use Rattle.beside.proofs.pair.Pair.start.Goals.{in-Ok+in_ok-push, in_default}

pub returns-in_err-agree_on-clause-earlier : goal.returns-in_err-agree_on-clause-earlier
returns-in_err-agree_on-clause-earlier c = elim c.match-slow.branch [
  | in-Ok+in_ok-push w ↦ first_ones c.args.self.now.starts _ _ (ap (λ p. p.starts.items) w.self-is ∙ w.in_ok-push.ensures.items)
  | in_default w ↦ first_ones c.args.self.now.starts _ [] (ap (λ p. p.starts.items) w.self-is ∙ sym (append-nil _))
]

pub returns-clause-earlier : goal.returns-clause-earlier
returns-clause-earlier c = elim c.match-slow.branch [
  | in-Ok+in_ok-push w ↦ first_ones c.args.self.now.starts _ _ (ap (λ p. p.starts.items) w.self-is ∙ w.in_ok-push.ensures.items)
  | in_default w ↦ first_ones c.args.self.now.starts _ [] (ap (λ p. p.starts.items) w.self-is ∙ sym (append-nil _))
]

pub returns-clause-unlent : goal.returns-clause-unlent
returns-clause-unlent c =
    let same : c.match-slow.self.bench ≡ c.start-library.new.self = elim c.match-slow.branch [
      | in-Ok+in_ok-push w ↦ ap (λ p. p.bench) w.self-is
      | in_default w ↦ ap (λ p. p.bench) w.self-is
    ] in
    subst (λ (b : Bench). Unlent c.args.self.now.bench.memory b.memory) (sym same) c.start-library.ensures.unlent

pub returns-clause-library : goal.returns-clause-library
returns-clause-library c =
    let told = c.start-library.ensures.started in
    let agree : c.start-library.result ≡ c.from-slow.result = search rules in
    let same : held c.match-slow.self.bench ≡ held c.start-library.new.self = elim c.match-slow.branch [
      | in-Ok+in_ok-push w ↦ ap (λ p. held p.bench) w.self-is
      | in_default w ↦ ap (λ p. held p.bench) w.self-is
    ] in
    let starts : c.match-slow.self.starts.items ≡ c.args.self.now.starts.items ++ taken c.args.number c.start-library.result = elim c.match-slow.branch [
      | in-Ok+in_ok-push w ↦ let value : c.from-slow.result ≡ Value w.in-Ok.point = search rules in
          ap (λ p. p.starts.items) w.self-is ∙ w.in_ok-push.ensures.items ∙ ap (λ (a : Answer). c.args.self.now.starts.items ++ taken c.args.number a) (sym (agree ∙ value))
      | in_default w ↦ let refused : (r : Refusal) × (c.from-slow.result ≡ Refused r) = search rules in
          ap (λ p. p.starts.items) w.self-is ∙ sym (append-nil _) ∙ ap (λ (a : Answer). c.args.self.now.starts.items ++ taken c.args.number a) (sym (agree ∙ refused.1))
    ] in
    if_ok c.compare.result (c.start-library.result, (told.0, subst (λ (m : Held). Starts (core c.args.self.now.design.now) c.args.number (held c.args.self.now.bench) m told.0) (sym same) told.1, told.2), starts)
