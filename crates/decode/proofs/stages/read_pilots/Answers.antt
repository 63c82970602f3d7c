use Rattle.std.proofs.Common.{◌≡◌, ℕ, ◌≤◌, true, List, length, Option, sym, ap, ◌∙◌, arith, rules, tests}
use Rattle.std.proofs.lemmas.Bool.{leb-true}
use Rattle.std.proofs.lemmas.Result.{IfOk-weaker}
use Rattle.bundle.specs.declared.refusal.Fault.TheVariants as fault
use Rattle.decode.specs.Words.{word_count}
use Rattle.decode.specs.Pilots.{pilot_read}
use Rattle.decode.proofs.Asking.{length_entries}
use Rattle.decode.proofs.Refusing.{asked_yes}
use Rattle.decode.proofs.stages.read_pilots.Goals as goal
use Rattle.decode.proofs.stages.read_pilots.Goals.{then-count-ge2, else-count-ge2}

pub returns-clause-mark : goal.returns-clause-mark
returns-clause-mark c =
    let n : ℕ = word_count c.args.bytes.now in
    let reads : ℕ → Option ℕ = pilot_read c.args.nets.now c.args.bytes.now in
    let y : c.if-count-ge2.ask ≡ true = asked_yes c.if-count-ge2.ask fault.Pilots c.in_ok-ask.ensures in
    let two : 2 ≤ n = elim c.if-count-ge2.branch [
      | then-count-ge2 w ↦ omega arith
      | else-count-ge2 w ↦ leb-true 2 n (sym w.ask-is ∙ y)
    ] in
    IfOk-weaker c.read_all.result _ _ (λ t e. omega (arith, ap (λ (xs : List ℕ). length xs) e, length_entries reads n 0)) (c.read_all.ensures.items reads 0 (record { each = λ i l o q. search (rules, tests) }))
