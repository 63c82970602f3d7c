use Rattle.std.proofs.Common.{◌≡◌, ℕ, ◌+◌, ◌-◌, ◌*◌, true, length, drop, Some, sym, ap, ◌∙◌, subst, arith, rules}
use Rattle.std.proofs.lemmas.List.{length-drop}
use Rattle.std.specs.Iterator.Adapters.{enumerate_count}
use Rattle.bundle.specs.declared.refusal.Fault.TheVariants as fault
use Rattle.bundle.specs.Format.{ask_each, refused_at}
use Rattle.bundle.proofs.Asked.{Left, asked_more, asked_bad}
use Rattle.player.specs.Lines.{line_whole, line_count}
use Rattle.player.proofs.Read.{asked_yes, asked_no, chunk_whole, line_taken, lines_counted}
use Rattle.player.proofs.lines.check_lines.Goals as goal

pub loop-number-preserved : goal.loop-number-preserved
loop-number-preserved c =
    let inputs = c.args.inputs in
    let text = c.args.text.now in
    let n = enumerate_count c.loop-number.number-iterator in
    let s = c.in-Some.ensures.steps in
    let inv = c.loop-number.invariant in
    let taken = line_taken inputs n _ text _ c.in-Some.line.now _ s.0.1.0 s.0.1.1 s.0.1.2 inv.1 inv.2 in
    let good : line_whole inputs text n ≡ true =
    sym (chunk_whole inputs text n c.in-Some.line.now taken.1) ∙ sym c.is_whole.ensures
    ∙ asked_yes c.is_whole.result fault.Lines c.in-Some.number c.in_ok-ask_at.ensures in
    let more = asked_more (line_whole inputs text) fault.Lines n (line_count inputs text) taken.0 good inv.0 in (
      subst (λ (k : ℕ). Left (line_whole inputs text) fault.Lines (line_count inputs text) k) (sym s.2) more,
      s.0.0 ∙ inv.1,
      taken.2 ∙ ap (λ (k : ℕ). drop (k * (inputs + 1)) text) (sym s.2),
    )

pub returns-in_err-ask_at : goal.returns-in_err-ask_at
returns-in_err-ask_at c =
    let inputs = c.args.inputs in
    let text = c.args.text.now in
    let n = enumerate_count c.loop-number.number-iterator in
    let s = c.in-Some.ensures.steps in
    let inv = c.loop-number.invariant in
    let taken = line_taken inputs n _ text _ c.in-Some.line.now _ s.0.1.0 s.0.1.1 s.0.1.2 inv.1 inv.2 in
    let no = asked_no c.is_whole.result fault.Lines c.in-Some.number c.in_err-ask_at.field-0.0 c.in_err-ask_at.ensures in
    let bad = asked_bad (line_whole inputs text) fault.Lines n (line_count inputs text) taken.0
    (sym (chunk_whole inputs text n c.in-Some.line.now taken.1) ∙ sym c.is_whole.ensures ∙ no.0) inv.0 in
    let e = no.1 ∙ ap (λ (k : ℕ). Some (refused_at fault.Lines k)) s.1 ∙ sym bad in
    search rules

pub returns : goal.returns
returns c =
    let n = enumerate_count c.loop-number.number-iterator in
    let size = c.args.inputs + 1 in
    let inv = c.loop-number.invariant in
    let none : length c.args.text.now - n * size ≡ 0 =
    omega (arith, c.in-None.ensures.steps.0.1.0, ap length inv.2, length-drop (n * size) c.args.text.now) in
    let done = lines_counted (length c.args.text.now) size n (omega arith) none in
    let zero : line_count c.args.inputs c.args.text.now - n ≡ 0 = omega arith in
    sym (inv.0 ∙ ap (ask_each (line_whole c.args.inputs c.args.text.now) fault.Lines n) zero)
