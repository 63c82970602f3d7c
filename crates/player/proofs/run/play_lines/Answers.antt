use Rattle.std.proofs.Common.{◌≡◌, ℕ, ◌+◌, ◌*◌, ◌≤◌, length, None, sym, ap, ◌∙◌, subst, arith}
use Rattle.model.specs.Core.{tally, is_input, inputs}
use Rattle.design.specs.Views.{core}
use Rattle.bundle.specs.declared.refusal.Fault.TheVariants as fault
use Rattle.player.specs.Lines.{line_count, lines_refusal}
use Rattle.player.proofs.Read.{whole_lines, one_asked_yes}
use Rattle.player.proofs.Runs.{few_inputs, some_start, room_parts}
use Rattle.player.proofs.run.play_lines.Goals as goal

pub count_lines-lines-requires : goal.count_lines-lines-requires
count_lines-lines-requires c =
    omega (arith, few_inputs (core c.args.design.now) c.args.design.now.sound, c.count_inputs-inputs.ensures, ap (tally is_input) c.nets.ensures)

pub check_lines-requires : goal.check_lines-requires
check_lines-requires c =
    omega (arith, few_inputs (core c.args.design.now) c.args.design.now.sound, c.count_inputs-inputs.ensures, ap (tally is_input) c.nets.ensures)

pub returns-in_err-start-clause-run : goal.returns-in_err-start-clause-run
returns-in_err-start-clause-run c =
    let d = core c.args.design.now in
    let room = room_parts d c.count_lines-lines.result _ _ _ (sym c.fits.ensures ∙ one_asked_yes c.fits.result fault.Memory c.in_ok-ask.ensures) in
    absurd (c.in_err-start.ensures.0 room.0 (some_start d c.args.design.now.sound))

pub run_lines-requires-clause-text : goal.run_lines-requires-clause-text
run_lines-requires-clause-text c =
    let d = core c.args.design.now in
    let count = c.count_inputs-inputs.ensures ∙ ap (tally is_input) c.nets.ensures in
    let lines : c.count_lines-lines.result ≡ line_count (inputs d) c.args.text.now =
    c.count_lines-lines.ensures ∙ ap (λ (n : ℕ). line_count n c.args.text.now) count in
    let whole : lines_refusal (inputs d) c.args.text.now ≡ None =
    ap (λ (n : ℕ). lines_refusal n c.args.text.now) (sym count) ∙ sym c.in_ok-check_lines.ensures in
    subst (λ (n : ℕ). n * (inputs d + 1) ≤ length c.args.text.now) (sym lines) (whole_lines (inputs d) c.args.text.now whole)
