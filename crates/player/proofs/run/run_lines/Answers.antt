use Rattle.std.proofs.Common.{◌≡◌, ℕ, ◌-◌, ◌%◌, true, false, List, sym, refl, ap, ◌∙◌, subst, arith, rules}
use Rattle.levels.specs.Bits.{bit_kind}
use Rattle.model.specs.Core.{tally, is_input, inputs}
use Rattle.model.specs.Cycle.{halted}
use Rattle.design.specs.Views.{core}
use Rattle.player.specs.declared.run.Cycle.{Cycle}
use Rattle.player.specs.Lines.{line_bytes}
use Rattle.player.specs.Run.{cycle_of, cycles_from, state_from, Ran}
use Rattle.player.proofs.Runs.{running_none, running_more, ran_from, stops, odd_halts, even_goes, room_parts}
use Rattle.player.proofs.run.run_lines.Goals as goal

pub loop-line-init : goal.loop-line-init
loop-line-init c = (
  running_none (core c.args.design.now) c.args.text.now c.args.lines c.args.buffers.now.state.now c.args.buffers.now.cycles.now,
  c.in_ok-shown.ensures,
  record { state = refl; scratch = refl; cycles = refl; state_length = refl; scratch_length = refl; cycles_length = refl },
)

pub returns-then-shown-eq1-clause-ran : goal.returns-then-shown-eq1-clause-ran
returns-then-shown-eq1-clause-ran c =
    let d = core c.args.design.now in
    let odd : halted bit_kind d c.loop-line.buffers.state.now ≡ true =
    odd_halts _ (ap (λ (k : ℕ). k % 2) (sym c.loop-line.invariant.1) ∙ c.if-shown-eq1.true) in
    let end = stops d c.args.text.now c.loop-line.line (c.args.lines - c.loop-line.line) c.loop-line.buffers.state.now odd in
    let room = room_parts d c.args.lines _ _ _ c.requires.fits in
    ran_from d c.args.text.now c.args.lines c.loop-line.line c.args.buffers.now.state.now c.loop-line.buffers.state.now
    c.args.buffers.now.cycles.now c.loop-line.buffers.cycles.now
    (omega (arith, room.2, c.loop-line.invariant.2.cycles_length)) end.0 end.1 c.loop-line.invariant.0

pub step-requires-clause-scratch : goal.step-requires-clause-scratch
step-requires-clause-scratch c =
    let room = room_parts (core c.args.design.now) c.args.lines _ _ _ c.requires.fits in
    omega (arith, room.1, c.loop-line.invariant.2.scratch_length)

pub loop-line-preserved : goal.loop-line-preserved
loop-line-preserved c =
    let d = core c.args.design.now in
    let room = room_parts d c.args.lines _ _ _ c.requires.fits in
    let even : halted bit_kind d c.loop-line.buffers.state.now ≡ false =
    even_goes _ (λ e. c.if-shown-eq1.false (ap (λ k. k % 2) c.loop-line.invariant.1 ∙ e)) in
    let after = c.in_ok-cycle.ensures in
    let line : c.line_of.result.now ≡ line_bytes (inputs d) c.args.text.now c.loop-line.line =
    c.line_of.ensures.value
    ∙ ap (λ (n : ℕ). line_bytes n c.args.text.now c.loop-line.line) (c.count_inputs-inputs.ensures ∙ ap (tally is_input) c.nets.ensures) in (
      running_more d c.args.text.now c.args.lines c.loop-line.line c.args.buffers.now.state.now c.loop-line.buffers.state.now c.step.new.state
          c.args.buffers.now.cycles.now c.loop-line.buffers.cycles.now c.in_ok-cycle.cycle c.loop-line-test.true
          (omega (arith, room.2, c.loop-line.invariant.2.cycles_length)) even
          (after.0 ∙ ap (λ (bs : List ℕ). cycle_of d bs c.loop-line.buffers.state.now) line) after.1 c.loop-line.invariant.0,
      ap (λ (x : Cycle). x.key) after.1,
      search rules,
    )

pub returns-clause-ran : goal.returns-clause-ran
returns-clause-ran c =
    let d = core c.args.design.now in
    let room = room_parts d c.args.lines _ _ _ c.requires.fits in
    let none : c.args.lines - c.loop-line.line ≡ 0 = omega arith in
    let same : c.loop-line.line ≡ c.args.lines = omega arith in
    subst (λ (n : ℕ). Ran d c.args.text.now c.args.lines c.args.buffers.now.state.now n c.loop-line.buffers.state.now c.args.buffers.now.cycles.now c.loop-line.buffers.cycles.now) same
    (ran_from d c.args.text.now c.args.lines c.loop-line.line c.args.buffers.now.state.now c.loop-line.buffers.state.now
    c.args.buffers.now.cycles.now c.loop-line.buffers.cycles.now
    (omega (arith, room.2, c.loop-line.invariant.2.cycles_length))
    (ap (λ (k : ℕ). cycles_from d c.args.text.now c.loop-line.line k c.loop-line.buffers.state.now) none)
    (ap (λ (k : ℕ). state_from d c.args.text.now c.loop-line.line k c.loop-line.buffers.state.now) none)
    c.loop-line.invariant.0)
