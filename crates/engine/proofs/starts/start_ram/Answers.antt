use Rattle.std.proofs.Common.{◌≡◌, ◌+◌, ◌*◌, ◌≤◌, length, ap, ◌∙◌, arith, length-drop}
use Rattle.design.specs.Views.{core}
use Rattle.engine.proofs.Starting.{below_word, ram_begun_word}
use Rattle.engine.proofs.starts.start_ram.Goals as goal

pub loop-number-preserved : goal.loop-number-preserved
loop-number-preserved g c =
    let k = g.V.Level.kind in
    let d = core c.args.design.now in
    let s = c.loop-number.state in
    let number = c.loop-number.number in
    let first = c.ram_place-first.result in
    let place : first ≡ length d.nets + 16 * number = omega (arith, c.ram_place-first.ensures.place) in
    let inside : first ≤ length s = omega (arith, c.ram_place-first.ensures.within) in
    let long : length c.start_word.new.levels ≡ 16 = omega (arith, c.start_word.auto.levels, length-drop first s) in
    record {
      nets = λ i h. below_word k s _ _ first inside long i (omega arith) ∙ c.loop-number.invariant.nets i h;
      words = ram_begun_word k s _ _ first inside long d number place c.ram-word-items.result.now c.ram-word-items.ensures _
          c.loop-number-test.true (c.start_word.ensures d) c.loop-number.invariant.words;
    }

pub returns : goal.returns
returns g c =
    record { nets = c.loop-number.invariant.nets; words = λ q h. c.loop-number.invariant.words q (omega (arith, ap length c.ram-word-items.ensures)) }
