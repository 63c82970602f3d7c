use Rattle.std.proofs.Common.{◌≡◌, ℕ, ◌+◌, ◌*◌, ◌%◌, ◌^◌, ◌<◌, Bool, true, cond, List, get_or, drop, sym, ap, ◌∙◌, ap₂, arith}
use Rattle.std.proofs.lemmas.List.{at_drop_all}
use Rattle.model.specs.Cycle.{at}
use Rattle.record.specs.Record.{is_unknown, choice_key}
use Rattle.engine.proofs.Keying.{weighed}
use Rattle.successors.proofs.PilotLemmas.{weigh_more, split_more, known_more}
use Rattle.successors.proofs.pilots.choice_key.Given as given
use Rattle.successors.proofs.pilots.choice_key.Goals.{then-is_unknown, else-is_unknown}
use Rattle.successors.proofs.pilots.choice_key.Goals as goal

-- one turn
abbrev Turn : (g : given.Over) → goal.After-from g → ℕ → Type 0
Turn g c b =
    (c.loop-i.key + b < 65536) × (c.loop-i.key + b < 2 ^ (c.loop-i.i + 1))
    × (c.loop-i.key + b + 2 ^ (c.loop-i.i + 1) * choice_key g.V.Level.kind (drop (c.loop-i.i + 1) c.args.pilots.now) c.args.state.now c.if-is_unknown.bits
    ≡ choice_key g.V.Level.kind c.args.pilots.now c.args.state.now c.args.choice)

turn : (g : given.Over) (c : goal.After-from g) → Turn g c ((c.from.result * 2 ^ c.loop-i.i) % 65536)
turn g c =
    let k = g.V.Level.kind in
    let ps = c.args.pilots.now in
    let s = c.args.state.now in
    let i = c.loop-i.i in
    let on = c.if-is_unknown.bit in
    let next = c.if-is_unknown.bits in
    let few : i < 16 = omega (arith, c.requires.few, c.loop-i-test.true) in
    let level : c.level_at-level.result ≡ at k s (get_or ps i 0) = c.level_at-level.ensures in
    let known : c.is_unknown.result ≡ is_unknown k (at k s (get_or ps i 0)) = c.is_unknown.ensures ∙ ap (is_unknown k) level in
    let step : choice_key k (drop i ps) s c.loop-i.bits ≡ cond on 1 0 + 2 * choice_key k (drop (i + 1) ps) s next =
    elim c.if-is_unknown.branch [
      | then-is_unknown w ↦
          split_more k ps i s c.loop-i.bits c.loop-i-test.true (sym known ∙ w.if-is_unknown.true)
          ∙ ap₂ (λ (b : Bool) (j : ℕ). cond b 1 0 + 2 * choice_key k (drop (i + 1) ps) s j) (sym w.bit-is) (sym w.bits-is)
      | else-is_unknown w ↦
          known_more k ps i s c.loop-i.bits c.loop-i-test.true (sym known ∙ w.if-is_unknown.false)
          ∙ ap₂ (λ (b : Bool) (j : ℕ). cond b 1 0 + 2 * choice_key k (drop (i + 1) ps) s j)
          (sym (w.bit-is ∙ c.allows-bit.ensures ∙ ap (λ v. k.allows v true) level)) (sym w.bits-is)
    ] in
    weigh_more on i c.loop-i.key _ _ _ _ few c.loop-i.invariant.0
    (ap (λ (n : ℕ). (n * 2 ^ i) % 65536) c.from.ensures ∙ weighed on i few) step c.loop-i.invariant.1

pub overflow_add-key : goal.overflow_add-key
overflow_add-key g c = record { fits = (turn g c).0 }

pub loop-i-preserved : goal.loop-i-preserved
loop-i-preserved g c = ((turn g c).1, (turn g c).2)

pub returns : goal.returns
returns g c =
    let k = g.V.Level.kind in
    let done : choice_key k (drop c.loop-i.i c.args.pilots.now) c.args.state.now c.loop-i.bits ≡ 0 =
    at_drop_all (λ (ps : List ℕ). choice_key k ps c.args.state.now c.loop-i.bits) c.args.pilots.now c.loop-i.i c.loop-i-test.false in
    omega (arith, c.loop-i.invariant.1, ap (λ (n : ℕ). 2 ^ c.loop-i.i * n) done)
