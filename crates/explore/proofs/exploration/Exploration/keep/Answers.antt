use Rattle.std.proofs.Common.{◌≡◌, ℕ, ◌+◌, ◌*◌, ◌<◌, ◌≤◌, length, sym, refl, ap, arith, rules}
use Rattle.explore.specs.declared.plan.Plan.{Plan}
use Rattle.explore.specs.Steps.{entries_after, replaced_by}
use Rattle.explore.proofs.Entries.{kept_add, kept_replace, replaced_inside}
use Rattle.explore.proofs.Facts.{replaced_set, entered_none}
use Rattle.explore.proofs.exploration.Exploration.keep.Goals as goal

pub invariant_of-self : goal.invariant_of-self
invariant_of-self c =
    let x = c.args.self.now in
    let n = x.entry_count in
    let after : entries_after c.args.plan n ≡ n + 1 = ap (λ (q : Plan). entries_after q n) c.in-Add.is in
    let room : n < length x.entries = let few : n < 256 = omega (arith, c.requires.few) in search rules in
    record {
      some_places = x.some_places;
      few_points = x.few_points;
      points_inside = x.points_inside;
      few_open = x.few_open;
      open_inside = x.open_inside;
      few_entries = omega (arith, c.requires.few);
      entries_inside = omega (arith, ap (λ (m : ℕ). m * x.places) after, c.requires.inside);
      numbers_used = x.numbers_used;
      scratch_inside = x.scratch_inside;
      open_used = x.open_used;
      few_replaced = replaced_set x.entries n _ n (n + 1) x.open_count x.point_count room (omega (arith, x.open_used)) (λ i h other. omega arith) x.few_replaced;
    }

pub keep_state-requires-in-Replace : goal.keep_state-requires-in-Replace
keep_state-requires-in-Replace c =
    let x = c.args.self.now in
    let inside = replaced_inside c.args.plan c.in-Replace.entry c.in-Replace.count x.entry_count x.places x.kept_length c.in-Replace.is c.requires.used c.requires.inside in
    omega (arith, ap (λ (m : ℕ). c.in-Replace.entry * m) c.requires.state, c.requires.state, c.requires.kept, inside.2)

pub invariant_of-self-in-Replace : goal.invariant_of-self-in-Replace
invariant_of-self-in-Replace c =
    let x = c.args.self.now in
    let n = x.entry_count in
    let i = c.in-Replace.entry in
    let inside = replaced_inside c.args.plan i c.in-Replace.count n x.places x.kept_length c.in-Replace.is c.requires.used c.requires.inside in
    let room : i < length x.entries = let few : i < 256 = omega (arith, x.few_entries, inside.0) in search rules in
    let replaced : replaced_by c.args.plan ≡ c.in-Replace.count = ap replaced_by c.in-Replace.is in
    record {
      some_places = x.some_places;
      few_points = x.few_points;
      points_inside = x.points_inside;
      few_open = x.few_open;
      open_inside = x.open_inside;
      few_entries = x.few_entries;
      entries_inside = x.entries_inside;
      numbers_used = x.numbers_used;
      scratch_inside = x.scratch_inside;
      open_used = x.open_used;
      few_replaced = replaced_set x.entries i _ n n x.open_count x.point_count room (omega (arith, c.requires.replaced)) (λ j h other. h) x.few_replaced;
    }

pub returns-in-Add : goal.returns-in-Add
returns-in-Add c d =
    let x = c.args.self.now in
    let n = x.entry_count in
    let after : entries_after c.args.plan n ≡ n + 1 = ap (λ (q : Plan). entries_after q n) c.in-Add.is in
    let room : n < length x.entries = let few : n < 256 = omega (arith, c.requires.few) in search rules in
    record {
      lengths = record { same_places = refl; same_point_length = refl; same_open_length = refl; same_kept_length = refl; same_scratch_length = refl };
      same_points = refl;
      same_open = refl;
      same_numbers = refl;
      more_entries = sym after;
      written = kept_add d c.args.key c.args.point c.args.state.now x.places c.requires.state x.entries c.args.kept.now n c.args.plan c.keep_state.new.kept
          c.in-Add.is room (omega (arith, ap (λ (m : ℕ). m * x.places) after, c.requires.inside, c.requires.kept)) c.keep_state.ensures;
    }

pub returns-in-Replace : goal.returns-in-Replace
returns-in-Replace c d =
    let x = c.args.self.now in
    let n = x.entry_count in
    let i = c.in-Replace.entry in
    let inside = replaced_inside c.args.plan i c.in-Replace.count n x.places x.kept_length c.in-Replace.is c.requires.used c.requires.inside in
    let room : n ≤ length x.entries = let few = x.few_entries in search rules in
    record {
      lengths = record { same_places = refl; same_point_length = refl; same_open_length = refl; same_kept_length = refl; same_scratch_length = refl };
      same_points = refl;
      same_open = refl;
      same_numbers = refl;
      more_entries = sym (ap (λ (q : Plan). entries_after q n) c.in-Replace.is);
      written = kept_replace d c.args.key c.args.point c.args.state.now x.places c.requires.state x.entries c.args.kept.now n c.args.plan i c.in-Replace.count
          c.keep_state-in-Replace.new.kept c.in-Replace.is inside.0 room (omega (arith, c.requires.kept, inside.1)) c.keep_state-in-Replace.ensures;
    }

pub returns-in_default : goal.returns-in_default
returns-in_default c d =
    entered_none d c.args.plan c.args.key c.args.point c.args.state.now c.args.self.now c.args.kept.now c.in_default.not-Add c.in_default.not-Replace
