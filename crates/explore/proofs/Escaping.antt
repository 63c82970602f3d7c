-- No run escapes the record, whatever calls were made. Assumes nothing.
use Rattle.std.proofs.Common.{◌≡◌, ℕ, ◌<◌, ◌≤◌, true, ◌&&◌, eqb, ltb, leb, List, [], ◌∷◌, map, reverse, length, get_or, take, drop, Some, None, Ok, Err, sum, Option, Result, sym, ap, ◌∙◌, subst, inl, inr, ⊎_elim, arith, ltb-true}
use Rattle.std.specs.List.{range_with_len, ContainsAt as Has, AllByRecursion}
use Rattle.std.proofs.lemmas.List.{length-take-le, length-map, get_or-map}
use Rattle.std.proofs.lemmas.Bool.{eqb-true}
use Rattle.levels.specs.Bits.{bit_kind}
use Rattle.levels.specs.Tris.{tri_kind}
use Rattle.levels.specs.declared.Bit.{Bit}
use Rattle.levels.specs.declared.Tri.{Tri}
use Rattle.levels.specs.BitLaws.{bit_lawful}
use Rattle.levels.specs.TriLaws.{tri_lawful}
use Rattle.bundle.specs.declared.refusal.Refusal.{Refusal}
use Rattle.bundle.proofs.WholeFacts.{none_parts, ask_at_none}
use Rattle.explore.proofs.Answered.{whole_answered}
use Rattle.model.specs.Core.{Core, sound}
use Rattle.record.specs.declared.point.Point.{Point}
use Rattle.record.specs.Record.{Record, Meaning, started, start_count, treated, nowhere}
use Rattle.record.specs.Record as recorded
use Rattle.record.specs.Escape.{Reached, RuleCovers}
use Rattle.record.specs.Escape as reached
use Rattle.record.specs.Bounds.{peak, window, NoOpen, Bounded, IsWindow, draws}
use Rattle.record.proofs.Held.{no_run_escapes}
use Rattle.record.proofs.Bound.{no_run_draws_more, window_is_most, greatest_met, peak_bounds}
use Rattle.record.proofs.Wait.{none_open}
use Rattle.record.proofs.Fit.{tri_wide, bit_definite, rule_covers}
use Rattle.explore.specs.declared.answers.Ending.{Ending}
use Rattle.explore.specs.declared.exploration.Exploration.{Exploration}
use Rattle.explore.specs.Memory.{Lent, Memory, stretch, view, fits}
use Rattle.explore.specs.Calls.{cleared, used_points, New, Starts, start_refusal, Takes, Walks, WalksBy, walk_refusal, Peaks, peak_refusal, Windows, window_refusal, open_refusal}
use Rattle.explore.specs.Calls as calls
use Rattle.explore.specs.History.{History, RunsFrom, IsPeak, HoldsEveryRun, with_start, NoRunEscapesTheRecord}
use Rattle.explore.specs.History as history
use Rattle.explore.proofs.Fits.{fitting}

-- ---- questions that were not refused

peak_shut : (d : Core) (m : Memory) → peak_refusal d m ≡ None → open_refusal m.exploration ≡ None
peak_shut d m e =
    let fit = whole_answered (fits d m) _ _ e in
    let begun = whole_answered (ltb 0 m.exploration.point_count) _ _ fit.1 in
    (none_parts (open_refusal m.exploration) [] begun.1).0

window_shut : (d : Core) (m : Memory) (row other w : ℕ) → window_refusal d m row other w ≡ None → open_refusal m.exploration ≡ None
window_shut d m row other w e =
    let fit = whole_answered (fits d m && leb m.exploration.point_count row && leb m.exploration.point_count other) _ _ e in
    let begun = whole_answered (ltb 0 m.exploration.point_count) _ _ fit.1 in
    (none_parts (open_refusal m.exploration) _ begun.1).0

peak_is : (ps : List Point) → IsPeak ps (peak ps)
peak_is ps = record {
  bounds = peak_bounds ps;
  met = ⊎_elim inl
      (λ m. let inside : m.0 < length ps = subst (λ (n : ℕ). m.0 < n) (length-map ps (λ x. x.charge)) m.1 in
      inr (m.0, inside, sym (m.2 ∙ get_or-map (λ (x : Point). x.charge) ps m.0 nowhere 0 inside)))
      (greatest_met (map (λ x. x.charge) ps) 0);
}

-- ---- from calls to takings

module _ (d : Core) (ok : sound d ≡ true) where
  takes_reached : (m : Meaning Tri) → RuleCovers tri_kind d m → (x : Exploration) (n c : ℕ) (r after : Record Tri) (e : Ending) (taken : List (ℕ × ℕ)) →
      Takes d m x n r c e after → Reached tri_kind d r taken → Reached tri_kind d after taken
  takes_reached m cov x n c r after e taken (calls.done _ _ none) h = h
  takes_reached m cov x n c r after e taken (calls.spent _ w rest first) h = h
  takes_reached m cov x n c r after e taken (calls.refused n' _ p s rest t e' first how room) h = h
  takes_reached m cov x n c r after e taken (calls.takes n' c' _ _ p s rest t _ first how room on) h =
      takes_reached m cov x n' c' (treated tri_kind d r p rest t) after e taken on
      (reached.take r (treated tri_kind d r p rest t) taken m h cov (recorded.takes r p s rest t first how))

  new_view : (x : Exploration) (l : Lent) → x.point_count ≡ 0 → x.open_count ≡ 0 → x.entry_count ≡ 0 →
      view (cleared (record { exploration = x; lent = l })) ≡ record { points = []; waiting = []; entries = [] }
  new_view x l p o e = simp (p, o, e)

  -- the number that a start answers is that of the point which it adds
  counted : (n : ℕ) (m : Memory) → start_refusal d n m ≡ None → (length (view m).points ≡ m.exploration.point_count) × (n < start_count d)
  counted n m none =
      let x : Exploration = m.exploration in
      let fit = whole_answered (fits d m) _ _ none in
      let some = whole_answered (ltb n (start_count d)) _ _ fit.1 in
      (length-take-le x.point_count m.lent.points (omega (arith, x.points_inside, (fitting d m fit.0).points_fit)), ltb-true n (start_count d) some.0)

  started_reached : (m after : Memory) (taken : List (ℕ × ℕ)) (n : ℕ) (answer : Result ℕ Refusal) → Reached tri_kind d (view m) taken →
      Starts d n m after answer → Reached tri_kind d (view after) (with_start n answer taken)
  started_reached m after taken n (Ok p) h s =
      let c = counted n m s.0 in
      let now : Reached tri_kind d (started tri_kind d (view m) n) ((length (view m).points, n) ∷ taken) = reached.start (view m) taken n h c.1 in
      let number : length (view m).points ≡ p = c.0 ∙ sym s.1 in
      subst (λ (r : Record Tri). Reached tri_kind d r ((p, n) ∷ taken)) (sym s.2)
      (subst (λ (q : ℕ). Reached tri_kind d (started tri_kind d (view m) n) ((q, n) ∷ taken)) number now)
  started_reached m after taken n (Err e) h s = subst (λ (a : Memory). Reached tri_kind d (view a) taken) (sym s.1) h

  walked_reached : (m after : Memory) (taken : List (ℕ × ℕ)) (rule : Meaning Tri) (budget : ℕ) (answer : ℕ × Ending) → RuleCovers tri_kind d rule →
      Reached tri_kind d (view m) taken → Walks d rule budget m after answer → Reached tri_kind d (view after) taken
  walked_reached m after taken rule budget answer cov h w = by (walk_refusal d m) w
    where
      by : (o : Option Refusal) → WalksBy d rule budget m after answer o → Reached tri_kind d (view after) taken
      by (Some e) v = subst (λ (a : Memory). Reached tri_kind d (view a) taken) (sym v.1) h
      by None v = takes_reached rule cov m.exploration budget answer.0 (view m) (view after) answer.1 taken v.0 h

  -- every memory that calls lead to holds a record that starts and takings lead to
  pub history_reached : (m : Memory) (taken : List (ℕ × ℕ)) → History d m taken → Reached tri_kind d (view m) taken
  history_reached m taken (history.made place x l made) =
      let none : view (cleared (record { exploration = x; lent = l })) ≡ record { points = []; waiting = []; entries = [] } =
      new_view x l made.1.no_points made.1.no_open made.1.no_entries in
      subst (λ (r : Record Tri). Reached tri_kind d r []) (sym none) reached.new
  history_reached m taken (history.start before _ was n answer h s) = started_reached before m was n answer (history_reached before was h) s
  history_reached m taken (history.walk before _ _ rule budget answer h cov w) =
      walked_reached before m taken rule budget answer (rule_covers tri_kind rule cov d) (history_reached before taken h) w
  history_reached m taken (history.peak before _ _ answer h p) =
      subst (λ (a : Memory). Reached tri_kind d (view a) taken) (sym p.0) (history_reached before taken h)
  history_reached m taken (history.window before _ _ w row other row_after other_after answer h p) =
      subst (λ (a : Memory). Reached tri_kind d (view a) taken) (sym p.0) (history_reached before taken h)

  -- ---- what then holds

  shut : (m : Memory) (taken : List (ℕ × ℕ)) → History d m taken → open_refusal m.exploration ≡ None → NoOpen (used_points m)
  shut m taken h e =
      let none : m.exploration.open_count ≡ 0 = eqb-true m.exploration.open_count 0 (ask_at_none (eqb m.exploration.open_count 0) _ _ e) in
      none_open tri_kind tri_lawful d ok (view m) taken (history_reached m taken h)
      (ap (λ (n : ℕ). reverse (map (λ i. record { number = get_or m.exploration.numbers i 0; state = stretch m.exploration.places m.lent.opened i }) (range_with_len 0 n))) none)

  run_bounded : (m : Memory) (taken : List (ℕ × ℕ)) (h : History d m taken) → open_refusal m.exploration ≡ None → (p n : ℕ) → Has taken (p, n) →
      (c : List Bit) (rest : List (List Bit)) → RunsFrom d n c rest →
      Bounded bit_kind d (peak (used_points m)) (window (used_points m)) (c ∷ rest)
  run_bounded m taken h e p n in_taken c rest run =
      no_run_draws_more tri_kind bit_kind tri_lawful bit_lawful tri_wide bit_definite d ok (view m) taken (history_reached m taken h) (shut m taken h e)
      p n in_taken c rest run.covered run.goes

  pub no_run_escapes_the_record : (m : Memory) → NoRunEscapesTheRecord d m
  no_run_escapes_the_record m taken h = record {
    no_run_escapes = λ p n in_taken c rest run.
        no_run_escapes tri_kind bit_kind tri_lawful bit_lawful tri_wide bit_definite d ok (view m) taken (history_reached m taken h) p n in_taken c rest run.covered run.goes;
    peak_bounds = λ after x answered.
        let shut = peak_shut d m answered.1.0 in (
          subst (IsPeak (used_points m)) (sym answered.1.1) (peak_is (used_points m)),
          λ p n in_taken c rest run.
              subst (λ (y : ℕ). AllByRecursion (λ e. e ≤ y) (draws bit_kind d (c ∷ rest))) (sym answered.1.1) (run_bounded m taken h shut p n in_taken c rest run).each,
        );
    window_bounds = λ w row other after row_after other_after x answered.
        let shut = window_shut d m (length row) (length other) w answered.3.0 in (
          subst (IsWindow (used_points m) w) (sym answered.3.1) (window_is_most (used_points m) w),
          λ p n in_taken c rest run i k few.
              subst (λ (y : ℕ). sum (take k (drop i (draws bit_kind d (c ∷ rest)))) ≤ y) (sym answered.3.1) ((run_bounded m taken h shut p n in_taken c rest run).together w i k few),
        );
  }
