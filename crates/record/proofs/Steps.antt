-- What a record holds lasts from start to start and from point to point. Assumes nothing.
use Rattle.std.proofs.Common.{◌≡◌, ℕ, zero, suc, ◌+◌, ◌-◌, ◌%◌, ◌^◌, ◌<◌, ◌≤◌, Bool, true, false, cond, eqb, ◌⊎◌, List, [], ◌∷◌, ◌++◌, map, reverse, length, get_or, set, Some, sym, refl, ap, ◌∙◌, subst, ap₂, subst₂, inl, inr, ⊎_elim, append-nil, arith}
use lib.ListN.{length-map, get_or-append}
use Rattle.std.specs.List.{range_with_len, ContainsAt as Has, AllByRecursion}
use Rattle.std.proofs.lemmas.List.FromFn.{map-range_with_len_more}
use Rattle.std.proofs.ByRecursion.{All-weaker, All-append, All-set, All-get_or}
use Rattle.std.proofs.lemmas.List.{get_or-map, get_or_push, length_push, reverse-append}
use Rattle.std.proofs.lemmas.Bool.{cases_eq, cases_lt, eqb-true}
use Rattle.levels.specs.Kinds.{Kind, Lawful, Cover}
use Rattle.model.specs.Core.{Core, sound}
use Rattle.model.specs.Cycle.{edge, start_state}
use Rattle.model.specs.Energy.{charge}
use Rattle.record.specs.declared.point.Fate.{Fate}
use Rattle.record.specs.declared.point.Fate.TheVariants as fate
use Rattle.record.specs.declared.point.Point.{Point}
use Rattle.record.specs.Record.{Record, Waiting, Entry, Meaning, nowhere, with_fate, marked_as, restored, unknown_inputs, successor_keys, after_key, successor_point, start_point, started, start_count, Treatment, walk, key_of_point, look_up, no_entry, entry_at, entry_for, Treated, halts, passes_new, passes_known, keeps, cuts, merges, treated, Taken, takes}
use Rattle.record.specs.Runs.{point_at}
use Rattle.record.specs.Escape.{RuleCovers, Reached, new, start, take}
use Rattle.record.proofs.Covering.{covers_same, cover_from_test}
use Rattle.record.proofs.Keys.{key_small}
use Rattle.record.proofs.States.{Good, good_after, good_start, good_restored, covers_restored}
use Rattle.record.proofs.Hold.{st, walked_open, known, Walks, Cut, Done, Below, Listed, Entered, Begun, Holds, Kept, Same, Grows, done_on, entered_on, begun_on, below_on, changed_length, changed_here, changed_there, changed_new}

reverse_more : {X : Type 0} (f : ℕ → X) (m : ℕ) → reverse (map f (range_with_len 0 (suc m))) ≡ f m ∷ reverse (map f (range_with_len 0 m))
reverse_more f m =
    ap (λ (n : ℕ). reverse (map f (range_with_len 0 n))) (let e : suc m ≡ m + 1 = omega arith in e)
    ∙ ap reverse (map-range_with_len_more f 0 m m (omega arith))
    ∙ reverse-append (map f (range_with_len 0 m)) (f m ∷ [])

module _ {V : Type 0} (k : Kind V) (d : Core) where
  -- ---- the entry that is looked up

  pub look_up_found : (key i : ℕ) (es : List (Entry V)) (n : ℕ) → look_up k d key i es ≡ Some n →
      (m : ℕ) × (n ≡ i + m) × (m < length es) × ((get_or es m (no_entry k d)).key ≡ key)
  look_up_found key i [] n h = absurd (let z : ◌≡◌ {A = ℕ} 0 1 = cc in omega arith)
  look_up_found key i (x ∷ xs) n h = go (eqb x.key key) refl h (look_up_found key (i + 1) xs n)
    where
      go : (b : Bool) → eqb x.key key ≡ b → cond b (Some i) (look_up k d key (i + 1) xs) ≡ Some n →
          (look_up k d key (i + 1) xs ≡ Some n → (m : ℕ) × (n ≡ i + 1 + m) × (m < length xs) × ((get_or xs m (no_entry k d)).key ≡ key)) →
          (m : ℕ) × (n ≡ i + m) × (m < length (x ∷ xs)) × ((get_or (x ∷ xs) m (no_entry k d)).key ≡ key)
      go true e f on = let same : i ≡ n = cc in (0, omega arith, omega arith, eqb-true x.key key e)
      go false e f on =
          let at_rest : (m : ℕ) × (n ≡ i + 1 + m) × (m < length xs) × ((get_or xs m (no_entry k d)).key ≡ key) = on f in
          (suc at_rest.0, omega (arith, at_rest.1), omega (arith, at_rest.2), at_rest.3)

  pub look_up_inside : (key : ℕ) (es : List (Entry V)) (n : ℕ) → look_up k d key 0 es ≡ Some n →
      (n < length es) × ((get_or es n (no_entry k d)).key ≡ key)
  look_up_inside key es n h =
      let f : (m : ℕ) × (n ≡ 0 + m) × (m < length es) × ((get_or es m (no_entry k d)).key ≡ key) = look_up_found key 0 es n h in
      let e : f.0 ≡ n = omega (arith, f.1) in
      subst (λ (m : ℕ). (m < length es) × ((get_or es m (no_entry k d)).key ≡ key)) e (f.2, f.3)

  -- ---- the successors as open points

  module _ (n : ℕ) (s : List V) (ks : List ℕ) where
    abbrev pub waiter : ℕ → Waiting V
    waiter i = record { number = n + i; state = after_key k d s (get_or ks i 0) }

    listed_behind : (xs ws : List (Waiting V)) (q : ℕ) → Listed k d q ws → Listed k d q (xs ++ ws)
    listed_behind [] ws q h = h
    listed_behind (x ∷ xs) ws q h = inr (listed_behind xs ws q h)

    listed_new : (m : ℕ) (rest : List (Waiting V)) (i : ℕ) → i < m → Listed k d (n + i) (reverse (map waiter (range_with_len 0 m)) ++ rest)
    listed_new zero rest i l = absurd (omega arith)
    listed_new (suc m) rest i l =
        subst (λ (ws : List (Waiting V)). Listed k d (n + i) (ws ++ rest)) (sym (reverse_more waiter m))
        (⊎_elim (λ h. inr (listed_new m rest i h)) (λ h. let e : i ≡ m = omega arith in inl (ap (λ (x : ℕ). n + x) e)) (cases_lt i m))

    module _ (ps : List Point) (σ : List (List V)) where
      below_weaker : (b b' : ℕ) (ws : List (Waiting V)) → b ≤ b' → Below k d ps σ b ws → Below k d ps σ b' ws
      below_weaker b b' [] l h = tt
      below_weaker b b' (w ∷ ws) l h = let i : w.number < b = h.0 in (omega arith, h.1, h.2, h.3)

      below_new : (m : ℕ) (rest : List (Waiting V)) →
          ((i : ℕ) → i < m → ((point_at ps (n + i)).fate ≡ fate.Open) × (st σ (n + i) ≡ after_key k d s (get_or ks i 0))) →
          Below k d ps σ n rest → Below k d ps σ (n + m) (reverse (map waiter (range_with_len 0 m)) ++ rest)
      below_new zero rest f h = below_weaker n (n + 0) rest (omega arith) h
      below_new (suc m) rest f h =
          subst (λ (ws : List (Waiting V)). Below k d ps σ (n + suc m) (ws ++ rest)) (sym (reverse_more waiter m)) (
            omega arith,
            (f m (omega arith)).0,
            (f m (omega arith)).1,
            below_new m rest (λ i l. f i (omega arith)) h,
          )

  -- ---- point p taken: its fate is f, its state t, and its successors are those of the keys

  module _ (ps : List Point) (σ : List (List V)) (p : ℕ) (f : Fate) (t : List V) (ks : List ℕ) where
    abbrev pub points_on : List Point
    points_on = marked_as f p ps ++ map (successor_point k d p t) ks

    abbrev pub states_on : List (List V)
    states_on = set σ p t ++ map (after_key k d t) ks

    abbrev pub waiting_on : List (Waiting V) → List (Waiting V)
    waiting_on rest = reverse (map (waiter (length ps) t ks) (range_with_len 0 (length ks))) ++ rest

    module _ (even : length σ ≡ length ps) (here : p < length ps) where
      pub point_here : point_at points_on p ≡ with_fate f (point_at ps p)
      point_here = changed_here ps p (with_fate f (point_at ps p)) (map (successor_point k d p t) ks) nowhere here

      pub state_here : st states_on p ≡ t
      state_here = changed_here σ p t (map (after_key k d t) ks) [] (rw even here)

      there : (q : ℕ) → q < length ps → (q ≡ p → ⊥) → Same k d ps points_on σ states_on q
      there q l n = (
        changed_there ps p (with_fate f (point_at ps p)) (map (successor_point k d p t) ks) nowhere q l n,
        changed_there σ p t (map (after_key k d t) ks) [] q (rw even l) n,
      )

      point_new : (i : ℕ) → i < length ks → point_at points_on (length ps + i) ≡ successor_point k d p t (get_or ks i 0)
      point_new i l =
          changed_new ps p (with_fate f (point_at ps p)) (map (successor_point k d p t) ks) nowhere i
          ∙ get_or-map (successor_point k d p t) ks i 0 nowhere l

      state_new : (i : ℕ) → i < length ks → st states_on (length ps + i) ≡ after_key k d t (get_or ks i 0)
      state_new i l =
          ap (λ (n : ℕ). st states_on (n + i)) (sym even)
          ∙ changed_new σ p t (map (after_key k d t) ks) [] i
          ∙ get_or-map (after_key k d t) ks i 0 [] l

      points_length : length points_on ≡ length ps + length ks
      points_length =
          changed_length ps p (with_fate f (point_at ps p)) (map (successor_point k d p t) ks) nowhere
          ∙ ap (λ (n : ℕ). length ps + n) (length-map ks (successor_point k d p t))

      states_length : length states_on ≡ length ps + length ks
      states_length =
          changed_length σ p t (map (after_key k d t) ks) []
          ∙ ap (λ (n : ℕ). n + length (map (after_key k d t) ks)) even
          ∙ ap (λ (n : ℕ). length ps + n) (length-map ks (after_key k d t))

      -- a point is old, new or none
      module _ (P : ℕ → Type 0) (old : (q : ℕ) → q < length ps → P q) (fresh : (i : ℕ) → i < length ks → P (length ps + i)) where
        each_point : (q : ℕ) → q < length points_on → P q
        each_point q l = ⊎_elim (old q) (λ m. after (q - length ps) (omega arith) m) (cases_lt q (length ps))
          where
            after : (i : ℕ) → i ≡ q - length ps → length ps ≤ q → P q
            after i e m =
                let h : length ps + i ≡ q = omega arith in
                subst P h (fresh i (omega (arith, points_length)))

      module _ (is_open : (point_at ps p).fate ≡ fate.Open) (over : Cover k k t (st σ p)) where
        pub grows : Grows k d ps points_on σ states_on
        grows = record {
          longer = omega (arith, points_length);
          kept = λ q l. ⊎_elim (λ e. subst (Kept k d ps points_on σ states_on) (sym e) kept_here)
              (λ n. kept_there q (there q l n)) (cases_eq q p);
          same = λ q shut. there q (known ps q shut) (λ e. shut (ap (λ (x : ℕ). (point_at ps x).fate) e ∙ is_open));
        }
          where
            kept_here : Kept k d ps points_on σ states_on p
            kept_here = record {
              origin = ap (λ (x : Point). x.origin) point_here;
              key = ap (λ (x : Point). x.key) point_here;
              charge = ap (λ (x : Point). x.charge) point_here;
              over = subst (λ (x : List V). Cover k k x (st σ p)) (sym state_here) over;
            }

            kept_there : (q : ℕ) → Same k d ps points_on σ states_on q → Kept k d ps points_on σ states_on q
            kept_there q u = record {
              origin = ap (λ (x : Point). x.origin) u.0;
              key = ap (λ (x : Point). x.key) u.0;
              charge = ap (λ (x : Point). x.charge) u.0;
              over = covers_same k (st states_on q) (st σ q) u.1;
            }

        module _ (ok : sound d ≡ true) (ws rest : List (Waiting V)) (es es' : List (Entry V)) (taken : List (ℕ × ℕ))
            (holds : Holds k d ps ws es taken σ) (first : (q : ℕ) → Listed k d q ws → (q ≡ p) ⊎ Listed k d q rest)
            (behind : Below k d ps σ p rest) (good_here : Good k d (point_at ps p).key t)
            (small : (i : ℕ) → i < length ks → get_or ks i 0 < 2 ^ length d.pilots)
            (shut_here : f ≡ fate.Open → ⊥) (done_here : Done k d points_on states_on p)
            (entered : AllByRecursion (Entered k d points_on states_on) es') where
          pub moved : Holds k d points_on (waiting_on rest) es' taken states_on
          moved = record {
            lengths = states_length ∙ sym points_length;
            good = each_point (λ q. Good k d (point_at points_on q).key (st states_on q)) old_good new_good;
            done = λ q shut. each_point (λ x. ((point_at points_on x).fate ≡ fate.Open → ⊥) → Done k d points_on states_on x)
                old_done (λ i l n. absurd (n (ap (λ (x : Point). x.fate) (point_new i l)))) q (known points_on q shut) shut;
            waits = subst (λ (n : ℕ). Below k d points_on states_on n (waiting_on rest)) (sym points_length)
                (below_new (length ps) t ks points_on states_on (length ks) rest
                (λ i l. (ap (λ (x : Point). x.fate) (point_new i l), state_new i l))
                (below_weaker (length ps) t ks points_on states_on p (length ps) rest (omega arith)
                (below_on k d ps points_on σ states_on p rest (λ q l. there q (omega arith) (omega arith)) behind)));
            listed = each_point (λ q. (point_at points_on q).fate ≡ fate.Open → Listed k d q (waiting_on rest)) old_listed
                (λ i l o. listed_new (length ps) t ks (length ks) rest i l);
            entered = entered;
            begun = All-weaker (Begun k d ps σ) (Begun k d points_on states_on) (begun_on k d ps points_on σ states_on grows) taken holds.begun;
          }
            where
              old_good : (q : ℕ) → q < length ps → Good k d (point_at points_on q).key (st states_on q)
              old_good q l =
                  ⊎_elim
                  (λ e. subst (λ (x : ℕ). Good k d (point_at points_on x).key (st states_on x)) (sym e)
                  (subst₂ (Good k d) (sym (ap (λ (x : Point). x.key) point_here)) (sym state_here) good_here))
                  (λ n. let u : Same k d ps points_on σ states_on q = there q l n in
                  subst₂ (Good k d) (sym (ap (λ (x : Point). x.key) u.0)) (sym u.1) (holds.good q l))
                  (cases_eq q p)

              new_good : (i : ℕ) → i < length ks → Good k d (point_at points_on (length ps + i)).key (st states_on (length ps + i))
              new_good i l =
                  subst₂ (Good k d) (sym (ap (λ (x : Point). x.key) (point_new i l))) (sym (state_new i l))
                  (good_after k d ok (get_or ks i 0) t (small i l))

              old_done : (q : ℕ) → q < length ps → ((point_at points_on q).fate ≡ fate.Open → ⊥) → Done k d points_on states_on q
              old_done q l shut =
                  ⊎_elim (λ e. subst (Done k d points_on states_on) (sym e) done_here)
                  (λ n. let u : Same k d ps points_on σ states_on q = there q l n in
                  let was : (point_at ps q).fate ≡ fate.Open → ⊥ = λ o. shut (ap (λ (x : Point). x.fate) u.0 ∙ o) in
                  done_on k d ps points_on σ states_on grows q was (holds.done q was))
                  (cases_eq q p)

              old_listed : (q : ℕ) → q < length ps → (point_at points_on q).fate ≡ fate.Open → Listed k d q (waiting_on rest)
              old_listed q l o =
                  ⊎_elim
                  (λ e. absurd (shut_here (sym (ap (λ (x : Point). x.fate) point_here) ∙ ap (λ (x : ℕ). (point_at points_on x).fate) (sym e) ∙ o)))
                  (λ n. listed_behind (length ps) t ks (reverse (map (waiter (length ps) t ks) (range_with_len 0 (length ks)))) rest q
                  (⊎_elim (λ e. absurd (n e)) (λ h. h)
                  (first q (holds.listed q l (sym (ap (λ (x : Point). x.fate) (there q l n).0) ∙ o)))))
                  (cases_eq q p)

  -- ---- the points that a taking leaves

  module _ (ps : List Point) (σ : List (List V)) (p : ℕ) (t : List V) (even : length σ ≡ length ps) (here : p < length ps) where
    walks_here : Walks k d (points_on ps σ p fate.Walked t (successor_keys k d t)) (states_on ps σ p fate.Walked t (successor_keys k d t)) p
    walks_here key m = (
      length ps + i,
      record {
        inside = omega (arith, points_length ps σ p fate.Walked t ks even here, l);
        comes = ap (λ (x : Point). x.origin) point;
        shown = ap (λ (x : Point). x.key) point ∙ e;
        charged = ap (λ (x : Point). x.charge) point ∙ ap₂ (λ (x : List V) (n : ℕ). charge k d x (after_key k d x n)) (sym is) e;
        over = covers_same k (st states (length ps + i)) (after_key k d (st states p) key)
            (state_new ps σ p fate.Walked t ks even here i l ∙ ap₂ (λ (x : List V) (n : ℕ). after_key k d x n) (sym is) e);
      },
    )
      where
        ks : List ℕ
        ks = successor_keys k d t

        states : List (List V)
        states = states_on ps σ p fate.Walked t ks

        is : st states p ≡ t
        is = state_here ps σ p fate.Walked t ks even here

        place : Has ks key
        place = subst (λ (x : List V). Has (successor_keys k d x) key) is m

        i : ℕ
        i = place.0

        l : i < length ks
        l = place.1

        e : get_or ks i 0 ≡ key
        e = place.2 0

        point : point_at (points_on ps σ p fate.Walked t ks) (length ps + i) ≡ successor_point k d p t (get_or ks i 0)
        point = point_new ps σ p fate.Walked t ks even here i l

  module _ (ok : sound d ≡ true) (r : Record V) (taken : List (ℕ × ℕ)) (σ : List (List V))
      (holds : Holds k d r.points r.waiting r.entries taken σ) (p : ℕ) (s : List V) (rest : List (Waiting V))
      (first : r.waiting ≡ record { number = p; state = s } ∷ rest) where
    head : Below k d r.points σ (length r.points) (record { number = p; state = s } ∷ rest)
    head = subst (Below k d r.points σ (length r.points)) first holds.waits

    head_or_rest : (q : ℕ) → Listed k d q r.waiting → (q ≡ p) ⊎ Listed k d q rest
    head_or_rest q h = subst (Listed k d q) first h

    good_head : Good k d (key_of_point k d r p) s
    good_head = subst (Good k d (key_of_point k d r p)) head.2 (holds.good p head.0)

    module _ (t : List V) (good : Good k d (key_of_point k d r p) t) (over : Cover k k t s) where
      over_head : Cover k k t (st σ p)
      over_head = subst (λ (x : List V). Cover k k t x) (sym head.2) over

      abbrev points_walked : List Point
      points_walked = points_on r.points σ p fate.Walked t (successor_keys k d t)

      abbrev states_walked : List (List V)
      states_walked = states_on r.points σ p fate.Walked t (successor_keys k d t)

      entered_head : (key count : ℕ) → Entered k d points_walked states_walked (entry_for k d key p count t)
      entered_head key count = (
        ap (λ (x : Point). x.fate) (point_here r.points σ p fate.Walked t (successor_keys k d t) holds.lengths head.0),
        state_here r.points σ p fate.Walked t (successor_keys k d t) holds.lengths head.0,
      )

      entered_rest : AllByRecursion (Entered k d points_walked states_walked) r.entries
      entered_rest =
          All-weaker (Entered k d r.points σ) (Entered k d points_walked states_walked)
          (entered_on k d r.points points_walked σ states_walked
          (grows r.points σ p fate.Walked t (successor_keys k d t) holds.lengths head.0 head.1 over_head))
          r.entries holds.entered

      done_walked : Done k d points_walked states_walked p
      done_walked =
          let w : (point_at points_walked p).fate ≡ fate.Walked = (entered_head 0 0).0 in
          record {
            if_walked = λ _. walks_here r.points σ p t holds.lengths head.0;
            if_cut = λ u e. absurd (let z : ◌≡◌ {A = ℕ} 0 1 = cc in omega arith);
            if_halted = λ e. absurd (let z : ◌≡◌ {A = ℕ} 0 1 = cc in omega arith);
          }

      walked_on : (es : List (Entry V)) → AllByRecursion (Entered k d points_walked states_walked) es →
          Holds k d (treated k d r p rest (walk t es)).points (treated k d r p rest (walk t es)).waiting es taken states_walked
      walked_on es listed =
          moved r.points σ p fate.Walked t (successor_keys k d t) holds.lengths head.0 head.1 over_head ok r.waiting rest
          r.entries es taken holds head_or_rest head.3 good (key_small k d.pilots (edge k d t (unknown_inputs k d)))
          (λ e. let z : ◌≡◌ {A = ℕ} 0 1 = cc in omega arith) done_walked listed

    module _ (f : Fate) (shut : f ≡ fate.Open → ⊥) where
      abbrev points_closed : List Point
      points_closed = points_on r.points σ p f (st σ p) []

      abbrev states_closed : List (List V)
      states_closed = states_on r.points σ p f (st σ p) []

      grows_closed : Grows k d r.points points_closed σ states_closed
      grows_closed =
          grows r.points σ p f (st σ p) [] holds.lengths head.0 head.1 (covers_same k (st σ p) (st σ p) refl)

      point_closed : point_at points_closed p ≡ with_fate f (point_at r.points p)
      point_closed = point_here r.points σ p f (st σ p) [] holds.lengths head.0

      closed_on : Done k d points_closed states_closed p →
          Holds k d (marked_as f p r.points) rest r.entries taken states_closed
      closed_on done =
          subst (λ (x : List Point). Holds k d x rest r.entries taken states_closed) (append-nil (marked_as f p r.points))
          (moved r.points σ p f (st σ p) [] holds.lengths head.0 head.1 (covers_same k (st σ p) (st σ p) refl) ok
          r.waiting rest r.entries r.entries taken holds head_or_rest head.3 (holds.good p head.0)
          (λ i l. absurd (omega arith)) shut done
          (All-weaker (Entered k d r.points σ) (Entered k d points_closed states_closed)
          (entered_on k d r.points points_closed σ states_closed grows_closed) r.entries holds.entered))

    shut_halted : fate.Halted ≡ fate.Open → ⊥
    shut_halted e = let z : ◌≡◌ {A = ℕ} 0 1 = cc in omega arith

    shut_cut : (t : ℕ) → fate.Cut t ≡ fate.Open → ⊥
    shut_cut t e = let z : ◌≡◌ {A = ℕ} 0 1 = cc in omega arith

    halted_on : key_of_point k d r p % 2 ≡ 1 →
        Holds k d (marked_as fate.Halted p r.points) rest r.entries taken (states_closed fate.Halted shut_halted)
    halted_on odd =
        let w : (point_at (points_closed fate.Halted shut_halted) p).fate ≡ fate.Halted =
        ap (λ (x : Point). x.fate) (point_closed fate.Halted shut_halted) in
        closed_on fate.Halted shut_halted record {
          if_walked = λ e. absurd (let z : ◌≡◌ {A = ℕ} 0 1 = cc in omega arith);
          if_cut = λ u e. absurd (let z : ◌≡◌ {A = ℕ} 0 1 = cc in omega arith);
          if_halted = λ e. ap (λ (x : Point). x.key % 2) (point_closed fate.Halted shut_halted) ∙ odd;
        }

    cut_on : (e : Entry V) → Entered k d r.points σ e → Cover k k e.state s →
        Holds k d (marked_as (fate.Cut e.point) p r.points) rest r.entries taken (states_closed (fate.Cut e.point) (shut_cut e.point))
    cut_on e kept over =
        let f : Fate = fate.Cut e.point in
        let shut : fate.Cut e.point ≡ fate.Open → ⊥ = shut_cut e.point in
        let w : (point_at (points_closed f shut) p).fate ≡ fate.Cut e.point = ap (λ (x : Point). x.fate) (point_closed f shut) in
        closed_on f shut record {
          if_walked = λ h. absurd (let z : ◌≡◌ {A = ℕ} 0 1 = cc in omega arith);
          if_cut = λ u h.
              let same : e.point ≡ u = cc in
              subst (Cut k d (points_closed f shut) (states_closed f shut) p) same target;
          if_halted = λ h. absurd (let z : ◌≡◌ {A = ℕ} 0 1 = cc in omega arith);
        }
      where
        target : Cut k d (points_closed (fate.Cut e.point) (shut_cut e.point)) (states_closed (fate.Cut e.point) (shut_cut e.point)) p e.point
        target =
            let f : Fate = fate.Cut e.point in
            let shut : fate.Cut e.point ≡ fate.Open → ⊥ = shut_cut e.point in
            let on : Entered k d (points_closed f shut) (states_closed f shut) e =
            entered_on k d r.points (points_closed f shut) σ (states_closed f shut) (grows_closed f shut) e kept in (
              on.0,
              subst₂ (λ (x y : List V). Cover k k x y) (sym on.1)
                  (sym (state_here r.points σ p f (st σ p) [] holds.lengths head.0 ∙ head.2)) over,
            )

    -- ---- each treatment

    abbrev Treats : Treatment k d → Type 0
    Treats t =
        (σ' : List (List V))
        × Holds k d (treated k d r p rest t).points (treated k d r p rest t).waiting (treated k d r p rest t).entries taken σ'

    kept_at : (i : ℕ) → look_up k d (key_of_point k d r p) 0 r.entries ≡ Some i → Entered k d r.points σ (entry_at k d r i)
    kept_at i there =
        All-get_or (Entered k d r.points σ) r.entries i (no_entry k d)
        (look_up_inside (key_of_point k d r p) r.entries i there).0 holds.entered

    passes_on : Treats (walk s r.entries)
    passes_on =
        let over : Cover k k s s = covers_same k s s refl in
        (_, walked_on s good_head over r.entries (entered_rest s good_head over))

    keeps_on : Treats (walk s (r.entries ++ (entry_for k d (key_of_point k d r p) p 0 s ∷ [])))
    keeps_on =
        let over : Cover k k s s = covers_same k s s refl in
        let e : Entry V = entry_for k d (key_of_point k d r p) p 0 s in (
          _,
          walked_on s good_head over (r.entries ++ (e ∷ []))
              (All-append (Entered k d (points_walked s good_head over) (states_walked s good_head over)) r.entries (e ∷ [])
              (entered_rest s good_head over) (entered_head s good_head over (key_of_point k d r p) 0, tt)),
        )

    merges_on : (i : ℕ) (t : List V) → Cover k k t s →
        Treats (walk (restored k d (key_of_point k d r p) t)
        (set r.entries i (entry_for k d (key_of_point k d r p) p ((entry_at k d r i).count + 1) (restored k d (key_of_point k d r p) t))))
    merges_on i t both = (
      _,
      walked_on u fine over (set r.entries i e)
          (All-set (Entered k d (points_walked u fine over) (states_walked u fine over)) r.entries i e
          (entered_head u fine over key ((entry_at k d r i).count + 1)) (entered_rest u fine over)),
    )
      where
        key : ℕ
        key = key_of_point k d r p

        u : List V
        u = restored k d key t

        fine : Good k d key u
        fine = good_restored k d ok key s t both good_head

        over : Cover k k u s
        over = covers_restored k d ok key s t both good_head

        e : Entry V
        e = entry_for k d key p ((entry_at k d r i).count + 1) u

    treats : (m : Meaning V) → RuleCovers k d m → (t : Treatment k d) → Treated k d m r p s t → Treats t
    treats m rule t (halts odd) = (_, halted_on odd)
    treats m rule t (passes_new even none watch) = passes_on
    treats m rule t (passes_known i even there watch) = passes_on
    treats m rule t (keeps even none watch) = keeps_on
    treats m rule t (cuts i even there watch over) =
        (_, cut_on (entry_at k d r i) (kept_at i there) (cover_from_test k (entry_at k d r i).state s over))
    treats m rule _ (merges i t even there watch apart merged) =
        let e : Entry V = entry_at k d r i in
        let kept : Entered k d r.points σ e = kept_at i there in
        let kept_good : Good k d (point_at r.points e.point).key e.state =
        subst (Good k d (point_at r.points e.point).key) kept.1
        (holds.good e.point (known r.points e.point (walked_open (point_at r.points e.point).fate kept.0))) in
        merges_on i t (rule e.state s t e.count kept_good.full good_head.full merged).1

  module _ (ok : sound d ≡ true) where
    taken_on : (m : Meaning V) → RuleCovers k d m → (r r' : Record V) → Taken k d m r r' → (taken : List (ℕ × ℕ)) (σ : List (List V)) →
        Holds k d r.points r.waiting r.entries taken σ →
        (σ' : List (List V)) × Holds k d r'.points r'.waiting r'.entries taken σ'
    taken_on m rule r _ (takes _ p s rest t first how) taken σ h = treats ok r taken σ h p s rest first m rule t how

    -- ---- starts

    module _ (law : Lawful k) (r : Record V) (taken : List (ℕ × ℕ)) (σ : List (List V))
        (holds : Holds k d r.points r.waiting r.entries taken σ) (n : ℕ) (real : n < start_count d) where
      abbrev fresh : Point
      fresh = start_point k d n

      abbrev begins : List V
      begins = start_state k d n

      started_on : Holds k d (started k d r n).points (started k d r n).waiting r.entries ((length r.points, n) ∷ taken) (σ ++ (begins ∷ []))
      started_on = record {
        lengths = length_push σ begins ∙ ap (λ (x : ℕ). x + 1) holds.lengths ∙ sym (length_push ps fresh);
        good = old_or_new (λ q. Good k d (point_at ps' q).key (st σ' q))
            (λ q l. subst₂ (Good k d) (sym (ap (λ (x : Point). x.key) (there q l).0)) (sym (there q l).1) (holds.good q l))
            (subst₂ (Good k d) (sym (ap (λ (x : Point). x.key) last.0)) (sym last.1) (good_start k d ok law n real));
        done = λ q shut. old_or_new (λ x. ((point_at ps' x).fate ≡ fate.Open → ⊥) → Done k d ps' σ' x)
            (λ x l out.
            let was : (point_at ps x).fate ≡ fate.Open → ⊥ = λ o. out (ap (λ (y : Point). y.fate) (there x l).0 ∙ o) in
            done_on k d ps ps' σ σ' grown x was (holds.done x was))
            (λ out. absurd (out (ap (λ (y : Point). y.fate) last.0))) q (known ps' q shut) shut;
        waits = (
          omega (arith, length_push ps fresh),
          ap (λ (y : Point). y.fate) last.0,
          last.1,
          below_on k d ps ps' σ σ' (length ps) r.waiting there holds.waits,
        );
        listed = old_or_new (λ q. (point_at ps' q).fate ≡ fate.Open → Listed k d q (started k d r n).waiting)
            (λ q l o. inr (holds.listed q l (sym (ap (λ (y : Point). y.fate) (there q l).0) ∙ o)))
            (λ o. inl refl);
        entered = All-weaker (Entered k d ps σ) (Entered k d ps' σ') (entered_on k d ps ps' σ σ' grown) r.entries holds.entered;
        begun = (
          (omega (arith, length_push ps fresh), covers_same k (st σ' (length ps)) begins last.1),
          All-weaker (Begun k d ps σ) (Begun k d ps' σ') (begun_on k d ps ps' σ σ' grown) taken holds.begun,
        );
      }
        where
          ps : List Point
          ps = r.points

          ps' : List Point
          ps' = ps ++ (fresh ∷ [])

          σ' : List (List V)
          σ' = σ ++ (begins ∷ [])

          there : (q : ℕ) → q < length ps → Same k d ps ps' σ σ' q
          there q l = (get_or-append ps (fresh ∷ []) nowhere q l, get_or-append σ (begins ∷ []) [] q (rw holds.lengths l))

          last : (point_at ps' (length ps) ≡ fresh) × (st σ' (length ps) ≡ begins)
          last = (get_or_push ps fresh nowhere (length ps) refl, get_or_push σ begins [] (length ps) holds.lengths)

          old_or_new : (P : ℕ → Type 0) → ((q : ℕ) → q < length ps → P q) → P (length ps) → (q : ℕ) → q < length ps' → P q
          old_or_new P old end q l =
              ⊎_elim (old q)
              (λ m. let e : length ps ≡ q = omega (arith, length_push ps fresh) in subst P e end)
              (cases_lt q (length ps))

          grown : Grows k d ps ps' σ σ'
          grown = record {
            longer = omega (arith, length_push ps fresh);
            kept = λ q l. record {
              origin = ap (λ (x : Point). x.origin) (there q l).0;
              key = ap (λ (x : Point). x.key) (there q l).0;
              charge = ap (λ (x : Point). x.charge) (there q l).0;
              over = covers_same k (st σ' q) (st σ q) (there q l).1;
            };
            same = λ q shut. there q (known ps q shut);
          }

    pub reached_holds : Lawful k → (r : Record V) (taken : List (ℕ × ℕ)) → Reached k d r taken →
        (σ : List (List V)) × Holds k d r.points r.waiting r.entries taken σ
    reached_holds law r taken new = (
      [],
      record {
        lengths = refl;
        good = λ q l. absurd (omega arith);
        done = λ q shut. absurd (shut refl);
        waits = tt;
        listed = λ q l o. absurd (omega arith);
        entered = tt;
        begun = tt;
      },
    )
    reached_holds law _ _ (start r taken n before real) =
        let old : (σ : List (List V)) × Holds k d r.points r.waiting r.entries taken σ = reached_holds law r taken before in
        (old.0 ++ (start_state k d n ∷ []), started_on law r taken old.0 old.1 n real)
    reached_holds law _ _ (take r t taken m before rule step) =
        let old : (σ : List (List V)) × Holds k d r.points r.waiting r.entries taken σ = reached_holds law r taken before in
        taken_on m rule r t step taken old.0 old.1
