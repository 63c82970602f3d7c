-- Points and open points added one after the other. Assumes nothing.
use Rattle.std.proofs.Common.{◌≡◌, ℕ, ◌+◌, ◌*◌, ◌<◌, ◌≤◌, List, [], ◌∷◌, ◌++◌, map, reverse, length, get_or, take, drop, set, sym, refl, ap, ◌∙◌, subst, arith}
use borrow.Rule.Slice.PartMut.{put_mid}
use Rattle.std.specs.List.{range_with_len}
use Rattle.std.proofs.lemmas.List.FromFn.{map-range_with_len_more}
use Rattle.std.proofs.lemmas.List.{append-nil, append_assoc, drop-drop, drop-set-lt, reverse-append, map_more, take_all}
use Rattle.levels.specs.declared.Tri.{Tri}
use Rattle.levels.specs.Tris.{tri_kind}
use Rattle.model.specs.Core.{Core}
use Rattle.model.specs.Energy.{charge as drawn}
use Rattle.record.specs.declared.point.Origin.TheVariants as origin
use Rattle.record.specs.declared.point.Fate.TheVariants as fate
use Rattle.record.specs.declared.point.Point.{Point}
use Rattle.record.specs.Record.{Waiting, successor_keys, successor_point, after_key, waiting_from}
use Rattle.explore.specs.Parts.{open_points}
use Rattle.explore.specs.Steps.{Pushed}
use Rattle.explore.proofs.Views.{waiting_push, points_push}

module _ (n : ℕ) (points : List Point) (opened : List Tri) (numbers : List ℕ) where
  pub pushed_none : (first slot : ℕ) → Pushed n points points opened opened numbers numbers first slot 0 [] []
  pushed_none first slot =
      let f : first + 0 ≡ first = omega arith in
      let s : slot + 0 ≡ slot = omega arith in
      record {
        points_added = ap (λ (m : ℕ). take m points) f ∙ sym (append-nil (take first points));
        points_behind = refl;
        open_added = ap (λ (m : ℕ). open_points n numbers opened m) s;
      }

  -- one more behind so many
  pub pushed_more : (points' points'' : List Point) (opened' opened'' : List Tri) (numbers' numbers'' : List ℕ) (first slot count : ℕ)
      (added : List Point) (waiting : List (Waiting Tri)) (x : Point) (w : Waiting Tri) →
      Pushed n points points' opened opened' numbers numbers' first slot count added waiting →
      Pushed n points' points'' opened' opened'' numbers' numbers'' (first + count) (slot + count) 1 (x ∷ []) (w ∷ []) →
      Pushed n points points'' opened opened'' numbers numbers'' first slot (count + 1) (added ++ (x ∷ [])) (w ∷ waiting)
  pushed_more points' points'' opened' opened'' numbers' numbers'' first slot count added waiting x w so one =
      let f : first + (count + 1) ≡ first + count + 1 = omega arith in
      let s : slot + (count + 1) ≡ slot + count + 1 = omega arith in
      record {
        points_added = ap (λ (m : ℕ). take m points'') f
            ∙ (one.points_added ∙ (ap (λ (l : List Point). l ++ (x ∷ [])) so.points_added ∙ append_assoc (take first points) added (x ∷ [])));
        points_behind = ap (λ (m : ℕ). drop m points'') f
            ∙ (one.points_behind ∙ (sym (drop-drop 1 (first + count) points') ∙ (ap (drop 1) so.points_behind
            ∙ (drop-drop 1 (first + count) points ∙ ap (λ (m : ℕ). drop m points) (sym f)))));
        open_added = ap (λ (m : ℕ). open_points n numbers'' opened'' m) s ∙ (one.open_added ∙ ap (λ (l : List (Waiting Tri)). w ∷ l) so.open_added);
      }

-- the successor of a choice, written behind those in use
pub pushed_one : (d : Core) (s : List Tri) (p choice key charge n : ℕ) (state : List Tri) (points : List Point) (opened : List Tri) (numbers numbers' : List ℕ) (first slot a k : ℕ) →
    numbers' ≡ set numbers slot first → key ≡ get_or (successor_keys tri_kind d s) choice 0 → state ≡ after_key tri_kind d s key → charge ≡ drawn tri_kind d s state →
    first < length points → slot < length numbers → a ≡ slot * n → k ≡ n → length state ≡ n → a ≤ length opened →
    Pushed n points (set points first (record { origin = origin.From p; key = key; charge = charge; fate = fate.Open })) opened (put_mid a k opened state)
    numbers numbers' first slot 1
    (successor_point tri_kind d p s (get_or (successor_keys tri_kind d s) choice 0) ∷ [])
    (record { number = first; state = after_key tri_kind d s (get_or (successor_keys tri_kind d s) choice 0) } ∷ [])
pushed_one d s p choice key charge n state points opened numbers numbers' first slot a k e_numbers e_key e_state e_charge in_points in_numbers at_slot whole long in_opened =
    let key' : ℕ = get_or (successor_keys tri_kind d s) choice 0 in
    let x : Point = record { origin = origin.From p; key = key; charge = charge; fate = fate.Open } in
    let same_state : state ≡ after_key tri_kind d s key' = e_state ∙ ap (after_key tri_kind d s) e_key in
    let same_charge : charge ≡ drawn tri_kind d s (after_key tri_kind d s key') = e_charge ∙ ap (drawn tri_kind d s) same_state in
    let same_point : x ≡ successor_point tri_kind d p s key' =
    ap (λ (l : ℕ). record { origin = origin.From p; key = l; charge = charge; fate = fate.Open }) e_key
    ∙ ap (λ (l : ℕ). record { origin = origin.From p; key = key'; charge = l; fate = fate.Open }) same_charge in
    record {
      points_added = points_push points first x in_points ∙ ap (λ (q : Point). take first points ++ (q ∷ [])) same_point;
      points_behind = drop-set-lt (first + 1) points first x (omega arith);
      open_added = ap (λ (ns : List ℕ). open_points n ns (put_mid a k opened state) (slot + 1)) e_numbers
          ∙ waiting_push n numbers opened slot first a k state in_numbers at_slot whole long in_opened
          ∙ ap (λ (t : List Tri). record { number = first; state = t } ∷ open_points n numbers opened slot) same_state;
    }

-- ---- all of them

module _ (d : Core) (s : List Tri) (p first : ℕ) where
  abbrev pub points_so_far : ℕ → List Point
  points_so_far j = map (successor_point tri_kind d p s) (take j (successor_keys tri_kind d s))

  abbrev pub open_so_far : ℕ → List (Waiting Tri)
  open_so_far j =
      reverse (map (λ i. record { number = first + i; state = after_key tri_kind d s (get_or (successor_keys tri_kind d s) i 0) }) (range_with_len 0 j))

  pub points_next : (j : ℕ) → j < length (successor_keys tri_kind d s)
      → points_so_far j ++ (successor_point tri_kind d p s (get_or (successor_keys tri_kind d s) j 0) ∷ []) ≡ points_so_far (j + 1)
  points_next j h = sym (map_more (successor_point tri_kind d p s) (successor_keys tri_kind d s) j 0 h)

  pub open_next : (j : ℕ)
      → record { number = first + j; state = after_key tri_kind d s (get_or (successor_keys tri_kind d s) j 0) } ∷ open_so_far j ≡ open_so_far (j + 1)
  open_next j =
      let f : ℕ → Waiting Tri = λ i. record { number = first + i; state = after_key tri_kind d s (get_or (successor_keys tri_kind d s) i 0) } in
      sym (ap reverse (map-range_with_len_more f 0 j j (omega arith)) ∙ reverse-append (map f (range_with_len 0 j)) (f j ∷ []))

  pub points_all : (j : ℕ) → j ≡ length (successor_keys tri_kind d s) → points_so_far j ≡ map (successor_point tri_kind d p s) (successor_keys tri_kind d s)
  points_all j e = ap (map (successor_point tri_kind d p s)) (take_all j (successor_keys tri_kind d s) (omega arith))

module _ (n : ℕ) (d : Core) (s : List Tri) (p : ℕ) (points points' : List Point) (opened opened' : List Tri) (numbers numbers' : List ℕ) (first slot : ℕ) where
  -- one successor more, written where the exploration has come to
  pub pushed_next : (points'' : List Point) (opened'' : List Tri) (numbers'' : List ℕ) (j n' first' slot' : ℕ) → j < length (successor_keys tri_kind d s) →
      n' ≡ n → first' ≡ first + j → slot' ≡ slot + j →
      Pushed n points points' opened opened' numbers numbers' first slot j (points_so_far d s p first j) (open_so_far d s p first j) →
      Pushed n' points' points'' opened' opened'' numbers' numbers'' first' slot' 1
      (successor_point tri_kind d p s (get_or (successor_keys tri_kind d s) j 0) ∷ [])
      (record { number = first'; state = after_key tri_kind d s (get_or (successor_keys tri_kind d s) j 0) } ∷ []) →
      Pushed n points points'' opened opened'' numbers numbers'' first slot (j + 1) (points_so_far d s p first (j + 1)) (open_so_far d s p first (j + 1))
  pushed_next points'' opened'' numbers'' j n' first' slot' h same_n same_first same_slot so one =
      let x : Point = successor_point tri_kind d p s (get_or (successor_keys tri_kind d s) j 0) in
      let at : ℕ → Waiting Tri = λ f. record { number = f; state = after_key tri_kind d s (get_or (successor_keys tri_kind d s) j 0) } in
      let here : Pushed n points' points'' opened' opened'' numbers' numbers'' (first + j) (slot + j) 1 (x ∷ []) (at (first + j) ∷ []) =
      subst (λ (a : ℕ). Pushed a points' points'' opened' opened'' numbers' numbers'' (first + j) (slot + j) 1 (x ∷ []) (at (first + j) ∷ [])) same_n
      (subst (λ (a : ℕ). Pushed n' points' points'' opened' opened'' numbers' numbers'' a (slot + j) 1 (x ∷ []) (at a ∷ [])) same_first
      (subst (λ (a : ℕ). Pushed n' points' points'' opened' opened'' numbers' numbers'' first' a 1 (x ∷ []) (at first' ∷ [])) same_slot one)) in
      subst (λ (ps : List Point). Pushed n points points'' opened opened'' numbers numbers'' first slot (j + 1) ps (open_so_far d s p first (j + 1))) (points_next d s p first j h)
      (subst (λ (ws : List (Waiting Tri)). Pushed n points points'' opened opened'' numbers numbers'' first slot (j + 1) (points_so_far d s p first j ++ (x ∷ [])) ws)
      (open_next d s p first j)
      (pushed_more n points opened numbers points' points'' opened' opened'' numbers' numbers'' first slot j (points_so_far d s p first j) (open_so_far d s p first j) x (at (first + j)) so here))

  pub pushed_all : (j count : ℕ) → j ≡ count → count ≡ length (successor_keys tri_kind d s) →
      Pushed n points points' opened opened' numbers numbers' first slot j (points_so_far d s p first j) (open_so_far d s p first j) →
      Pushed n points points' opened opened' numbers numbers' first slot count
      (map (successor_point tri_kind d p s) (successor_keys tri_kind d s)) (waiting_from tri_kind d first s)
  pushed_all j count all size so =
      subst (λ (ps : List Point). Pushed n points points' opened opened' numbers numbers' first slot count ps (waiting_from tri_kind d first s)) (points_all d s p first count size)
      (subst (λ (m : ℕ). Pushed n points points' opened opened' numbers numbers' first slot count (points_so_far d s p first count) (open_so_far d s p first m)) size
      (subst (λ (m : ℕ). Pushed n points points' opened opened' numbers numbers' first slot m (points_so_far d s p first m) (open_so_far d s p first m)) all so))
