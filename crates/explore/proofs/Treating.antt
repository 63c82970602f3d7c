-- Looking up a key, and the treatments of a plan. Assumes nothing.
use Rattle.std.proofs.Common.{◌≡◌, ℕ, zero, suc, ◌+◌, ◌-◌, ◌*◌, ◌%◌, ◌<◌, ◌≤◌, Bool, true, false, cond, eqb, leb, List, [], ◌∷◌, ◌++◌, map, length, get_or, take, drop, set, Some, None, Ok, Err, Option, Result, sym, refl, ap, ◌∙◌, subst, ap₂, ⊎_elim, arith, MatchResult}
use Rattle.std.specs.List.{range_with_len, position, position_from}
use Rattle.std.proofs.lemmas.Nat.{mul-le}
use Rattle.std.proofs.lemmas.List.FromFn.{length-map-range_with_len, get_or-map-range_with_len, fill_by_all}
use Rattle.std.proofs.lemmas.List.{length-take-le, get_or-take}
use Rattle.std.proofs.lemmas.Iterator.Adapters.{position_from-zero}
use Rattle.std.proofs.lemmas.Bool.{cond-true, cond-false, leb-true, cases_Bool}
use Rattle.levels.specs.declared.Tri.{Tri}
use Rattle.levels.specs.Tris.{tri_kind}
use Rattle.bundle.specs.declared.refusal.Refusal.{Refusal}
use Rattle.engine.specs.Refusals.{wrong_memory}
use Rattle.model.specs.Core.{Core, places}
use Rattle.model.proofs.Sound.{all_below_at}
use Rattle.record.specs.Record.{Record, Entry, Meaning, halt, cut, walk, Treated, halts, passes_new, passes_known, keeps, cuts, merges, key_of_point, entry_at, entry_for, look_up, is_marked, covers_all, restored, no_entry as none}
use Rattle.explore.specs.declared.exploration.Exploration.{Exploration}
use Rattle.explore.specs.Memory.{stretch, no_entry}
use Rattle.explore.proofs.Views.{times_more, kept_at}
use Rattle.explore.specs.Parts.{kept_entries}
use Rattle.explore.specs.declared.exploration.Entry.{Entry as Kept}

-- ---- looking up

-- a key is looked up by its place among the entries
places_same : (d : Core) (key n : ℕ) (entries : List Kept) (kept : List Tri) (a m i : ℕ) →
    position_from (λ (e : Kept). eqb e.key key) i (map (λ (k : ℕ). get_or entries k no_entry) (range_with_len a m))
    ≡ look_up tri_kind d key i (map (kept_at n entries kept) (range_with_len a m))
places_same d key n entries kept a zero i = refl
places_same d key n entries kept a (suc m) i =
    ap (cond (eqb (get_or entries a no_entry).key key) (Some i)) (places_same d key n entries kept (a + 1) m (i + 1))

-- the first entries, one by one
first_entries : (entries : List Kept) (count : ℕ) → count ≤ length entries
    → take count entries ≡ map (λ (k : ℕ). get_or entries k no_entry) (range_with_len 0 count)
first_entries entries count h =
    fill_by_all (λ (k : ℕ). get_or entries k no_entry) (take count entries) count no_entry (length-take-le count entries h)
    (λ i l. get_or-take count entries i no_entry l)

pub looked_at : (d : Core) (key n : ℕ) (entries : List Kept) (kept : List Tri) (count : ℕ) → count ≤ length entries
    → position (λ (e : Kept). eqb e.key key) (take count entries) ≡ look_up tri_kind d key 0 (kept_entries n entries kept count)
looked_at d key n entries kept count h =
    let test : Kept → Bool = λ (e : Kept). eqb e.key key in
    position_from-zero test (take count entries)
    ∙ (ap (position_from test 0) (first_entries entries count h) ∙ places_same d key n entries kept 0 count 0)

-- an entry that is found is one of them
found_below : (d : Core) (key j : ℕ) (es : List (Entry Tri)) (i : ℕ) → look_up tri_kind d key j es ≡ Some i → i < j + length es
found_below d key j [] i e = let z : ◌≡◌ {A = ℕ} 0 1 = cc in omega arith
found_below d key j (x ∷ es) i e =
    ⊎_elim
    (λ (t : eqb x.key key ≡ true).
    let s : Some j ≡ Some i = sym (cond-true (eqb x.key key) (Some j) (look_up tri_kind d key (j + 1) es) t) ∙ e in
    let k : j ≡ i = cc in
    omega arith)
    (λ (t : eqb x.key key ≡ false).
    let rest = found_below d key (j + 1) es i (sym (cond-false (eqb x.key key) (Some j) (look_up tri_kind d key (j + 1) es) t) ∙ e) in
    omega arith)
    (cases_Bool (eqb x.key key))

pub found_used : (d : Core) (key : ℕ) (f : ℕ → Entry Tri) (n i : ℕ) → Some i ≡ look_up tri_kind d key 0 (map f (range_with_len 0 n)) → i < n
found_used d key f n i e = omega (arith, found_below d key 0 (map f (range_with_len 0 n)) i (sym e), length-map-range_with_len f 0 n)

-- ---- stretches within

pub stretch_inside : (i n count long : ℕ) → i < count → count * n ≤ long → i * n + n ≤ long
stretch_inside i n count long h all =
    omega (arith, times_more i n, mul-le (i + 1) n count n (omega arith) (omega arith))

-- stretch i as a part that begins at its first place
pub stretch_part : (i n : ℕ) (xs : List Tri) → take (i * n + n - i * n) (drop (i * n) xs) ≡ stretch n xs i
stretch_part i n xs = let size : i * n + n - i * n ≡ n = omega arith in ap (λ (m : ℕ). take m (drop (i * n) xs)) size

-- ---- the treatment of each plan

pub restored_whole : (d : Core) (key : ℕ) (before after : List Tri) (answer : Result Unit Refusal) → length before ≡ places d →
    MatchResult answer (λ _. (length before ≡ places d) × (after ≡ restored tri_kind d key before))
    (λ e. (length before ≡ places d → ⊥) × (e ≡ wrong_memory) × (after ≡ before)) →
    after ≡ restored tri_kind d key before
restored_whole d key before after (Ok u) whole x = x.1
restored_whole d key before after (Err e) whole x = absurd (x.0 whole)

module _ (d : Core) (m : Meaning Tri) (s : List Tri) (r : Record Tri) (p key : ℕ) (same : key_of_point tri_kind d r p ≡ key) where
  pub halt_treats : key % 2 ≡ 1 → Treated tri_kind d m r p s halt
  halt_treats h = halts (ap (λ (k : ℕ). k % 2) same ∙ h)

  module _ (es : List (Entry Tri)) (KeptSame : r.entries ≡ es) (even : key % 2 ≡ 0) (marked : Bool) (is : marked ≡ is_marked tri_kind d s) where
    looks : (o : Option ℕ) → look_up tri_kind d key 0 es ≡ o → look_up tri_kind d (key_of_point tri_kind d r p) 0 r.entries ≡ o
    looks o e = ap₂ (λ (k : ℕ) (xs : List (Entry Tri)). look_up tri_kind d k 0 xs) same KeptSame ∙ e

    evens : key_of_point tri_kind d r p % 2 ≡ 0
    evens = ap (λ (k : ℕ). k % 2) same ∙ even

    watched : (count : ℕ) (answer : Bool) → m.watches key count marked answer ≡ true
        → m.watches (key_of_point tri_kind d r p) count (is_marked tri_kind d s) answer ≡ true
    watched count answer e = ap₂ (λ (k : ℕ) (b : Bool). m.watches k count b answer) same (sym is) ∙ e

    pub pass_new_treats : look_up tri_kind d key 0 es ≡ None → m.watches key 0 marked false ≡ true → Treated tri_kind d m r p s (walk s r.entries)
    pass_new_treats none w = passes_new evens (looks None none) (watched 0 false w)

    pub add_treats : look_up tri_kind d key 0 es ≡ None → m.watches key 0 marked true ≡ true
        → Treated tri_kind d m r p s (walk s (r.entries ++ (entry_for tri_kind d key p 0 s ∷ [])))
    add_treats none w =
        subst (λ (k : ℕ). Treated tri_kind d m r p s (walk s (r.entries ++ (entry_for tri_kind d k p 0 s ∷ [])))) same
        (keeps evens (looks None none) (watched 0 true w))

    module _ (i : ℕ) (e : Entry Tri) (known : look_up tri_kind d key 0 es ≡ Some i) (there : entry_at tri_kind d r i ≡ e) where
      counted : (answer : Bool) → m.watches key e.count marked answer ≡ true
          → m.watches (key_of_point tri_kind d r p) (entry_at tri_kind d r i).count (is_marked tri_kind d s) answer ≡ true
      counted answer w =
          ap (λ (x : Entry Tri). m.watches (key_of_point tri_kind d r p) x.count (is_marked tri_kind d s) answer) there ∙ watched e.count answer w

      pub pass_known_treats : m.watches key e.count marked false ≡ true → Treated tri_kind d m r p s (walk s r.entries)
      pass_known_treats w = passes_known i evens (looks (Some i) known) (counted false w)

      pub cut_treats : m.watches key e.count marked true ≡ true → covers_all tri_kind e.state s ≡ true → Treated tri_kind d m r p s (cut e.point)
      cut_treats w c =
          subst (λ (x : Entry Tri). Treated tri_kind d m r p s (cut x.point)) there
          (cuts i evens (looks (Some i) known) (counted true w) (ap (λ (x : Entry Tri). covers_all tri_kind x.state s) there ∙ c))

      pub replace_treats : (t after : List Tri) (nets count : ℕ) → m.watches key e.count marked true ≡ true → covers_all tri_kind e.state s ≡ false
          → nets ≡ length d.nets → m.merges e.state s nets e.count t ≡ true → after ≡ restored tri_kind d key t → count ≡ e.count + 1
          → Treated tri_kind d m r p s (walk after (set r.entries i (entry_for tri_kind d key p count after)))
      replace_treats t after nets count w c n merged whole more =
          let u : List Tri = restored tri_kind d (key_of_point tri_kind d r p) t in
          let as_after : u ≡ after = ap (λ (k : ℕ). restored tri_kind d k t) same ∙ sym whole in
          let as_count : (entry_at tri_kind d r i).count + 1 ≡ count = ap (λ (x : Entry Tri). x.count + 1) there ∙ sym more in
          let first : Treated tri_kind d m r p s (walk u (set r.entries i (entry_for tri_kind d (key_of_point tri_kind d r p) p ((entry_at tri_kind d r i).count + 1) u))) =
          merges i t evens (looks (Some i) known) (counted true w) (ap (λ (x : Entry Tri). covers_all tri_kind x.state s) there ∙ c)
          (ap₂ (λ (x : Entry Tri) (l : ℕ). m.merges x.state s l x.count t) there (sym n) ∙ merged) in
          subst (λ (k : ℕ). Treated tri_kind d m r p s (walk after (set r.entries i (entry_for tri_kind d k p count after)))) same
          (subst (λ (v : List Tri). Treated tri_kind d m r p s (walk v (set r.entries i (entry_for tri_kind d (key_of_point tri_kind d r p) p count v)))) as_after
          (subst (λ (n : ℕ). Treated tri_kind d m r p s (walk u (set r.entries i (entry_for tri_kind d (key_of_point tri_kind d r p) p n u)))) as_count first))

-- the entry in use that stands at place i
pub entry_there : (d : Core) (r : Record Tri) (f : ℕ → Entry Tri) (n i : ℕ) → r.entries ≡ map f (range_with_len 0 n) → i < n → entry_at tri_kind d r i ≡ f i
entry_there d r f n i e h =
    ap (λ (es : List (Entry Tri)). get_or es i (none tri_kind d)) e ∙ get_or-map-range_with_len f 0 n i i (none tri_kind d) h (omega arith)

-- it was replaced less often than there are points taken
pub few_replaced_at : (x : Exploration) (i : ℕ) → i < x.entry_count → (get_or x.entries i no_entry).count + x.open_count ≤ x.point_count
few_replaced_at x i h =
    leb-true ((get_or x.entries i no_entry).count + x.open_count) x.point_count
    (all_below_at x.entry_count (λ j. leb ((get_or x.entries j no_entry).count + x.open_count) x.point_count) i x.few_replaced h)
