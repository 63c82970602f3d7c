-- Stretches, open points, points and entries after one write to memory. Assumes nothing.
use Rattle.std.proofs.Common.{◌≡◌, ℕ, zero, suc, ◌+◌, ◌-◌, ◌*◌, ◌<◌, ◌≤◌, Bool, true, ltb, ◌≢◌, List, [], ◌∷◌, ◌++◌, map, reverse, length, get_or, take, drop, set, sym, refl, ap, ◌∙◌, ⊎_elim, add-mul, one-mul, arith}
use borrow.Rule.Slice.PartMut.{put_mid}
use lib.Seq.{take-set-lt}
use Rattle.std.specs.List.{range_with_len}
use Rattle.std.proofs.lemmas.Nat.{mul-le}
use Rattle.std.proofs.lemmas.List.FromFn.{length-map-range_with_len, get_or-map-range_with_len, map-range_with_len_more, fill_by_all}
use Rattle.std.proofs.lemmas.List.{length-append, length-drop, length-set, length-take-le, reverse-append, drop-take, take-take, get_or-set_same, get_or-set_other, get_or-take, take_more_set}
use Rattle.std.proofs.lemmas.Slice.{take-put_mid_below, drop-put_mid, between-put_mid}
use Rattle.std.proofs.lemmas.Bool.{cases_eq, cases_lt, and_from, ltb-true, lt-ltb}
use Rattle.levels.specs.declared.Tri.{Tri}
use Rattle.model.specs.Core.{every, all_below}
use Rattle.model.proofs.Sound.{all_below_at}
use Rattle.record.specs.declared.point.Fate.{Fate}
use Rattle.record.specs.declared.point.Point.{Point}
use Rattle.record.specs.Record as recorded
use Rattle.record.specs.Record.{Record, Waiting, nowhere, with_fate, marked_as}
use Rattle.explore.specs.declared.exploration.Entry.{Entry}
use Rattle.explore.specs.Memory.{stretch, no_entry}
use Rattle.explore.specs.Parts.{open_points, kept_entries}

-- ---- numbers

pub times_more : (i n : ℕ) → (i + 1) * n ≡ i * n + n
times_more i n = add-mul i 1 n ∙ ap (λ (m : ℕ). i * n + m) (one-mul n)

-- a stretch that ends before another begins
stretch_before : (j i n : ℕ) → j < i → j * n + n ≤ i * n
stretch_before j i n h = omega (arith, times_more j n, mul-le (j + 1) n i n (omega arith) (omega arith))

-- ---- stretches

-- a stretch within the front that two lists share
pub stretch_same : (n m : ℕ) (xs ys : List Tri) (j : ℕ) → j * n + n ≤ m → take m xs ≡ take m ys → stretch n xs j ≡ stretch n ys j
stretch_same n m xs ys j h e =
    sym (drop-take (j * n) n xs)
    ∙ (ap (drop (j * n)) (sym (take-take (j * n + n) m xs h) ∙ (ap (take (j * n + n)) e ∙ take-take (j * n + n) m ys h))
    ∙ drop-take (j * n) n ys)

-- What a write of stretch i leaves. The part begins at a and has k places.
module _ (n i a k : ℕ) (xs ys : List Tri) (at_stretch : a ≡ i * n) (whole : k ≡ n) (long : length ys ≡ n) where
  pub length_put : a + n ≤ length xs → length (put_mid a k xs ys) ≡ length xs
  length_put h =
      length-append (take a xs) (ys ++ drop k (drop a xs))
      ∙ omega (arith, length-take-le a xs (omega arith), length-append ys (drop k (drop a xs)), length-drop k (drop a xs), length-drop a xs)

  pub stretch_put : a ≤ length xs → stretch n (put_mid a k xs ys) i ≡ ys
  stretch_put h =
      let size : n ≡ i * n + n - i * n = omega arith in
      ap (λ (m : ℕ). take m (drop (i * n) (put_mid a k xs ys))) size
      ∙ (ap (λ (b : ℕ). take (i * n + n - i * n) (drop (i * n) (put_mid b k xs ys))) at_stretch
      ∙ between-put_mid (i * n) k xs ys (i * n + n) (omega arith) (omega arith))

  pub stretch_put_other : (j : ℕ) → j ≢ i → a ≤ length xs → stretch n (put_mid a k xs ys) j ≡ stretch n xs j
  stretch_put_other j other h =
      ⊎_elim
      (λ (low : j < i). stretch_same n a (put_mid a k xs ys) xs j (omega (arith, stretch_before j i n low)) (take-put_mid_below a k xs ys a (omega arith) h))
      (λ (high : i ≤ j).
      let after : i < j = ⊎_elim (λ (l : i < j). l) (λ (l : j ≤ i). absurd (other (omega arith))) (cases_lt i j) in
      ap (take n) (drop-put_mid a k xs ys (j * n) (omega (arith, stretch_before i j n after)) h (omega arith)))
      (cases_lt j i)

  pub drop_put : a ≤ length xs → drop ((i + 1) * n) (put_mid a k xs ys) ≡ drop ((i + 1) * n) xs
  drop_put h = drop-put_mid a k xs ys ((i + 1) * n) (omega (arith, times_more i n)) h (omega arith)

-- ---- lists made from a function of the index

map_same : {X : Type 0} (f g : ℕ → X) (m : ℕ) → ((i : ℕ) → i < m → f i ≡ g i) → map f (range_with_len 0 m) ≡ map g (range_with_len 0 m)
map_same f g m h =
    fill_by_all g (map f (range_with_len 0 m)) m (f 0) (length-map-range_with_len f 0 m)
    (λ i l. get_or-map-range_with_len f 0 m i i (f 0) l (omega arith) ∙ h i l)

-- ---- open points, the last first

abbrev pub open_at : ℕ → List ℕ → List Tri → ℕ → Waiting Tri
open_at n numbers opened i = record { number = get_or numbers i 0; state = stretch n opened i }

pub open_points_at : {n n' : ℕ} {numbers numbers' : List ℕ} {opened opened' : List Tri} {count count' : ℕ}
    → n' ≡ n → numbers' ≡ numbers → opened' ≡ opened → count' ≡ count
    → open_points n' numbers' opened' count' ≡ open_points n numbers opened count
open_points_at {n} {n'} {numbers} {numbers'} {opened} {opened'} {count} {count'} a b c e =
    ap (λ (v : ℕ). open_points v numbers' opened' count') a
    ∙ (ap (λ (v : List ℕ). open_points n v opened' count') b
    ∙ (ap (λ (v : List Tri). open_points n numbers v count') c ∙ ap (open_points n numbers opened) e))

-- the last of one more
pub waiting_pop : (n : ℕ) (numbers : List ℕ) (opened : List Tri) (count : ℕ)
    → open_points n numbers opened (count + 1) ≡ open_at n numbers opened count ∷ open_points n numbers opened count
waiting_pop n numbers opened count =
    let f = open_at n numbers opened in
    ap reverse (map-range_with_len_more f 0 count count (omega arith)) ∙ reverse-append (map f (range_with_len 0 count)) (f count ∷ [])

-- the last of some
pub waiting_last : (n : ℕ) (numbers : List ℕ) (opened : List Tri) (count : ℕ) → 0 < count
    → open_points n numbers opened count ≡ open_at n numbers opened (count - 1) ∷ open_points n numbers opened (count - 1)
waiting_last n numbers opened count h =
    let more : count ≡ count - 1 + 1 = omega arith in
    ap (open_points n numbers opened) more ∙ waiting_pop n numbers opened (count - 1)

-- Two memories that agree on the first of their numbers and stretches.
module _ (n : ℕ) (numbers numbers' : List ℕ) (opened opened' : List Tri) (count : ℕ)
    (same_numbers : (i : ℕ) → i < count → get_or numbers' i 0 ≡ get_or numbers i 0)
    (same_states : (i : ℕ) → i < count → stretch n opened' i ≡ stretch n opened i) where
  pub waiting_same : open_points n numbers' opened' count ≡ open_points n numbers opened count
  waiting_same =
      ap reverse (map_same (open_at n numbers' opened') (open_at n numbers opened) count
      (λ i h. let a = same_numbers i h in let b = same_states i h in cc))

  pub waiting_more : (number : ℕ) (state : List Tri) → get_or numbers' count 0 ≡ number → stretch n opened' count ≡ state
      → open_points n numbers' opened' (count + 1) ≡ record { number = number; state = state } ∷ open_points n numbers opened count
  waiting_more number state e s = let last = waiting_pop n numbers' opened' count in let rest = waiting_same in cc

-- one more open point, its number set behind the others and its state written into the stretch behind theirs
pub waiting_push : (n : ℕ) (numbers : List ℕ) (opened : List Tri) (count number a k : ℕ) (state : List Tri)
    → count < length numbers → a ≡ count * n → k ≡ n → length state ≡ n → a ≤ length opened
    → open_points n (set numbers count number) (put_mid a k opened state) (count + 1)
    ≡ record { number = number; state = state } ∷ open_points n numbers opened count
waiting_push n numbers opened count number a k state room start whole long h =
    waiting_more n numbers (set numbers count number) opened (put_mid a k opened state) count
    (λ i l. get_or-set_other numbers count i number 0 (omega arith))
    (λ i l. stretch_put_other n count a k opened state start whole long i (omega arith) h)
    number state (get_or-set_same numbers count number 0 room) (stretch_put n count a k opened state start whole long h)

-- ---- the numbers of open points, all in use

pub all_below_from : (n : ℕ) (f : ℕ → Bool) → ((i : ℕ) → i < n → f i ≡ true) → all_below n f ≡ true
all_below_from n f h = go 0 n (λ i l. let e : 0 + i ≡ i = omega arith in ap f e ∙ h i l)
  where
    go : (a m : ℕ) → ((i : ℕ) → i < m → f (a + i) ≡ true) → every f (range_with_len a m) ≡ true
    go a zero g = refl
    go a (suc m) g =
        let here : a ≡ a + 0 = omega arith in
        and_from (f a) (every f (range_with_len (a + 1) m)) (ap f here ∙ g 0 (omega arith))
        (go (a + 1) m (λ i l. let e : a + 1 + i ≡ a + suc i = omega arith in ap f e ∙ g (suc i) (omega arith)))

-- fewer open points, or more points
pub numbers_kept : (numbers : List ℕ) (count fewer points more : ℕ) → fewer ≤ count → points ≤ more
    → all_below count (λ i. ltb (get_or numbers i 0) points) ≡ true → all_below fewer (λ i. ltb (get_or numbers i 0) more) ≡ true
numbers_kept numbers count fewer points more f m used =
    all_below_from fewer (λ i. ltb (get_or numbers i 0) more)
    (λ i l.
    lt-ltb (get_or numbers i 0) more
    (omega (arith, ltb-true (get_or numbers i 0) points (all_below_at count (λ i. ltb (get_or numbers i 0) points) i used (omega arith)))))

-- one more open point
pub numbers_push : (numbers : List ℕ) (count number points more : ℕ) → count < length numbers → number < more → points ≤ more
    → all_below count (λ i. ltb (get_or numbers i 0) points) ≡ true
    → all_below (count + 1) (λ i. ltb (get_or (set numbers count number) i 0) more) ≡ true
numbers_push numbers count number points more room below m used =
    all_below_from (count + 1) (λ i. ltb (get_or (set numbers count number) i 0) more)
    (λ i l.
    lt-ltb (get_or (set numbers count number) i 0) more
    (⊎_elim
    (λ (here : i ≡ count).
    let e : get_or (set numbers count number) i 0 ≡ number = ap (λ (j : ℕ). get_or (set numbers count number) j 0) here ∙ get_or-set_same numbers count number 0 room in
    omega arith)
    (λ (other : i ≡ count → ⊥).
    omega (
      arith,
      get_or-set_other numbers count i number 0 other,
      ltb-true (get_or numbers i 0) points (all_below_at count (λ i. ltb (get_or numbers i 0) points) i used (omega arith)),
    ))
    (cases_eq i count)))

-- ---- points

-- a point behind those in use
pub points_push : (points : List Point) (count : ℕ) (p : Point) → count < length points
    → take (count + 1) (set points count p) ≡ take count points ++ (p ∷ [])
points_push points count p h = take_more_set points count p h

-- the fate of a point in use
pub points_set : (points : List Point) (count i : ℕ) (f : Fate) → i < count
    → take count (set points i (with_fate f (get_or points i nowhere))) ≡ marked_as f i (take count points)
points_set points count i f h =
    take-set-lt count points i (with_fate f (get_or points i nowhere)) h
    ∙ ap (λ (p : Point). set (take count points) i (with_fate f p)) (sym (get_or-take count points i nowhere h))

-- ---- entries

abbrev pub entry_of : Entry → List Tri → recorded.Entry Tri
entry_of e s = record { key = e.key; point = e.point; count = e.count; state = s }

abbrev pub kept_at : ℕ → List Entry → List Tri → ℕ → recorded.Entry Tri
kept_at n entries kept i = entry_of (get_or entries i no_entry) (stretch n kept i)

pub kept_entries_at : {n n' : ℕ} {entries entries' : List Entry} {kept kept' : List Tri} {count count' : ℕ}
    → n' ≡ n → entries' ≡ entries → kept' ≡ kept → count' ≡ count
    → kept_entries n' entries' kept' count' ≡ kept_entries n entries kept count
kept_entries_at {n} {n'} {entries} {entries'} {kept} {kept'} {count} {count'} a b c e =
    ap (λ (v : ℕ). kept_entries v entries' kept' count') a
    ∙ (ap (λ (v : List Entry). kept_entries n v kept' count') b
    ∙ (ap (λ (v : List Tri). kept_entries n entries v count') c ∙ ap (kept_entries n entries kept) e))

-- entry i and kept stretch i written, the others as they were
kept_at_other : (n : ℕ) (entries : List Entry) (kept : List Tri) (i a k : ℕ) (e : Entry) (s : List Tri)
    → a ≡ i * n → k ≡ n → length s ≡ n → a ≤ length kept → (j : ℕ) → j ≢ i
    → kept_at n (set entries i e) (put_mid a k kept s) j ≡ kept_at n entries kept j
kept_at_other n entries kept i a k e s start whole long h j other =
    let x = get_or-set_other entries i j e no_entry other in
    let y = stretch_put_other n i a k kept s start whole long j other h in
    cc

kept_at_same : (n : ℕ) (entries : List Entry) (kept : List Tri) (i a k : ℕ) (e : Entry) (s : List Tri)
    → i < length entries → a ≡ i * n → k ≡ n → length s ≡ n → a ≤ length kept
    → kept_at n (set entries i e) (put_mid a k kept s) i ≡ entry_of e s
kept_at_same n entries kept i a k e s room start whole long h =
    let x = get_or-set_same entries i e no_entry room in
    let y = stretch_put n i a k kept s start whole long h in
    cc

-- an entry behind those in use
pub entries_push : (n : ℕ) (entries : List Entry) (kept : List Tri) (count a k : ℕ) (e : Entry) (s : List Tri)
    → count < length entries → a ≡ count * n → k ≡ n → length s ≡ n → a ≤ length kept
    → kept_entries n (set entries count e) (put_mid a k kept s) (count + 1) ≡ kept_entries n entries kept count ++ (entry_of e s ∷ [])
entries_push n entries kept count a k e s room start whole long h =
    let f = kept_at n (set entries count e) (put_mid a k kept s) in
    let more = map-range_with_len_more f 0 count count (omega arith) in
    let front = map_same f (kept_at n entries kept) count (λ j l. kept_at_other n entries kept count a k e s start whole long h j (omega arith)) in
    let last = kept_at_same n entries kept count a k e s room start whole long h in
    cc

-- an entry in use
pub entries_set : (n : ℕ) (entries : List Entry) (kept : List Tri) (count i a k : ℕ) (e : Entry) (s : List Tri)
    → i < count → i < length entries → a ≡ i * n → k ≡ n → length s ≡ n → a ≤ length kept
    → kept_entries n (set entries i e) (put_mid a k kept s) count ≡ set (kept_entries n entries kept count) i (entry_of e s)
entries_set n entries kept count i a k e s used room start whole long h =
    let f = kept_at n (set entries i e) (put_mid a k kept s) in
    let g = kept_at n entries kept in
    let d = entry_of no_entry [] in
    let size = length-map-range_with_len g 0 count in
    sym (fill_by_all f (set (map g (range_with_len 0 count)) i (entry_of e s)) count d (length-set (map g (range_with_len 0 count)) i (entry_of e s) ∙ size)
    (λ j l.
    ⊎_elim
    (λ (here : j ≡ i).
    ap (λ (m : ℕ). get_or (set (map g (range_with_len 0 count)) i (entry_of e s)) m d) here
    ∙ (get_or-set_same (map g (range_with_len 0 count)) i (entry_of e s) d (omega arith)
    ∙ (sym (kept_at_same n entries kept i a k e s room start whole long h) ∙ ap f (sym here))))
    (λ (other : j ≡ i → ⊥).
    get_or-set_other (map g (range_with_len 0 count)) i j (entry_of e s) d other
    ∙ (get_or-map-range_with_len g 0 count j j d l (omega arith) ∙ sym (kept_at_other n entries kept i a k e s start whole long h j other)))
    (cases_eq j i)))

-- ---- records

pub same_record : {points points' : List Point} {waiting waiting' : List (Waiting Tri)} {entries entries' : List (recorded.Entry Tri)}
    → points' ≡ points → waiting' ≡ waiting → entries' ≡ entries
    → ◌≡◌ {A = Record Tri} (record { points = points'; waiting = waiting'; entries = entries' }) (record { points = points; waiting = waiting; entries = entries })
same_record a b c = cc
