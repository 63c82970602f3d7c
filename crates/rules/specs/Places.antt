-- States turned into others place by place. Assumes nothing.
use Rattle.std.specs.Prelude.{◌≡◌, ℕ, zero, suc, ◌+◌, ◌-◌, ◌*◌, ◌/◌, ◌%◌, ◌<◌, ◌≤◌, min, Bool, true, false, cond, not, ◌&&◌, ◌||◌, ◌≢◌, ◌⊎◌, List, [], ◌∷◌, ◌++◌, length, get_or, take, drop, replicate, slice_index_or, slice_range, slice_set, refl}
use Rattle.std.proofs.Common.{sym, ap, ap₂, ◌∙◌, subst, inl, inr, ⊎_elim, arith, rules, get_or-set_same, get_or-set_other}
use borrow.Rule.Slice.PartMut.{put_mid}
use Rattle.std.proofs.lemmas.List.FromFn.{length-map-range_with_len, get_or-map-range_with_len}
use Rattle.std.proofs.lemmas.Slice.{overwrites}
use Rattle.std.proofs.lemmas.List.{places, append-nil, ext_get_or, get_or-drop, get_or-take, get_or_past, get_or-replicate, length-drop, length-take-le, take_all, take_rest, drop_more, drop_all}
use Rattle.std.proofs.lemmas.Bool.{cases_lt, lt-leb, le-leb, or_left, or_right, or_from}
use Rattle.levels.specs.declared.Tri.{Tri}
use Rattle.levels.specs.declared.Tri.TheVariants.{X}
use Rattle.rules.specs.States.{level_decides, apart}
use Rattle.rules.specs.Merges.{same_level, joined_level, plain_merge, differ, unknown_from, eager_merge, has_unknown, word_of, whole_place, whole_words, whole_word}

-- ---- a loop that turns the places below i

abbrev pub Halfway : List Tri → List Tri → List Tri → ℕ → Type 0
Halfway target start s i =
    ((k : ℕ) → k < i → slice_index_or s k X ≡ slice_index_or target k X) × ((k : ℕ) → i ≤ k → slice_index_or s k X ≡ slice_index_or start k X)

pub halfway_on : (target start s t : List Tri) (i j : ℕ) → i ≤ j → Halfway target start s i →
    ((k : ℕ) → k < i → slice_index_or t k X ≡ slice_index_or s k X) →
    ((k : ℕ) → i ≤ k → k < j → slice_index_or t k X ≡ slice_index_or target k X) →
    ((k : ℕ) → j ≤ k → slice_index_or t k X ≡ slice_index_or s k X) →
    Halfway target start t j
halfway_on target start s t i j le h low mid high =
    (λ k b. ⊎_elim (λ l. low k l ∙ h.0 k l) (λ l. mid k l b) (cases_lt k i), λ k b. high k b ∙ h.1 k (omega arith))

pub halfway_set : (target start s : List Tri) (i : ℕ) (v : Tri) → i < length s → v ≡ slice_index_or target i X →
    Halfway target start s i → Halfway target start (slice_set s i v) (i + 1)
halfway_set target start s i v l e h =
    halfway_on target start s (slice_set s i v) i (i + 1) (omega arith) h
    (λ k b. let ne : k ≢ i = omega arith in get_or-set_other s i k v X ne)
    (λ k a b. let q : k ≡ i = omega arith in
    subst (λ (n : ℕ). slice_index_or (slice_set s i v) n X ≡ slice_index_or target n X) (sym q) (get_or-set_same s i v X l ∙ e))
    (λ k b. let ne : k ≢ i = omega arith in get_or-set_other s i k v X ne)

pub halfway_all : (target start s : List Tri) (i : ℕ) → length s ≡ length target →
    ((k : ℕ) → i ≤ k → slice_index_or start k X ≡ slice_index_or target k X) → Halfway target start s i → s ≡ target
halfway_all target start s i e same h =
    ext_get_or X s target e (λ k l. ⊎_elim (λ b. h.0 k b) (λ b. h.1 k b ∙ same k b) (cases_lt k i))

-- ---- plain

pub length_plain : (kept new : List Tri) → length (plain_merge kept new) ≡ length new
length_plain kept [] = refl
length_plain [] (w ∷ ws) = refl
length_plain (v ∷ vs) (w ∷ ws) = ap suc (length_plain vs ws)

pub plain_at : (kept new : List Tri) (k : ℕ) (d e : Tri) → k < length kept → k < length new →
    joined_level (slice_index_or kept k d) (slice_index_or new k e) ≡ slice_index_or (plain_merge kept new) k X
plain_at kept [] k d e a b = let z : ⊥ = omega arith in absurd z
plain_at [] (w ∷ ws) k d e a b = let z : ⊥ = omega arith in absurd z
plain_at (v ∷ vs) (w ∷ ws) zero d e a b = refl
plain_at (v ∷ vs) (w ∷ ws) (suc k) d e a b = plain_at vs ws k d e (omega arith) (omega arith)

pub plain_past : (kept new : List Tri) (k : ℕ) → (k < length kept → k < length new → ⊥) → slice_index_or new k X ≡ slice_index_or (plain_merge kept new) k X
plain_past kept [] k h = refl
plain_past [] (w ∷ ws) k h = refl
plain_past (v ∷ vs) (w ∷ ws) zero h = absurd (h (omega arith) (omega arith))
plain_past (v ∷ vs) (w ∷ ws) (suc k) h = plain_past vs ws k (λ a b. h (omega arith) (omega arith))

-- ---- two stretches that differ

differ_none : (ws : List Tri) → differ [] ws ≡ false
differ_none [] = refl
differ_none (w ∷ ws) = refl

pub differ_more : (vs ws : List Tri) (i : ℕ) (d e : Tri) → i < length vs → i < length ws →
    differ (drop i vs) (drop i ws) ≡ (not (same_level (slice_index_or vs i d) (slice_index_or ws i e)) || differ (drop (i + 1) vs) (drop (i + 1) ws))
differ_more vs ws i d e a b = ap₂ differ (drop_more vs i d a) (drop_more ws i e b)

pub differ_past : (vs ws : List Tri) (i : ℕ) → (length vs ≤ i) ⊎ (length ws ≤ i) → differ (drop i vs) (drop i ws) ≡ false
differ_past vs ws i (inl h) = ap (λ (t : List Tri). differ t (drop i ws)) (drop_all i vs h) ∙ differ_none (drop i ws)
differ_past vs ws i (inr h) = ap (λ (t : List Tri). differ (drop i vs) t) (drop_all i ws h)

pub eager_is : (nets : ℕ) (kept new result : List Tri) (b : Bool) → b ≡ differ (drop nets kept) (drop nets new) →
    result ≡ cond b (unknown_from nets (plain_merge kept new)) (plain_merge kept new) → result ≡ eager_merge nets kept new
eager_is nets kept new result b e h = h ∙ ap (λ (t : Bool). cond t (unknown_from nets (plain_merge kept new)) (plain_merge kept new)) e

-- ---- a stretch written anew, and all places from a number on

module _ (a k : ℕ) (xs ys : List Tri) (fits : a + k ≤ length xs) (long : length ys ≡ k) where
  pub length_put : length (put_mid a k xs ys) ≡ length xs
  length_put = grind (arith, places)

  pub put_below : (j : ℕ) → j < a → slice_index_or (put_mid a k xs ys) j X ≡ slice_index_or xs j X
  put_below j h = grind (arith, places)

  pub put_inside : (j : ℕ) → a ≤ j → j < a + k → slice_index_or (put_mid a k xs ys) j X ≡ slice_index_or ys (j - a) X
  put_inside j g h = grind (arith, places)

  pub put_above : (j : ℕ) → a + k ≤ j → slice_index_or (put_mid a k xs ys) j X ≡ slice_index_or xs j X
  put_above j h = grind (arith, places)

pub unknown_none : (first : ℕ) (s : List Tri) → length s ≤ first → s ≡ unknown_from first s
unknown_none first s h =
    let z : length s - first ≡ 0 = omega arith in
    sym (ap₂ (λ (t : List Tri) (n : ℕ). t ++ replicate n X) (take_all first s h) z ∙ append-nil s)

pub unknown_put : (first : ℕ) (s w : List Tri) → first < length s → w ≡ replicate (length (take (length s - first) (drop first s))) X →
    put_mid first (length s - first) s w ≡ unknown_from first s
unknown_put first s w h e =
    let n : length (take (length s - first) (drop first s)) ≡ length s - first = ap length (take_rest s first) ∙ length-drop first s in
    ap (put_mid first (length s - first) s) (e ∙ ap (λ (m : ℕ). replicate m X) n) ∙ search (rules, overwrites)

-- ---- a word with an X

pub has_true : (w : List Tri) (k : ℕ) → k < length w → ((d : Tri) → slice_index_or w k d ≡ X) → has_unknown w ≡ true
has_true [] k h e = let z : ⊥ = omega arith in absurd z
has_true (v ∷ vs) zero h e = or_left (same_level v X) (has_unknown vs) ((level_decides v X).1 (e X))
has_true (v ∷ vs) (suc k) h e = or_right (same_level v X) (has_unknown vs) (has_true vs k (omega arith) e)

pub has_false : (w : List Tri) → ((k : ℕ) (d : Tri) → 0 ≤ k → k < length w → slice_index_or w k d ≢ X) → has_unknown w ≡ false
has_false [] h = refl
has_false (v ∷ vs) h =
    or_from (same_level v X) (has_unknown vs) (apart v X (h 0 X (omega arith) (omega arith)))
    (has_false vs (λ k d a b. h (suc k) d (omega arith) (omega arith)))

-- ---- whole words

pub length_whole : (nets : ℕ) (s : List Tri) → length (whole_words nets s) ≡ length s
length_whole nets s = length-map-range_with_len (whole_place nets s) 0 (length s)

pub whole_at : (nets : ℕ) (s : List Tri) (k : ℕ) → k < length s → slice_index_or (whole_words nets s) k X ≡ whole_place nets s k
whole_at nets s k h = get_or-map-range_with_len (whole_place nets s) 0 (length s) k k X h (omega arith)

pub whole_past : (nets : ℕ) (s : List Tri) (k : ℕ) → length s ≤ k → slice_index_or s k X ≡ slice_index_or (whole_words nets s) k X
whole_past nets s k h =
    get_or_past s k X h ∙ sym (get_or_past (whole_words nets s) k X (let e = length_whole nets s in omega arith))

-- nets stay as they are
pub whole_net : (nets : ℕ) (s : List Tri) (k : ℕ) → k < nets → slice_index_or s k X ≡ slice_index_or (whole_words nets s) k X
whole_net nets s k h = ⊎_elim inside (whole_past nets s k) (cases_lt k (length s))
  where
    inside : k < length s → slice_index_or s k X ≡ slice_index_or (whole_words nets s) k X
    inside l =
        sym (whole_at nets s k l
        ∙ ap (λ (b : Bool). cond (b && has_unknown (word_of nets s k)) X (slice_index_or s k X)) (lt-leb nets k h))

word_place : (w : List Tri) (j : ℕ) → j < length w → slice_index_or (whole_word w) j X ≡ cond (has_unknown w) X (slice_index_or w j X)
word_place w j h = go (has_unknown w)
  where
    go : (b : Bool) → slice_index_or (cond b (replicate (length w) X) w) j X ≡ cond b X (slice_index_or w j X)
    go true = get_or-replicate (length w) j X X h
    go false = refl

-- the places from i on are those of the start
same_rest : (s t : List Tri) (i : ℕ) → length s ≡ length t → ((k : ℕ) → i ≤ k → slice_index_or s k X ≡ slice_index_or t k X) → drop i s ≡ drop i t
same_rest s t i e h =
    ext_get_or X (drop i s) (drop i t) (length-drop i s ∙ ap (λ (n : ℕ). n - i) e ∙ sym (length-drop i t))
    (λ k l. get_or-drop i s k X ∙ h (i + k) (omega arith) ∙ sym (get_or-drop i t k X))

-- a word that ends with the state
short_word : (r : List Tri) (n : ℕ) → n ≡ min 16 (length r) → take n r ≡ take 16 r
short_word r n e = ⊎_elim (λ h. take_all n r (omega arith) ∙ sym (take_all 16 r (omega arith)))
    (λ h. let q : n ≡ 16 = omega arith in ap (λ (m : ℕ). take m r) q) (cases_lt (length r) 16)

-- the places of the word from `first` to `end`, when it is whole
pub whole_step : (nets : ℕ) (start s : List Tri) (first end : ℕ) → length s ≡ length start → nets ≤ first → (first - nets) % 16 ≡ 0 →
    end ≡ first + min 16 (length s - first) → ((j : ℕ) → first ≤ j → slice_index_or s j X ≡ slice_index_or start j X) → (k : ℕ) → first ≤ k → k < end →
    slice_index_or (whole_word (slice_range s first end)) (k - first) X ≡ slice_index_or (whole_words nets start) k X
whole_step nets start s first end len low aligned stop rest k a b =
    let n = length-drop first s in
    let m = length-take-le (end - first) (drop first s) (omega arith) in
    let base : first ≡ nets + 16 * ((k - nets) / 16) = omega arith in
    let size : end - first ≡ min 16 (length (drop first start)) = omega (arith, length-drop first start) in
    let place : first + (k - first) ≡ k = omega arith in
    let word : take (end - first) (drop first s) ≡ word_of nets start k =
    ap (take (end - first)) (same_rest s start first len rest) ∙ short_word (drop first start) (end - first) size
    ∙ ap (λ (i : ℕ). take 16 (drop i start)) base in
    let level : get_or (slice_range s first end) (k - first) X ≡ get_or start k X =
    get_or-take (end - first) (drop first s) (k - first) X (omega arith) ∙ get_or-drop first s (k - first) X
    ∙ ap (λ (i : ℕ). get_or s i X) place ∙ rest k a in
    word_place (slice_range s first end) (k - first) (omega arith)
    ∙ ap₂ (λ (w : List Tri) (v : Tri). cond (has_unknown w) X v) word level
    ∙ sym (whole_at nets start k (omega arith)
    ∙ ap (λ (t : Bool). cond (t && has_unknown (word_of nets start k)) X (slice_index_or start k X)) (le-leb nets k (omega arith)))
