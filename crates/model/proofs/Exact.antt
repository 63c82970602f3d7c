-- What the choices of allowed bits give. Assumes nothing.
use Rattle.std.proofs.Common.{◌≡◌, ℕ, ◌+◌, ◌*◌, ◌/◌, ◌%◌, ◌^◌, ◌<◌, Bool, true, false, cond, not, ◌&&◌, ◌||◌, eqb, List, [], ◌∷◌, map, length, Decides, sym, refl, ap, ◌∙◌, subst, inl, inr, ⊎_elim, mul_assoc, pow-suc, mul-add, arith}
use Rattle.std.proofs.lemmas.List.FromFn.{get_or-map-range_with_len, length-map-range_with_len}
use Rattle.std.proofs.lemmas.Bool.{and_parts, and_from, or_cases, or_left, or_right, cases_Bool, both_ways, not_from_false, not-true, eq-eqb}
use Rattle.std.proofs.lemmas.Bool.Decides.{nat_tests, same_from_decides}
use Rattle.levels.specs.Kinds.{Kind, Lawful, bit_at, same, choice}
use Rattle.levels.specs.Cells.{row_of, Chosen, gives_from, gives_choice}
use Rattle.levels.specs.Words.{same_eq}
use Rattle.model.specs.Cycle.{at, pin, gate_output, cell_of_two, paired, picked, written}
use Rattle.model.specs.Exact.{number, Allowed, Exact, GateGives, ReadGives, Writes, WriteGives, EnableGives, GatesAreExact, ReadsAreExact, WritesAreExact, EnablesAreExact}

row_number : (row weight : ℕ) (cs : List Bool) → row_of row weight cs ≡ row + weight * number cs
row_number row weight [] = omega arith
row_number row weight (false ∷ cs) =
    omega (arith, row_number row (2 * weight) cs, mul_assoc weight 2 (number cs), mul_assoc 2 weight (number cs))
row_number row weight (true ∷ cs) =
    omega (arith, row_number (row + weight) (2 * weight) cs, mul-add weight 1 (2 * number cs), mul_assoc weight 2 (number cs))

same_refl : (x y : Bool) → x ≡ y → same x y ≡ true
same_refl true y e = sym e
same_refl false true e = e
same_refl false false e = refl

module _ {V : Type 0} (k : Kind V) where
  chosen : (vs : List V) (cs : List Bool) → Allowed k vs cs → Chosen (map k.allows vs) cs
  chosen [] [] h = tt
  chosen [] (c ∷ cs) h = absurd h
  chosen (v ∷ vs) [] h = absurd h
  chosen (v ∷ vs) (c ∷ cs) h = (h.0, chosen vs cs h.1)

  unchosen : (vs : List V) (cs : List Bool) → Chosen (map k.allows vs) cs → Allowed k vs cs
  unchosen [] [] h = tt
  unchosen [] (c ∷ cs) h = absurd h
  unchosen (v ∷ vs) [] h = absurd h
  unchosen (v ∷ vs) (c ∷ cs) h = (h.0, unchosen vs cs h.1)

  module _ (l : Lawful k) where
    cell_gives : (t : ℕ) (vs : List V) (b : Bool) → k.allows (k.apply t vs) b ≡ true →
        (cs : List Bool) × Allowed k vs cs × (bit_at t (number cs) ≡ b)
    cell_gives t vs b e =
        let r = gives_choice t 0 1 (map k.allows vs) b (sym (l.exact_cell t vs b) ∙ e) in
        let n : row_of 0 1 r.0 ≡ number r.0 = omega (arith, row_number 0 1 r.0) in
        (r.0, unchosen vs r.0 r.1, ap (bit_at t) (sym n) ∙ same_eq (bit_at t (row_of 0 1 r.0)) b r.2)

    cell_from : (t : ℕ) (vs : List V) (b : Bool) (cs : List Bool) → Allowed k vs cs → bit_at t (number cs) ≡ b →
        k.allows (k.apply t vs) b ≡ true
    cell_from t vs b cs h e =
        let n : row_of 0 1 cs ≡ number cs = omega (arith, row_number 0 1 cs) in
        l.exact_cell t vs b
        ∙ gives_from t 0 1 (map k.allows vs) cs b (chosen vs cs h) (same_refl (bit_at t (row_of 0 1 cs)) b (ap (bit_at t) n ∙ e))

    -- ---- a level that allows just what is given

    other : (v : V) (b : Bool) → k.allows v (not b) ≡ false → k.allows v b ≡ true
    other v true e = ⊎_elim (λ h. absurd (both_ways (k.allows v false) e h)) (λ h. h) (or_cases (k.allows v false) (k.allows v true) (l.some v))
    other v false e = ⊎_elim (λ h. h) (λ h. absurd (both_ways (k.allows v true) e h)) (or_cases (k.allows v false) (k.allows v true) (l.some v))

    pub exact : (v : V) (Gives : Bool → Type 0) → ((b : Bool) → Decides (k.allows v b) (Gives b)) → Exact k v Gives
    exact v Gives h = record {
      allowed = h;
      only = λ b. (
        (λ e g. both_ways (k.allows v (not b))
            (not-true (k.allows v (not b)) (and_parts (k.allows v b) (not (k.allows v (not b))) e).1) ((h (not b)).1 g)),
        (λ none. ⊎_elim (λ e. absurd (none ((h (not b)).0 e)))
            (λ e. and_from (k.allows v b) (not (k.allows v (not b))) (other v b e) (not_from_false (k.allows v (not b)) e))
            (cases_Bool (k.allows v (not b)))),
      );
    }

    pub gates_are_exact : GatesAreExact k
    gates_are_exact s g =
        let pins : List V = pin k s g 0 ∷ (pin k s g 1 ∷ (pin k s g 2 ∷ (pin k s g 3 ∷ []))) in
        exact (gate_output k s g) (GateGives k s g)
        (λ b. (cell_gives g.truth pins b, (λ r. cell_from g.truth pins b r.0 r.1 r.2)))

    -- ---- the two-way choice

    some_bit : (v : V) → (c : Bool) × (k.allows v c ≡ true)
    some_bit v = ⊎_elim (λ h. (false, h)) (λ h. (true, h)) (or_cases (k.allows v false) (k.allows v true) (l.some v))

    zero_only : (c : Bool) → k.allows (k.of_bit false) c ≡ true → c ≡ false
    zero_only c h = sym (same_eq false c (sym (l.exact_bit false c) ∙ h))

    zero_allowed : k.allows (k.of_bit false) false ≡ true
    zero_allowed = l.exact_bit false false

    abbrev three : V → V → V → List V
    three p q r = p ∷ (q ∷ (r ∷ (k.of_bit false ∷ [])))

    -- a cell of three pins or two, the others constant 0
    module _ (t : ℕ) (p q r : V) where
      three_give : (b : Bool) → k.allows (k.apply t (three p q r)) b ≡ true →
          (x y z : Bool) × (k.allows p x ≡ true) × (k.allows q y ≡ true) × (k.allows r z ≡ true)
          × (bit_at t (number (x ∷ (y ∷ (z ∷ (false ∷ []))))) ≡ b)
      three_give b e = let c = cell_gives t (three p q r) b e in go c.0 c.1 c.2
        where
          go : (cs : List Bool) → Allowed k (three p q r) cs → bit_at t (number cs) ≡ b →
              (x y z : Bool) × (k.allows p x ≡ true) × (k.allows q y ≡ true) × (k.allows r z ≡ true)
              × (bit_at t (number (x ∷ (y ∷ (z ∷ (false ∷ []))))) ≡ b)
          go [] h e = absurd h
          go (x ∷ []) h e = absurd h.1
          go (x ∷ (y ∷ [])) h e = absurd h.1.1
          go (x ∷ (y ∷ (z ∷ []))) h e = absurd h.1.1.1
          go (x ∷ (y ∷ (z ∷ (u ∷ [])))) h e = (
            x,
            y,
            z,
            h.0,
            h.1.0,
            h.1.1.0,
            ap (λ (v : Bool). bit_at t (number (x ∷ (y ∷ (z ∷ (v ∷ [])))))) (sym (zero_only u h.1.1.1.0)) ∙ e,
          )
          go (x ∷ (y ∷ (z ∷ (u ∷ (v ∷ vs))))) h e = absurd h.1.1.1.1

      three_from : (x y z : Bool) → k.allows p x ≡ true → k.allows q y ≡ true → k.allows r z ≡ true →
          k.allows (k.apply t (three p q r)) (bit_at t (number (x ∷ (y ∷ (z ∷ (false ∷ [])))))) ≡ true
      three_from x y z hx hy hz =
          cell_from t (three p q r) (bit_at t (number (x ∷ (y ∷ (z ∷ (false ∷ [])))))) (x ∷ (y ∷ (z ∷ (false ∷ [])))) (hx, (hy, (hz, (zero_allowed, tt)))) refl

    -- truth word 202 by its rows
    choice_row : (x y z : Bool) → bit_at 202 (number (x ∷ (y ∷ (z ∷ (false ∷ []))))) ≡ cond z y x
    choice_row true true true = refl
    choice_row true true false = refl
    choice_row true false true = refl
    choice_row true false false = refl
    choice_row false true true = refl
    choice_row false true false = refl
    choice_row false false true = refl
    choice_row false false false = refl

    pub choice_gives : (a x y : V) (b : Bool) → k.allows (choice k a x y) b ≡ true →
        (c : Bool) × (k.allows a c ≡ true) × (k.allows (cond c y x) b ≡ true)
    choice_gives a x y b e =
        let r = three_give 202 x y a b e in
        (r.2, r.5, go r.2 r.3 r.4 (sym (choice_row r.0 r.1 r.2) ∙ r.6))
      where
        go : {u w : Bool} (c : Bool) → k.allows x u ≡ true → k.allows y w ≡ true → cond c w u ≡ b → k.allows (cond c y x) b ≡ true
        go true hx hy e = subst (λ (v : Bool). k.allows y v ≡ true) e hy
        go false hx hy e = subst (λ (v : Bool). k.allows x v ≡ true) e hx

    pub choice_from : (a x y : V) (b c : Bool) → k.allows a c ≡ true → k.allows (cond c y x) b ≡ true → k.allows (choice k a x y) b ≡ true
    choice_from a x y b true h e =
        let o = some_bit x in
        subst (λ (v : Bool). k.allows (choice k a x y) v ≡ true) (choice_row o.0 b true) (three_from 202 x y a o.0 b true o.1 e h)
    choice_from a x y b false h e =
        let o = some_bit y in
        subst (λ (v : Bool). k.allows (choice k a x y) v ≡ true) (choice_row b o.0 false) (three_from 202 x y a b o.0 false e o.1 h)

    pub enables_are_exact : EnablesAreExact k
    enables_are_exact enable held offered =
        exact (choice k enable held offered) (EnableGives k enable held offered)
        (λ b. (
          (λ e. let r = choice_gives enable held offered b e in go b r.0 r.1 r.2),
          (λ s. ⊎_elim (λ h. choice_from enable held offered b true h.0 h.1) (λ h. choice_from enable held offered b false h.0 h.1) s),
        ))
      where
        go : (b c : Bool) → k.allows enable c ≡ true → k.allows (cond c offered held) b ≡ true → EnableGives k enable held offered b
        go b true h e = inl (h, e)
        go b false h e = inr (h, e)

    -- ---- a read

    paired_at : (a : V) (leaves : List V) (n i : ℕ) → length leaves ≡ 2 * n → i < n →
        at k (paired k a leaves) i ≡ choice k a (at k leaves (2 * i)) (at k leaves (2 * i + 1))
    paired_at a leaves n i long low =
        get_or-map-range_with_len (λ i. choice k a (at k leaves (2 * i)) (at k leaves (2 * i + 1))) 0 (length leaves / 2) i i k.blank (omega arith) (omega arith)

    paired_length : (a : V) (leaves : List V) (n : ℕ) → length leaves ≡ 2 * n → length (paired k a leaves) ≡ n
    paired_length a leaves n long =
        length-map-range_with_len (λ i. choice k a (at k leaves (2 * i)) (at k leaves (2 * i + 1))) 0 (length leaves / 2) ∙ omega arith

    -- the leaf that the lowest bit chooses
    leaf : (leaves : List V) (c : Bool) (n : ℕ) → cond c (at k leaves (2 * n + 1)) (at k leaves (2 * n)) ≡ at k leaves (cond c 1 0 + 2 * n)
    leaf leaves true n = ap (at k leaves) (omega arith)
    leaf leaves false n = ap (at k leaves) (omega arith)

    pub number_below : (address : List V) (cs : List Bool) → Allowed k address cs → number cs < 2 ^ length address
    number_below [] [] h = omega arith
    number_below [] (c ∷ cs) h = absurd h
    number_below (a ∷ rest) [] h = absurd h
    number_below (a ∷ rest) (true ∷ cs) h = let p = pow-suc 2 (length rest) in omega (arith, number_below rest cs h.1)
    number_below (a ∷ rest) (false ∷ cs) h = let p = pow-suc 2 (length rest) in omega (arith, number_below rest cs h.1)

    pub read_gives : (address leaves : List V) → length leaves ≡ 2 ^ length address →
        (b : Bool) → k.allows (picked k address leaves) b ≡ true → ReadGives k address leaves b
    read_gives [] leaves long b e = ([], tt, e)
    read_gives (a ∷ rest) leaves long b e =
        let double : length leaves ≡ 2 * 2 ^ length rest = omega (arith, pow-suc 2 (length rest)) in
        step double (read_gives rest (paired k a leaves) (paired_length a leaves (2 ^ length rest) double) b e)
      where
        step : length leaves ≡ 2 * 2 ^ length rest → ReadGives k rest (paired k a leaves) b → ReadGives k (a ∷ rest) leaves b
        step double r =
            let n : ℕ = number r.0 in
            let is = paired_at a leaves (2 ^ length rest) n double (number_below rest r.0 r.1) in
            let c = choice_gives a (at k leaves (2 * n)) (at k leaves (2 * n + 1)) b (ap (λ (v : V). k.allows v b) (sym is) ∙ r.2) in
            (c.0 ∷ r.0, (c.1, r.1), ap (λ (v : V). k.allows v b) (sym (leaf leaves c.0 n)) ∙ c.2)

    read_from : (address leaves : List V) → length leaves ≡ 2 ^ length address →
        (b : Bool) (cs : List Bool) → Allowed k address cs → k.allows (at k leaves (number cs)) b ≡ true → k.allows (picked k address leaves) b ≡ true
    read_from [] leaves long b [] h e = e
    read_from [] leaves long b (c ∷ cs) h e = absurd h
    read_from (a ∷ rest) leaves long b [] h e = absurd h
    read_from (a ∷ rest) leaves long b (c ∷ cs) h e =
        let double : length leaves ≡ 2 * 2 ^ length rest = omega (arith, pow-suc 2 (length rest)) in
        let n : ℕ = number cs in
        let is = paired_at a leaves (2 ^ length rest) n double (number_below rest cs h.1) in
        read_from rest (paired k a leaves) (paired_length a leaves (2 ^ length rest) double) b cs h.1
        (ap (λ (v : V). k.allows v b) is
        ∙ choice_from a (at k leaves (2 * n)) (at k leaves (2 * n + 1)) b c h.0 (ap (λ (v : V). k.allows v b) (leaf leaves c n) ∙ e))

    pub reads_are_exact : ReadsAreExact k
    reads_are_exact address leaves long =
        exact (picked k address leaves) (ReadGives k address leaves)
        (λ b. (read_gives address leaves long b, (λ r. read_from address leaves long b r.0 r.1 r.2)))

    -- ---- a write

    abbrev match_word : ℕ → ℕ
    match_word word = cond (eqb (word % 2) 1) 8 2

    -- truth words 8 and 2 by their rows
    match_row : (word : ℕ) (x y : Bool) → bit_at (match_word word) (number (x ∷ (y ∷ (false ∷ (false ∷ []))))) ≡ (x && same (eqb (word % 2) 1) y)
    match_row word x y = go (eqb (word % 2) 1) x y
      where
        go : (odd x y : Bool) → bit_at (cond odd 8 2) (number (x ∷ (y ∷ (false ∷ (false ∷ []))))) ≡ (x && same odd y)
        go true true true = refl
        go true true false = refl
        go true false true = refl
        go true false false = refl
        go false true true = refl
        go false true false = refl
        go false false true = refl
        go false false false = refl

    -- the lowest bit agrees and the rest is the half
    match_more : (word : ℕ) (x y : Bool) (n : ℕ) →
        ((x && same (eqb (word % 2) 1) y) && eqb n (word / 2)) ≡ (x && eqb (cond y 1 0 + 2 * n) word)
    match_more word false y n = refl
    match_more word true y n = go y (eqb (word % 2) 1) refl
      where
        go : (y odd : Bool) → eqb (word % 2) 1 ≡ odd → (same odd y && eqb n (word / 2)) ≡ eqb (cond y 1 0 + 2 * n) word
        go true true e = grind (arith, nat_tests)
        go true false e = grind (arith, nat_tests)
        go false true e = grind (arith, nat_tests)
        go false false e = grind (arith, nat_tests)

    two_give : (word : ℕ) (p q : V) (b : Bool) → k.allows (cell_of_two k (match_word word) p q) b ≡ true →
        (x y : Bool) × (k.allows p x ≡ true) × (k.allows q y ≡ true) × ((x && same (eqb (word % 2) 1) y) ≡ b)
    two_give word p q b e = let c = three_give (match_word word) p q (k.of_bit false) b e in (
      c.0,
      c.1,
      c.3,
      c.4,
      sym (match_row word c.0 c.1)
          ∙ ap (λ (z : Bool). bit_at (match_word word) (number (c.0 ∷ (c.1 ∷ (z ∷ (false ∷ [])))))) (sym (zero_only c.2 c.5)) ∙ c.6,
    )

    two_from : (word : ℕ) (p q : V) (x y : Bool) → k.allows p x ≡ true → k.allows q y ≡ true →
        k.allows (cell_of_two k (match_word word) p q) (x && same (eqb (word % 2) 1) y) ≡ true
    two_from word p q x y hx hy =
        subst (λ (b : Bool). k.allows (cell_of_two k (match_word word) p q) b ≡ true) (match_row word x y)
        (three_from (match_word word) p q (k.of_bit false) x y false hx hy zero_allowed)

    only_word : (c : Bool) (word : ℕ) → word < 1 → (c && eqb 0 word) ≡ c
    only_word true word low = eq-eqb 0 word (omega arith)
    only_word false word low = refl

    written_gives : (enable : V) (address : List V) (word : ℕ) → word < 2 ^ length address →
        (b : Bool) → k.allows (written k enable address word) b ≡ true → Writes k enable address word b
    written_gives enable [] word low b e = (b, [], e, tt, only_word b word low)
    written_gives enable (a ∷ rest) word low b e =
        step (written_gives (cell_of_two k (match_word word) enable a) rest (word / 2) (omega (arith, pow-suc 2 (length rest))) b e)
      where
        step : Writes k (cell_of_two k (match_word word) enable a) rest (word / 2) b → Writes k enable (a ∷ rest) word b
        step r = let c = two_give word enable a r.0 r.2 in (
          c.0,
          c.1 ∷ r.1,
          c.2,
          (c.3, r.3),
          sym (match_more word c.0 c.1 (number r.1)) ∙ ap (λ (x : Bool). x && eqb (number r.1) (word / 2)) c.4 ∙ r.4,
        )

    written_from : (enable : V) (address : List V) (word : ℕ) → word < 2 ^ length address →
        (c : Bool) (cs : List Bool) → k.allows enable c ≡ true → Allowed k address cs →
        k.allows (written k enable address word) (c && eqb (number cs) word) ≡ true
    written_from enable [] word low c [] h t = ap (k.allows enable) (only_word c word low) ∙ h
    written_from enable [] word low c (x ∷ cs) h t = absurd t
    written_from enable (a ∷ rest) word low c [] h t = absurd t
    written_from enable (a ∷ rest) word low c (x ∷ cs) h t =
        subst (λ (b : Bool). k.allows (written k enable (a ∷ rest) word) b ≡ true) (match_more word c x (number cs))
        (written_from (cell_of_two k (match_word word) enable a) rest (word / 2) (omega (arith, pow-suc 2 (length rest)))
        (c && same (eqb (word % 2) 1) x) cs (two_from word enable a c x h t.0) t.1)

    module _ (enable : V) (address : List V) (word : ℕ) (old new : V) (low : word < 2 ^ length address) where
      abbrev after : V
      after = choice k (written k enable address word) old new

      write_gives : (b : Bool) → k.allows after b ≡ true → WriteGives k enable address word old new b
      write_gives b e =
          let c = choice_gives (written k enable address word) old new b e in
          (c.0, written_gives enable address word low c.0 c.1, c.2)

      write_from : (b does : Bool) → Writes k enable address word does → k.allows (cond does new old) b ≡ true → k.allows after b ≡ true
      write_from b does w e =
          choice_from (written k enable address word) old new b does
          (subst (λ (x : Bool). k.allows (written k enable address word) x ≡ true) w.4 (written_from enable address word low w.0 w.1 w.2 w.3)) e

      pub write_is_exact : Exact k after (WriteGives k enable address word old new)
      write_is_exact = exact after (WriteGives k enable address word old new) (λ b. (write_gives b, (λ r. write_from b r.0 r.1 r.2)))

      -- where one way is not open, the other is
      must : (does : Bool) → (Writes k enable address word (not does) → ⊥) → Writes k enable address word does
      must does none = let c = some_bit (written k enable address word) in go does none c.0 (written_gives enable address word low c.0 c.1)
        where
          go : (does : Bool) → (Writes k enable address word (not does) → ⊥) → (x : Bool) → Writes k enable address word x → Writes k enable address word does
          go true none true w = w
          go true none false w = absurd (none w)
          go false none true w = absurd (none w)
          go false none false w = w

      one_way : (does : Bool) → (Writes k enable address word (not does) → ⊥) → (b : Bool) → k.allows after b ≡ k.allows (cond does new old) b
      one_way does none b =
          same_from_decides {P = k.allows (cond does new old) b ≡ true} (k.allows after b) (k.allows (cond does new old) b)
          ((λ e. let r = write_gives b e in go does none r.0 r.1 r.2), write_from b does (must does none)) ((λ e. e), (λ e. e))
        where
          go : (does : Bool) → (Writes k enable address word (not does) → ⊥) → (x : Bool) → Writes k enable address word x →
              k.allows (cond x new old) b ≡ true → k.allows (cond does new old) b ≡ true
          go true none true w e = e
          go true none false w e = absurd (none w)
          go false none true w e = absurd (none w)
          go false none false w e = e

      both_open : Writes k enable address word true → Writes k enable address word false → (b : Bool) → k.allows after b ≡ (k.allows new b || k.allows old b)
      both_open yes' no' b =
          same_from_decides {P = (k.allows new b || k.allows old b) ≡ true} (k.allows after b) (k.allows new b || k.allows old b) (
            (λ e. let r = write_gives b e in go r.0 r.2),
            (λ e. ⊎_elim (write_from b true yes') (write_from b false no') (or_cases (k.allows new b) (k.allows old b) e)),
          ) ((λ e. e), (λ e. e))
        where
          go : (x : Bool) → k.allows (cond x new old) b ≡ true → (k.allows new b || k.allows old b) ≡ true
          go true e = or_left (k.allows new b) (k.allows old b) e
          go false e = or_right (k.allows new b) (k.allows old b) e

    pub writes_are_exact : WritesAreExact k
    writes_are_exact enable address word old new low = record {
      exact = write_is_exact enable address word old new low;
      if_all_write = one_way enable address word old new low true;
      if_none_writes = one_way enable address word old new low false;
      if_some_write = both_open enable address word old new low;
    }
