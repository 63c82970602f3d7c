-- What pilots that can be read are.
use Rattle.std.proofs.Common.{◌≡◌, ℕ, ◌+◌, ◌-◌, ◌<◌, Bool, true, false, not, ◌&&◌, ◌||◌, eqb, ltb, List, map, length, get_or, take, drop, None, sym, refl, ap, ◌∙◌, subst, arith}
use Rattle.std.specs.List.{range_with_len}
use Rattle.std.proofs.lemmas.Bool.{and_parts, ltb-true, ne_eqb, not-true}
use Rattle.std.proofs.lemmas.List.{length-drop, get_or-drop, ext_get_or}
use Rattle.std.proofs.lemmas.List.FromFn.{get_or-map-range_with_len, length-map-range_with_len}
use Rattle.bundle.specs.declared.refusal.Fault.{Fault}
use Rattle.model.specs.declared.net.Net.{Net}
use Rattle.model.specs.Core.{no_net, is_flop, distinct}
use Rattle.decode.specs.Entries.{first_unread}
use Rattle.decode.specs.Words.{word, word_count}
use Rattle.decode.specs.Pilots.{repeated, pilot_right, pilot_read}
use Rattle.decode.specs.Decode.{pilots_of}
use Rattle.decode.proofs.Asking.{entry_at, entry_read, length_entries, only_met, only_value}
use Rattle.decode.proofs.Steps.{past_first}
use Rattle.decode.proofs.Every.{not_among, distinct_from}

module _ (nets : List Net) (bs : List ℕ) (f : Fault) (read : None ≡ first_unread (pilot_read nets bs) f (word_count bs)) (k : ℕ) (h : k < word_count bs) where
  pub pilot_passes : pilot_right nets bs k (word bs k) ≡ true
  pilot_passes = only_met (pilot_right nets bs k (word bs k)) (word bs k) (entry_read (pilot_read nets bs) (word_count bs) f read k h)

  pub pilot_is : get_or (pilots_of nets bs) k 0 ≡ word bs k
  pilot_is =
      entry_at (pilot_read nets bs) (word_count bs) 0 0 k h
      ∙ only_value (pilot_right nets bs k (word bs k)) (word bs k) 0 pilot_passes

  pub pilot_names : get_or (pilots_of nets bs) k 0 < length nets
  pilot_names =
      let t = and_parts (ltb (word bs k) (length nets)) (eqb k 0 || (is_flop (get_or nets (word bs k) no_net).driver && not (repeated bs k (word bs k)))) pilot_passes in
      let l = ltb-true (word bs k) (length nets) t.0 in
      let e = pilot_is in omega arith

  -- an entry past the mark is a flop, and no pilot before it
  later : 0 < k → (is_flop (get_or nets (word bs k) no_net).driver ≡ true) × (repeated bs k (word bs k) ≡ false)
  later l =
      let t = and_parts (ltb (word bs k) (length nets)) (eqb k 0 || (is_flop (get_or nets (word bs k) no_net).driver && not (repeated bs k (word bs k)))) pilot_passes in
      let z = ne_eqb k 0 (λ e. omega arith) in
      let u : (is_flop (get_or nets (word bs k) no_net).driver && not (repeated bs k (word bs k))) ≡ true
      = ap (λ (b : Bool). b || (is_flop (get_or nets (word bs k) no_net).driver && not (repeated bs k (word bs k)))) (sym z) ∙ t.1 in
      let v = and_parts (is_flop (get_or nets (word bs k) no_net).driver) (not (repeated bs k (word bs k))) u in
      (v.0, not-true (repeated bs k (word bs k)) v.1)

  pub pilot_flop : 0 < k → is_flop (get_or nets (get_or (pilots_of nets bs) k 0) no_net).driver ≡ true
  pilot_flop l = ap (λ (x : ℕ). is_flop (get_or nets x no_net).driver) pilot_is ∙ (later l).0

  pub pilot_new : 0 < k → repeated bs k (word bs k) ≡ false
  pilot_new l = (later l).1

-- the pilots, past the mark
module _ (nets : List Net) (bs : List ℕ) (f : Fault) (read : None ≡ first_unread (pilot_read nets bs) f (word_count bs)) where
  pub length_pilots : length (drop 1 (pilots_of nets bs)) ≡ word_count bs - 1
  length_pilots = length-drop 1 (pilots_of nets bs) ∙ ap (λ (n : ℕ). n - 1) (length_entries (pilot_read nets bs) (word_count bs) 0)

  pub each_pilot : (k : ℕ) → k < length (drop 1 (pilots_of nets bs)) → (get_or (drop 1 (pilots_of nets bs)) k 0 < length nets) × (is_flop (get_or nets (get_or (drop 1 (pilots_of nets bs)) k 0) no_net).driver ≡ true)
  each_pilot k h =
      let e = get_or-drop 1 (pilots_of nets bs) k 0 in
      let l : 1 + k < word_count bs = omega (arith, length_pilots) in (
        omega (arith, pilot_names nets bs f read (1 + k) l),
        ap (λ (x : ℕ). is_flop (get_or nets x no_net).driver) e ∙ pilot_flop nets bs f read (1 + k) l (omega arith),
      )

  -- the same of a slice past the mark
  pub pilots_named : (ps : List ℕ) → ps ≡ pilots_of nets bs → (k : ℕ) → k < length (take (length ps - 1) (drop 1 ps)) → get_or (take (length ps - 1) (drop 1 ps)) k 0 < length nets
  pilots_named ps e k h =
      let r : take (length ps - 1) (drop 1 ps) ≡ drop 1 (pilots_of nets bs) = past_first ps ∙ ap (drop 1) e in
      let n = each_pilot k (subst (λ (xs : List ℕ). k < length xs) r h) in
      omega (arith, ap (λ (xs : List ℕ). get_or xs k 0) r, n.0)

  pilots_are : drop 1 (pilots_of nets bs) ≡ map (word bs) (range_with_len 1 (word_count bs - 1))
  pilots_are =
      ext_get_or 0 (drop 1 (pilots_of nets bs)) (map (word bs) (range_with_len 1 (word_count bs - 1)))
      (length_pilots ∙ sym (length-map-range_with_len (word bs) 1 (word_count bs - 1)))
      (λ k h. let l : 1 + k < word_count bs = omega (arith, length_pilots) in
      get_or-drop 1 (pilots_of nets bs) k 0 ∙ (pilot_is nets bs f read (1 + k) l
      ∙ sym (get_or-map-range_with_len (word bs) 1 (word_count bs - 1) k (1 + k) 0 (omega arith) refl)))

  pub pilots_distinct : distinct (drop 1 (pilots_of nets bs)) ≡ true
  pilots_distinct =
      ap distinct pilots_are
      ∙ distinct_from (word bs) 1 (word_count bs - 1)
      (λ i j a b c e. not_among (word bs) (word bs j) 1 (j - 1) (pilot_new nets bs f read j (omega arith) (omega arith)) i a (omega arith) (sym e))
