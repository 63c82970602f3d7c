-- A run, line by line. Assumes nothing.
use Rattle.std.proofs.Common.{◌≡◌, ℕ, zero, suc, ◌+◌, ◌-◌, ◌*◌, ◌/◌, ◌%◌, ◌<◌, ◌≤◌, Bool, true, false, cond, ◌&&◌, eqb, leb, List, [], ◌∷◌, ◌++◌, length, take, drop, set, sym, refl, ap, ◌∙◌, ap₂, ⊎_elim, mul-le-mul_right, div-add-mod', arith, leb-true}
use native.Mathlib.Nat.{sub-zero}
use Rattle.std.proofs.lemmas.Bool.{and_parts, eq-eqb, eqb-true, ne_eqb, cases_eq}
use Rattle.std.proofs.lemmas.List.{append-nil, append_assoc, take-append-drop, length-take-le, take_more_set, drop-set-lt, drop-drop}
use Rattle.levels.specs.declared.Bit.{Bit}
use Rattle.levels.specs.Bits.{bit_kind}
use Rattle.model.specs.Core.{Core, sound, places, is_input, inputs, flops}
use Rattle.model.proofs.Sound.{sound_parts}
use Rattle.model.specs.Cycle.{halted}
use Rattle.player.specs.declared.run.Cycle.{Cycle}
use Rattle.model.proofs.Tallies.{tally_few}
use Rattle.player.specs.Run.{next_state, shown_cycle, cycles_from, state_from, room, Ran}

module _ (d : Core) (text : List ℕ) where
  pub stops : (l n : ℕ) (s : List Bit) → halted bit_kind d s ≡ true → (cycles_from d text l n s ≡ []) × (state_from d text l n s ≡ s)
  stops l zero s h = (refl, refl)
  stops l (suc n) s h = (
    ap (λ (b : Bool). cond b [] (shown_cycle d s (next_state d text l s) ∷ cycles_from d text (l + 1) n (next_state d text l s))) h,
    ap (λ (b : Bool). cond b s (state_from d text (l + 1) n (next_state d text l s))) h,
  )

  pub goes_on : (l n m : ℕ) (s : List Bit) → n ≡ m + 1 → halted bit_kind d s ≡ false →
      (cycles_from d text l n s ≡ shown_cycle d s (next_state d text l s) ∷ cycles_from d text (l + 1) m (next_state d text l s))
      × (state_from d text l n s ≡ state_from d text (l + 1) m (next_state d text l s))
  goes_on l zero m s e h = absurd (omega arith)
  goes_on l (suc n) m s e h =
      let same : n ≡ m = omega arith in (
        ap (λ (b : Bool). cond b [] (shown_cycle d s (next_state d text l s) ∷ cycles_from d text (l + 1) n (next_state d text l s))) h
            ∙ ap (λ (k : ℕ). shown_cycle d s (next_state d text l s) ∷ cycles_from d text (l + 1) k (next_state d text l s)) same,
        ap (λ (b : Bool). cond b s (state_from d text (l + 1) n (next_state d text l s))) h
            ∙ ap (λ (k : ℕ). state_from d text (l + 1) k (next_state d text l s)) same,
      )

  -- line i of m is next: what is written and what is left make the run, and the cycles not written yet stay
  pub record Running (m : ℕ) (s : List Bit) (old : List Cycle) (i : ℕ) (now : List Bit) (cycles : List Cycle) : Type 0 where
    pub played : take i cycles ++ cycles_from d text i (m - i) now ≡ cycles_from d text 0 m s
    pub ends : state_from d text i (m - i) now ≡ state_from d text 0 m s
    pub others : drop i cycles ≡ drop i old

  pub ran_from : (m i : ℕ) (s now : List Bit) (old cycles : List Cycle) → i ≤ length cycles →
      (cycles_from d text i (m - i) now ≡ []) → (state_from d text i (m - i) now ≡ now) → Running m s old i now cycles →
      Ran d text m s i now old cycles
  ran_from m i s now old cycles h none here r =
      let whole : take i cycles ≡ cycles_from d text 0 m s =
      sym (append-nil (take i cycles)) ∙ ap (λ (xs : List Cycle). take i cycles ++ xs) (sym none) ∙ r.played in
      record {
        count = sym (length-take-le i cycles h) ∙ ap length whole;
        last_state = sym here ∙ r.ends;
        shown = sym (take-append-drop i cycles) ∙ ap (λ (xs : List Cycle). take i cycles ++ xs) r.others
            ∙ ap (λ (xs : List Cycle). xs ++ drop i old) whole;
      }

  pub running_none : (m : ℕ) (s : List Bit) (cycles : List Cycle) → Running m s cycles 0 s cycles
  running_none m s cycles = record {
    played = ap (λ (k : ℕ). cycles_from d text 0 k s) (sub-zero m);
    ends = ap (λ (k : ℕ). state_from d text 0 k s) (sub-zero m);
    others = refl;
  }

  pub running_more : (m i : ℕ) (s now next : List Bit) (old cycles : List Cycle) (cycle : Cycle) → i < m → i < length cycles →
      halted bit_kind d now ≡ false → next ≡ next_state d text i now → cycle ≡ shown_cycle d now next →
      Running m s old i now cycles → Running m s old (i + 1) next (set cycles i cycle)
  running_more m i s now next old cycles cycle lt inside h e shows r =
      let on = goes_on i (m - i) (m - (i + 1)) now (omega arith) h in
      let here : cycle ≡ shown_cycle d now (next_state d text i now) = shows ∙ ap (shown_cycle d now) e in
      let left : (cycle ∷ cycles_from d text (i + 1) (m - (i + 1)) next) ≡ cycles_from d text i (m - i) now =
      ap₂ (λ (x : Cycle) (t : List Bit). x ∷ cycles_from d text (i + 1) (m - (i + 1)) t) here e ∙ sym on.0 in
      record {
        played =
            ap (λ (xs : List Cycle). xs ++ cycles_from d text (i + 1) (m - (i + 1)) next) (take_more_set cycles i cycle inside)
            ∙ append_assoc (take i cycles) (cycle ∷ []) (cycles_from d text (i + 1) (m - (i + 1)) next)
            ∙ ap (λ (xs : List Cycle). take i cycles ++ xs) left ∙ r.played;
        ends = ap (state_from d text (i + 1) (m - (i + 1))) e ∙ sym on.1 ∙ r.ends;
        others =
            drop-set-lt (i + 1) cycles i cycle (omega arith) ∙ sym (drop-drop 1 i cycles) ∙ ap (drop 1) r.others ∙ drop-drop 1 i old;
      }

-- the lines before and with line i lie inside, if all m do
pub line_inside : (i m size n : ℕ) → i < m → m * size ≤ n → (i + 1) * size ≤ n
line_inside i m size n lt h =
    let le : i + 1 ≤ m = omega arith in
    omega (arith, mul-le-mul_right size le)

pub odd_halts : (n : ℕ) → n % 2 ≡ 1 → eqb (n % 2) 1 ≡ true
odd_halts n e = eq-eqb (n % 2) 1 e

pub even_goes : (n : ℕ) → (n % 2 ≡ 1 → ⊥) → eqb (n % 2) 1 ≡ false
even_goes n e = ne_eqb (n % 2) 1 e

pub few_inputs : (d : Core) → sound d ≡ true → inputs d ≤ 4096
few_inputs d e = omega (arith, tally_few is_input d.nets, (sound_parts d e).few_nets)

-- a sound core whose starts have a flop has a start
pub some_start : (d : Core) → sound d ≡ true → 0 < length d.starts / flops d
some_start d e =
    ⊎_elim
    (λ (z : length d.starts / flops d ≡ 0).
    let p = sound_parts d e in
    absurd (omega (arith, p.some_starts, p.whole_starts, div-add-mod' (length d.starts) (flops d), ap (λ (k : ℕ). k * flops d) z)))
    (λ (ne : length d.starts / flops d ≡ 0 → ⊥). omega arith)
    (cases_eq (length d.starts / flops d) 0)

-- what memory that fits is
pub room_parts : (d : Core) (lines state scratch cycles : ℕ) → room d lines state scratch cycles ≡ true →
    (state ≡ places d) × (2 * places d + 1024 ≤ scratch) × (lines ≤ cycles)
room_parts d lines state scratch cycles e =
    let all = and_parts (eqb state (places d) && leb (2 * places d + 1024) scratch) (leb lines cycles) e in
    let two = and_parts (eqb state (places d)) (leb (2 * places d + 1024) scratch) all.0 in
    (eqb-true state (places d) two.0, leb-true (2 * places d + 1024) scratch two.1, leb-true lines cycles all.1)
