-- A question put to each entry in turn, as a loop puts it.
use Rattle.std.proofs.Common.{◌≡◌, ℕ, zero, suc, ◌+◌, ◌-◌, ◌<◌, ◌≤◌, Bool, true, false, cond, ◌≢◌, List, ◌++◌, length, get_or, take, set, is_some, Some, None, Option, unwrap_or, sym, refl, ap, ◌∙◌, arith, below_more}
use Rattle.std.proofs.lemmas.List.FromFn.{fill_by_all, get_or-map-range_with_len, length-map-range_with_len}
use Rattle.std.proofs.lemmas.List.{take-append-le, get_or-take, length-take-le, get_or-set_same, get_or-set_other}
use Rattle.bundle.specs.declared.refusal.Fault.{Fault}
use Rattle.bundle.specs.declared.refusal.Refusal.{Refusal}
use Rattle.bundle.specs.Format.{ask_each, refused_at}
use Rattle.decode.specs.Entries.{only_if, entries, first_unread}

module _ (good : ℕ → Bool) (f : Fault) where
  -- one entry on, where the entry passes
  pub ask_more : (i n : ℕ) → i < n → good i ≡ true → ask_each good f i (n - i) ≡ ask_each good f (i + 1) (n - (i + 1))
  ask_more i n h t =
      let e : n - i ≡ suc (n - (i + 1)) = omega arith in rw e (rw t)

  pub ask_stop : (i n : ℕ) → i < n → good i ≡ false → ask_each good f i (n - i) ≡ Some (refused_at f i)
  ask_stop i n h t =
      let e : n - i ≡ suc (n - (i + 1)) = omega arith in rw e (rw t)

  pub ask_all : (i n : ℕ) → n ≤ i → ask_each good f i (n - i) ≡ None
  ask_all i n h = let e : n - i ≡ 0 = omega arith in rw e

  -- where none is refused, each passes
  ask_first : (i n : ℕ) → ask_each good f i (suc n) ≡ None → (good i ≡ true) × (ask_each good f (i + 1) n ≡ None)
  ask_first i n h = go (good i) refl h
    where
      go : (b : Bool) → good i ≡ b → cond b (ask_each good f (i + 1) n) (Some (refused_at f i)) ≡ None → (good i ≡ true) × (ask_each good f (i + 1) n ≡ None)
      go true t h = (t, h)
      go false t h = let z : ◌≡◌ {A = ℕ} 0 1 = cc in absurd (omega arith)

  pub ask_none : (n i : ℕ) → ask_each good f i n ≡ None → (k q : ℕ) → k < n → i + k ≡ q → good q ≡ true
  ask_none zero i h k q l e = absurd (omega arith)
  ask_none (suc n) i h zero q l e = let d : i ≡ q = omega arith in rw (← d) (ask_first i n h).0
  ask_none (suc n) i h (suc k) q l e = ask_none n (i + 1) (ask_first i n h).1 k q (omega arith) (omega arith)

-- where every entry passes, none is refused
pub all_pass : (f : Fault) (i n : ℕ) → ask_each (λ (k : ℕ). true) f i n ≡ None
all_pass f i zero = refl
all_pass f i (suc n) = all_pass f (i + 1) n

pub never_refused : (f : Fault) (i n : ℕ) (r : Refusal) → Some r ≡ ask_each (λ (k : ℕ). true) f i n → ⊥
never_refused f i n r e = let p = all_pass f i n in let z : ◌≡◌ {A = ℕ} 0 1 = cc in omega arith

-- Entries read into a table, those below i so far.
module _ {A : Type 0} (read : ℕ → Option A) (f : Fault) (n : ℕ) where
  abbrev pub Reading : ℕ → List A → Type 0
  Reading i table =
      (ask_each (λ k. is_some (read k)) f i (n - i) ≡ first_unread read f n)
      × ((k : ℕ) → k < i → (d : A) → read k ≡ Some (get_or table k d))

  pub reading_more : (i : ℕ) (table : List A) (x : A) → i < n → i < length table → read i ≡ Some x → Reading i table → Reading (i + 1) (set table i x)
  reading_more i table x h l e r = (
    sym (ask_more (λ k. is_some (read k)) f i n h (ap is_some e)) ∙ r.0,
    below_more (λ k. (d : A) → read k ≡ Some (get_or (set table i x) k d)) i
        (λ k s d. let ne : k ≢ i = omega arith in rw get_or-set_other (r.1 k s d))
        (λ d. rw get_or-set_same e),
  )

  pub reading_stop : (i : ℕ) (table : List A) → i < n → read i ≡ None → Reading i table → Some (refused_at f i) ≡ first_unread read f n
  reading_stop i table h e r = sym (ask_stop (λ k. is_some (read k)) f i n h (ap is_some e)) ∙ r.0

  pub reading_all : (i : ℕ) (table : List A) → n ≤ i → Reading i table → None ≡ first_unread read f n
  reading_all i table h r = sym (ask_all (λ k. is_some (read k)) f i n h) ∙ r.0

  some_value : (k : ℕ) (x d : A) → read k ≡ Some x → x ≡ unwrap_or (read k) d
  some_value k x d e = rw e

  pub reading_table : (i : ℕ) (table rest : List A) → n ≤ i → length table ≡ n → Reading i table → (d : A) → take n (table ++ rest) ≡ entries read d n
  reading_table i table rest h l r d =
      take-append-le n table rest (omega arith)
      ∙ fill_by_all (λ k. unwrap_or (read k) d) (take n table) n d (length-take-le n table (omega arith))
      (λ k s. get_or-take n table k d s ∙ some_value k _ d (r.1 k (omega arith) d))

-- Entries that can all be read.
module _ {A : Type 0} (read : ℕ → Option A) (n : ℕ) where
  pub entry_at : (d e : A) (k : ℕ) → k < n → get_or (entries read d n) k e ≡ unwrap_or (read k) d
  entry_at d e k h = get_or-map-range_with_len (λ (i : ℕ). unwrap_or (read i) d) 0 n k k e h (omega arith)

  pub length_entries : (d : A) → length (entries read d n) ≡ n
  length_entries d = length-map-range_with_len (λ (i : ℕ). unwrap_or (read i) d) 0 n

  pub entry_read : (f : Fault) → None ≡ first_unread read f n → (k : ℕ) → k < n → is_some (read k) ≡ true
  entry_read f h k l = ask_none (λ (i : ℕ). is_some (read i)) f n 0 (sym h) k k l (omega arith)

-- what is read under a condition meets it
pub only_met : {A : Type 0} (t : Bool) (x : A) → is_some (only_if t x) ≡ true → t ≡ true
only_met true x e = refl
only_met false x e = e

pub only_value : {A : Type 0} (t : Bool) (x d : A) → t ≡ true → unwrap_or (only_if t x) d ≡ x
only_value t x d e = rw e
