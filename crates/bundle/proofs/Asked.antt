-- The questions, put to one entry after the other. Assumes nothing.
use Rattle.std.proofs.Common.{◌≡◌, ℕ, zero, suc, ◌+◌, ◌-◌, ◌<◌, ◌≤◌, Bool, true, false, Some, None, sym, ap, ◌∙◌, subst, ⊎_elim, arith}
use Rattle.std.proofs.lemmas.Bool.{cond-true, cond-false, cases_eq, cases_Bool}
use Rattle.bundle.specs.declared.refusal.Fault.{Fault}
use Rattle.bundle.specs.declared.refusal.Refusal.{Refusal}
use Rattle.bundle.specs.Format.{refused_at, ask_at, ask_each}

module _ (good : ℕ → Bool) (f : Fault) where
  left_good : (i m n : ℕ) → m ≡ n + 1 → good i ≡ true → ask_each good f i m ≡ ask_each good f (i + 1) n
  left_good i zero n e g = absurd (omega arith)
  left_good i (suc m) n e g =
      let s : m ≡ n = omega arith in
      cond-true (good i) (ask_each good f (i + 1) m) (Some (refused_at f i)) g ∙ ap (ask_each good f (i + 1)) s

  left_bad : (i m : ℕ) → 0 < m → good i ≡ false → ask_each good f i m ≡ Some (refused_at f i)
  left_bad i zero l b = absurd (omega arith)
  left_bad i (suc m) l b = cond-false (good i) (ask_each good f (i + 1) m) (Some (refused_at f i)) b

  -- a loop over the n entries: what is left at i gives the answer
  abbrev pub Left : ℕ → ℕ → Type 0
  Left n i = ask_each good f 0 n ≡ ask_each good f i (n - i)

  pub asked_more : (i n : ℕ) → i < n → good i ≡ true → Left n i → Left n (i + 1)
  asked_more i n l g left = left ∙ left_good i (n - i) (n - (i + 1)) (omega arith) g

  pub asked_bad : (i n : ℕ) → i < n → good i ≡ false → Left n i → ask_each good f 0 n ≡ Some (refused_at f i)
  asked_bad i n l b left = left ∙ left_bad i (n - i) (omega arith) b

  -- where no entry was refused, each is good
  pub all_good : (i m : ℕ) → ask_each good f i m ≡ None → (k : ℕ) → i ≤ k → k < i + m → good k ≡ true
  all_good i zero e k l h = absurd (omega arith)
  all_good i (suc m) e k l h =
      ⊎_elim
      (λ g. ⊎_elim (λ (s : k ≡ i). subst (λ (x : ℕ). good x ≡ true) (sym s) g) (λ ne. all_good (i + 1) m (sym (cond-true (good i) (ask_each good f (i + 1) m) (Some (refused_at f i)) g) ∙ e) k (omega arith) (omega arith)) (cases_eq k i))
      (λ b. let was = cond-false (good i) (ask_each good f (i + 1) m) (Some (refused_at f i)) b in
      let z : ◌≡◌ {A = ℕ} 0 1 = cc in absurd (omega arith))
      (cases_Bool (good i))

-- the question put to entry i of n, whose answer is b
module _ (good : ℕ → Bool) (f : Fault) (i n : ℕ) (l : i < n) where
  -- not refused: what is left at the next entry gives the answer
  pub one_more : (b : Bool) → b ≡ good i → None ≡ ask_at b f i → Left good f n i → Left good f n (i + 1)
  one_more true is e left = asked_more good f i n l (sym is) left
  one_more false is e left = let z : ◌≡◌ {A = ℕ} 0 1 = cc in absurd (omega arith)

  -- refused: that is the answer
  pub one_bad : (b : Bool) (r : Refusal) → b ≡ good i → Some r ≡ ask_at b f i → Left good f n i → Some r ≡ ask_each good f 0 n
  one_bad true r is e left = let z : ◌≡◌ {A = ℕ} 0 1 = cc in absurd (omega arith)
  one_bad false r is e left = e ∙ sym (asked_bad good f i n l (sym is) left)
