-- No run draws more than what is answered. Assumes nothing.
use Rattle.std.proofs.Common.{◌≡◌, ℕ, suc, ◌<◌, true, List, [], ◌∷◌, IfOk, Ok, Err, Result, sym, ap, subst, ⊎_elim, arith}
use Rattle.std.specs.List.{ContainsAt as Has}
use Rattle.std.proofs.lemmas.Bool.{cases_eq}
use Rattle.bundle.specs.declared.refusal.Refusal.{Refusal}
use Rattle.model.specs.Core.{Core, sound}
use Rattle.record.specs.Record.{start_count}
use Rattle.rules.specs.Meanings.{plain_meaning}
use Rattle.rules.specs.Covers.{plain_covering}
use Rattle.explore.specs.declared.exploration.Exploration.{Exploration}
use Rattle.explore.specs.Memory.{Lent, Memory}
use Rattle.explore.specs.History.{History}
use Rattle.explore.specs.History as history
use Rattle.explore.proofs.Escaping.{no_run_escapes_the_record}
use Rattle.bounder.specs.declared.head.Head.{Head}
use Rattle.bounder.specs.Bound.{TakesStarts, none, one_more, Bounds, NoRunDrawsMore}
use Rattle.bounder.specs.Bound as bounded

-- the starts taken so far, each with a point of its own
record Begun (d : Core) (n : ℕ) (m : Memory) : Type 0 where
  taken : List (ℕ × ℕ)
  calls : History d m taken
  each : (i : ℕ) → i < n → (p : ℕ) × Has taken (p, i)

begun : (d : Core) (first : Memory) → History d first [] → (n : ℕ) (m : Memory) → TakesStarts d first n m → Begun d n m
begun d first h n m none = record { taken = []; calls = h; each = λ i l. absurd (omega arith) }
begun d first h n m (one_more i p before _ rest start) =
    let so = begun d first h i before rest in
    record {
      taken = (p, i) ∷ so.taken;
      calls = history.start before m so.taken i (Ok p) so.calls start;
      each = λ j l.
          ⊎_elim
          (λ (here : j ≡ i). (p, (0, omega arith, λ e. ap (λ (k : ℕ). (p, k)) (sym here))))
          (λ (other : j ≡ i → ⊥).
          let old = so.each j (omega arith) in
          (old.0, (suc old.1.0, omega (arith, old.1.1), λ e. old.1.2 e)))
          (cases_eq j i);
    }

-- what the calls of an answered exploration lead to
pub bounds_hold : (d : Core) → sound d ≡ true → (place : Exploration) (lent : Lent) (row other : List ℕ) (after : Memory) (row_after other_after : List ℕ) (answer : Result Head Refusal) →
    Bounds d place lent row other after row_after other_after answer → IfOk answer (NoRunDrawsMore d)
bounds_hold d ok place lent row other after row_after other_after answer (bounded.not_made _ e IfOk) = tt
bounds_hold d ok place lent row other after row_after other_after answer (bounded.not_started m _ e IfOk starts) = tt
bounds_hold d ok place lent row other after row_after other_after answer (bounded.not_walked m n _ count e IfOk starts walks) = tt
bounds_hold d ok place lent row other after row_after other_after answer (bounded.walked m n w _ _ _ count end (Err e) IfOk starts walks ended figured) = tt
bounds_hold d ok place lent row other after row_after other_after answer (bounded.walked m n w _ _ _ count end (Ok f) IfOk starts walks ended figured) =
    let first : History d m [] = subst (λ (x : Memory). History d x []) (sym IfOk.1) (history.made place m.exploration lent IfOk.0) in
    let b = begun d m first (start_count d) n starts in
    let holds = no_run_escapes_the_record d ok w b.taken (history.walk n w b.taken plain_meaning 65535 (count, end) b.calls plain_covering walks) in
    λ i l c rest run.
    let taken = b.each i l in (
      (holds.peak_bounds after f.peak figured.0).1 taken.0 i taken.1 c rest run,
      λ j k few. (holds.window_bounds d.window row other after row_after other_after f.window figured.1).1 taken.0 i taken.1 c rest run j k few,
    )
