-- No run escapes the record. Assumes nothing.
use Rattle.std.proofs.Common.{◌≡◌, ℕ, ◌%◌, ◌<◌, ◌≤◌, true, List, [], ◌∷◌, length, sym, refl, ap, ◌∙◌, arith}
use Rattle.std.proofs.ByRecursion.{all-has}
use Rattle.std.proofs.lemmas.Bool.{eqb-false}
use Rattle.levels.specs.Kinds.{Kind, Lawful, Cover}
use Rattle.model.specs.Core.{Core, sound}
use Rattle.model.specs.Cycle.{cycled, key_of, start_state}
use Rattle.model.specs.Energy.{charge}
use Rattle.record.specs.declared.point.Fate.{Fate}
use Rattle.record.specs.declared.point.Fate.TheVariants as fate
use Rattle.record.specs.declared.point.Point.{Point}
use Rattle.record.specs.Record.{Waiting, Entry, after_key}
use Rattle.record.specs.Runs.{point_at, Leads, Leaves, as_walked, as_cut, Goes, stops, steps, Held, whole, early, onward}
use Rattle.record.specs.Escape.{Wide, Definite, NoRunEscapes}
use Rattle.record.proofs.Covering.{covers_trans}
use Rattle.record.proofs.States.{Good, key_shown, Follows, follows}
use Rattle.record.proofs.Hold.{st, walked_open, cut_open, halted_open, Next, Cut, Begun, Holds}
use Rattle.record.proofs.Steps.{reached_holds}

module _ {V B : Type 0} (k : Kind V) (j : Kind B) (d : Core) (ok : sound d ≡ true) (lk : Lawful k) (lj : Lawful j)
    (wide : Wide k) (def : Definite j)
    (ps : List Point) (ws : List (Waiting V)) (es : List (Entry V)) (taken : List (ℕ × ℕ)) (σ : List (List V))
    (holds : Holds k d ps ws es taken σ) where
  shown : (p : ℕ) (c : List B) → p < length ps → Cover k j (st σ p) c → (point_at ps p).key ≡ key_of j d c
  shown p c l h =
      let g : Good k d (point_at ps p).key (st σ p) = holds.good p l in
      sym (key_shown k j d lk lj wide d.pilots (point_at ps p).key (st σ p) c g.small g.pinned h)

  -- the successor of t that covers the state after c
  record Onward (t : ℕ) (c e : List B) : Type 0 where
    place : ℕ
    inside : place < length ps
    leads : Leads ps t place
    charged : charge j d c e ≤ (point_at ps place).charge
    over : Cover k j (st σ place) e

  goes_on : (t : ℕ) (c : List B) (given : ℕ → B) → (point_at ps t).fate ≡ fate.Walked → Cover k j (st σ t) c → Onward t c (cycled j d c given)
  goes_on t c given w h =
      let e : List B = cycled j d c given in
      let f : Follows k j d ok lk lj wide def (st σ t) c e = follows k j d ok lk lj wide def (st σ t) c given h in
      let key : ℕ = key_of j d e in
      let n : (q : ℕ) × Next k d ps σ t key q = (holds.done t (walked_open (point_at ps t).fate w)).if_walked w key f.listed in
      let drawn : (point_at ps n.0).charge ≡ charge k d (st σ t) (after_key k d (st σ t) key) = n.1.charged in
      let bound : charge j d c e ≤ charge k d (st σ t) (after_key k d (st σ t) key) = f.charged in
      record {
        place = n.0;
        inside = n.1.inside;
        leads = (n.1.inside, n.1.comes);
        charged = omega arith;
        over = covers_trans k k j (st σ n.0) (after_key k d (st σ t) key) e n.1.over f.covered;
      }

  -- the point's state covers the first of the run
  abbrev OverFirst : ℕ → List (List B) → Type 0
  OverFirst p [] = ⊥
  OverFirst p (c ∷ rest) = Cover k j (st σ p) c

  held : (run : List (List B)) → Goes j d run → (p : ℕ) → p < length ps → OverFirst p run → Held j d ps p run
  held run (stops c) p l h = whole p c (shown p c l h)
  held run (steps c given rest live on) p l h =
      by_fate (held (cycled j d c given ∷ rest) on) (point_at ps p).fate refl
    where
      run_on : (t : ℕ) → ((q : ℕ) → q < length ps → OverFirst q (cycled j d c given ∷ rest) → Held j d ps q (cycled j d c given ∷ rest)) →
          (point_at ps t).fate ≡ fate.Walked → Leaves ps p t → Cover k j (st σ t) c → Held j d ps p (c ∷ (cycled j d c given ∷ rest))
      run_on t again w leaves over =
          let n : Onward t c (cycled j d c given) = goes_on t c given w over in
          onward p t n.place c (cycled j d c given) rest (shown p c l h) leaves n.leads n.charged (again n.place n.inside n.over)

      by_fate : ((q : ℕ) → q < length ps → OverFirst q (cycled j d c given ∷ rest) → Held j d ps q (cycled j d c given ∷ rest)) →
          (f : Fate) → (point_at ps p).fate ≡ f → Held j d ps p (c ∷ (cycled j d c given ∷ rest))
      by_fate again fate.Open e = early p c (cycled j d c given ∷ rest) (shown p c l h) e
      by_fate again fate.Walked e = run_on p again e (as_walked p e) h
      by_fate again (fate.Cut t) e =
          let c' : Cut k d ps σ p t = (holds.done p (cut_open (point_at ps p).fate t e)).if_cut t e in
          run_on t again c'.0 (as_cut p t e) (covers_trans k k j (st σ t) (st σ p) c c'.1 h)
      by_fate again fate.Halted e =
          let odd : (point_at ps p).key % 2 ≡ 1 = (holds.done p (halted_open (point_at ps p).fate e)).if_halted e in
          absurd (eqb-false (key_of j d c % 2) 1 live (ap (λ (x : ℕ). x % 2) (sym (shown p c l h)) ∙ odd))

module _ {V B : Type 0} (k : Kind V) (j : Kind B) (lk : Lawful k) (lj : Lawful j) where
  pub no_run_escapes : Wide k → Definite j → NoRunEscapes k j
  no_run_escapes wide def d ok r taken reached p n m c rest h on =
      let all : (σ : List (List V)) × Holds k d r.points r.waiting r.entries taken σ = reached_holds k d ok lk r taken reached in
      let b : Begun k d r.points all.0 (p, n) = all-has (Begun k d r.points all.0) taken (p, n) all.1.begun m in
      held k j d ok lk lj wide def r.points r.waiting r.entries taken all.0 all.1 (c ∷ rest) on p b.0
      (covers_trans k k j (st all.0 p) (start_state k d n) c b.1 h)
