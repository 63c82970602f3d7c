-- What a record's points hold, and that it lasts as the record grows. Assumes nothing.
use Rattle.std.proofs.Common.{◌≡◌, ℕ, ◌+◌, ◌%◌, ◌<◌, ◌≤◌, ◌⊎◌, List, [], ◌∷◌, ◌++◌, length, get_or, set, sym, ap, ◌∙◌, subst, subst₂, ⊎_elim, arith, length-append, length-set, get_or-set_other, get_or-set_same, get_or-append-add}
use lib.ListN.{get_or-append, get_or-eq_default}
use Rattle.std.specs.List.{ContainsAt as Has, AllByRecursion}
use Rattle.std.proofs.lemmas.Bool.{cases_lt}
use Rattle.levels.specs.Kinds.{Kind, Cover}
use Rattle.model.specs.Core.{Core}
use Rattle.model.specs.Cycle.{start_state}
use Rattle.model.specs.Energy.{charge}
use Rattle.record.specs.declared.point.Origin.TheVariants as origin
use Rattle.record.specs.declared.point.Fate.{Fate}
use Rattle.record.specs.declared.point.Fate.TheVariants as fate
use Rattle.record.specs.declared.point.Point.{Point}
use Rattle.record.specs.Record.{Waiting, Entry, nowhere, successor_keys, after_key}
use Rattle.record.specs.Runs.{point_at}
use Rattle.record.proofs.Covering.{covers_trans}
use Rattle.record.proofs.States.{Good}

abbrev pub st : {V : Type 0} → List (List V) → ℕ → List V
st σ q = get_or σ q []

pub walked_open : (f : Fate) → f ≡ fate.Walked → f ≡ fate.Open → ⊥
walked_open f e h = let z : ◌≡◌ {A = ℕ} 0 1 = cc in omega arith

pub cut_open : (f : Fate) (t : ℕ) → f ≡ fate.Cut t → f ≡ fate.Open → ⊥
cut_open f t e h = let z : ◌≡◌ {A = ℕ} 0 1 = cc in omega arith

pub halted_open : (f : Fate) → f ≡ fate.Halted → f ≡ fate.Open → ⊥
halted_open f e h = let z : ◌≡◌ {A = ℕ} 0 1 = cc in omega arith

-- a point that is not open is in the record
pub known : (ps : List Point) (q : ℕ) → ((point_at ps q).fate ≡ fate.Open → ⊥) → q < length ps
known ps q h =
    ⊎_elim (λ l. l) (λ l. absurd (h (ap (λ (x : Point). x.fate) (get_or-eq_default ps nowhere l)))) (cases_lt q (length ps))

module _ {V : Type 0} (k : Kind V) (d : Core) where
  module _ (ps : List Point) (σ : List (List V)) where
    -- q is the successor of p for the key
    pub record Next (p key q : ℕ) : Type 0 where
      pub inside : q < length ps
      pub comes : (point_at ps q).origin ≡ origin.From p
      pub shown : (point_at ps q).key ≡ key
      pub charged : (point_at ps q).charge ≡ charge k d (st σ p) (after_key k d (st σ p) key)
      pub over : Cover k k (st σ q) (after_key k d (st σ p) key)

    abbrev pub Walks : ℕ → Type 0
    Walks p = (key : ℕ) → Has (successor_keys k d (st σ p)) key → (q : ℕ) × Next p key q

    abbrev pub Cut : ℕ → ℕ → Type 0
    Cut p t = ((point_at ps t).fate ≡ fate.Walked) × Cover k k (st σ t) (st σ p)

    -- what the fate of p says, where it is not open
    pub record Done (p : ℕ) : Type 0 where
      pub if_walked : (point_at ps p).fate ≡ fate.Walked → Walks p
      pub if_cut : (t : ℕ) → (point_at ps p).fate ≡ fate.Cut t → Cut p t
      pub if_halted : (point_at ps p).fate ≡ fate.Halted → (point_at ps p).key % 2 ≡ 1

    -- the open points that wait, the highest number first
    abbrev pub Below : ℕ → List (Waiting V) → Type 0
    Below b [] = Unit {0}
    Below b (w ∷ ws) = (w.number < b) × ((point_at ps w.number).fate ≡ fate.Open) × (st σ w.number ≡ w.state) × Below w.number ws

    abbrev pub Entered : Entry V → Type 0
    Entered e = ((point_at ps e.point).fate ≡ fate.Walked) × (st σ e.point ≡ e.state)

    abbrev pub Begun : ℕ × ℕ → Type 0
    Begun x = (x.0 < length ps) × Cover k k (st σ x.0) (start_state k d x.1)

  -- the point waits
  abbrev pub Listed : ℕ → List (Waiting V) → Type 0
  Listed q [] = ⊥
  Listed q (w ∷ ws) = (q ≡ w.number) ⊎ Listed q ws

  -- what the record of points, waiting, entries and starts holds with the states σ
  pub record Holds (ps : List Point) (ws : List (Waiting V)) (es : List (Entry V)) (taken : List (ℕ × ℕ)) (σ : List (List V)) : Type 0 where
    pub lengths : length σ ≡ length ps
    pub good : (q : ℕ) → q < length ps → Good k d (point_at ps q).key (st σ q)
    pub done : (q : ℕ) → ((point_at ps q).fate ≡ fate.Open → ⊥) → Done ps σ q
    pub waits : Below ps σ (length ps) ws
    pub listed : (q : ℕ) → q < length ps → (point_at ps q).fate ≡ fate.Open → Listed q ws
    pub entered : AllByRecursion (Entered ps σ) es
    pub begun : AllByRecursion (Begun ps σ) taken

  -- ---- a record that grows

  module _ (ps ps' : List Point) (σ σ' : List (List V)) where
    pub record Kept (q : ℕ) : Type 0 where
      pub origin : (point_at ps' q).origin ≡ (point_at ps q).origin
      pub key : (point_at ps' q).key ≡ (point_at ps q).key
      pub charge : (point_at ps' q).charge ≡ (point_at ps q).charge
      pub over : Cover k k (st σ' q) (st σ q)

    abbrev pub Same : ℕ → Type 0
    Same q = (point_at ps' q ≡ point_at ps q) × (st σ' q ≡ st σ q)

    pub record Grows : Type 0 where
      pub longer : length ps ≤ length ps'
      pub kept : (q : ℕ) → q < length ps → Kept q
      pub same : (q : ℕ) → ((point_at ps q).fate ≡ fate.Open → ⊥) → Same q

    module _ (g : Grows) where
      walks_on : (p : ℕ) → st σ' p ≡ st σ p → Walks ps σ p → Walks ps' σ' p
      walks_on p e w key m =
          let old : (q : ℕ) × Next ps σ p key q = w key (subst (λ (x : List V). Has (successor_keys k d x) key) e m) in
          let q : ℕ = old.0 in
          let n : Next ps σ p key q = old.1 in
          let on : Kept q = g.kept q n.inside in
          let l : length ps ≤ length ps' = g.longer in
          let i : q < length ps = n.inside in (
            q,
            record {
              inside = omega arith;
              comes = on.origin ∙ n.comes;
              shown = on.key ∙ n.shown;
              charged = on.charge ∙ n.charged ∙ ap (λ (x : List V). charge k d x (after_key k d x key)) (sym e);
              over = covers_trans k k k (st σ' q) (st σ q) (after_key k d (st σ' p) key) on.over
                  (subst (λ (x : List V). Cover k k (st σ q) (after_key k d x key)) (sym e) n.over);
            },
          )

      pub done_on : (q : ℕ) → ((point_at ps q).fate ≡ fate.Open → ⊥) → Done ps σ q → Done ps' σ' q
      done_on q shut h =
          let e : Same q = g.same q shut in
          let f : (point_at ps' q).fate ≡ (point_at ps q).fate = ap (λ (x : Point). x.fate) e.0 in
          record {
            if_walked = λ w. walks_on q e.1 (h.if_walked (sym f ∙ w));
            if_cut = λ t c.
                let was : Cut ps σ q t = h.if_cut t (sym f ∙ c) in
                let u : Same t = g.same t (walked_open (point_at ps t).fate was.0) in (
                  ap (λ (x : Point). x.fate) u.0 ∙ was.0,
                  subst₂ (λ (x y : List V). Cover k k x y) (sym u.1) (sym e.1) was.1,
                );
            if_halted = λ c. ap (λ (x : Point). x.key % 2) e.0 ∙ h.if_halted (sym f ∙ c);
          }

      pub entered_on : (e : Entry V) → Entered ps σ e → Entered ps' σ' e
      entered_on e h =
          let u : Same e.point = g.same e.point (walked_open (point_at ps e.point).fate h.0) in
          (ap (λ (x : Point). x.fate) u.0 ∙ h.0, u.1 ∙ h.1)

      pub begun_on : (x : ℕ × ℕ) → Begun ps σ x → Begun ps' σ' x
      begun_on x h =
          let l : length ps ≤ length ps' = g.longer in
          let i : x.0 < length ps = h.0 in
          (omega arith, covers_trans k k k (st σ' x.0) (st σ x.0) (start_state k d x.1) (g.kept x.0 i).over h.1)

    pub below_on : (b : ℕ) (ws : List (Waiting V)) → ((q : ℕ) → q < b → Same q) → Below ps σ b ws → Below ps' σ' b ws
    below_on b [] s h = tt
    below_on b (w ∷ ws) s h =
        let u : Same w.number = s w.number h.0 in
        let l : w.number < b = h.0 in (
          l,
          ap (λ (x : Point). x.fate) u.0 ∙ h.1,
          u.1 ∙ h.2,
          below_on w.number ws (λ q i. s q (omega arith)) h.3,
        )

-- ---- a list with one element changed and others added

module _ {A : Type 0} (xs : List A) (p : ℕ) (y : A) (zs : List A) (e : A) where
  pub changed_length : length (set xs p y ++ zs) ≡ length xs + length zs
  changed_length = simp (length-append, length-set)

  pub changed_here : p < length xs → get_or (set xs p y ++ zs) p e ≡ y
  changed_here h = get_or-append (set xs p y) zs e p (rw (length-set xs p y) h) ∙ get_or-set_same xs p y e h

  pub changed_there : (q : ℕ) → q < length xs → (q ≡ p → ⊥) → get_or (set xs p y ++ zs) q e ≡ get_or xs q e
  changed_there q h n = get_or-append (set xs p y) zs e q (rw (length-set xs p y) h) ∙ get_or-set_other xs p q y e n

  pub changed_new : (i : ℕ) → get_or (set xs p y ++ zs) (length xs + i) e ≡ get_or zs i e
  changed_new i =
      ap (λ (n : ℕ). get_or (set xs p y ++ zs) (n + i) e) (sym (length-set xs p y)) ∙ get_or-append-add (set xs p y) zs i e
