-- What a call leaves in the parts of a memory of which it was lent the first places. Assumes nothing.
use Rattle.std.specs.Prelude.{IfOk}
use Rattle.std.proofs.Common.{◌≡◌, ℕ, Result, Ok, Err, Vec, vec_len, List, ◌++◌, Option, length, take, drop, subst₂, sym, ap, ◌∙◌, arith, length-append, length-drop}
use Rattle.std.specs.Vec.{with_items}
use Rattle.std.proofs.lemmas.List.{length-take-le, with_items_is}
use Rattle.std.proofs.lemmas.Slice.{drop-append-drop}
use Rattle.std.proofs.Math.Seq.{take-append_seam}
use Rattle.levels.specs.declared.Tri.{Tri}
use Rattle.record.specs.declared.point.Point.{Point}
use Rattle.explore.specs.declared.exploration.Exploration.{Exploration}
use Rattle.explore.specs.Memory.{Memory as Held, memory_of}
use Rattle.beside.specs.declared.bench.Bench.{Bench}
use Rattle.beside.specs.declared.memory.Part.{Part}
use Rattle.beside.specs.declared.memory.Part.TheVariants as part
use Rattle.beside.specs.Lent.{lent_count, lent_places, lent_to, held, KeepsRest}

module _ {A : Type 0} (short : Option Part) (p : Part) (n : ℕ) (new old : List A) (cut : n ≡ lent_count short p (length old)) (long : length new ≡ length (take n old)) where
  as_long : length new ≡ n
  as_long = long ∙ length-take-le n old (omega (arith, cut))

  whole : length (new ++ drop n old) ≡ length old
  whole = length-append new (drop n old) ∙ omega (arith, as_long, cut, length-drop n old)

  pub lent_after : new ≡ lent_places short p (new ++ drop n old)
  lent_after =
      let count : lent_count short p (length (new ++ drop n old)) ≡ length new = ap (lent_count short p) whole ∙ sym cut ∙ sym as_long in
      sym (ap (λ (k : ℕ). take k (new ++ drop n old)) count ∙ take-append_seam new (drop n old))

  pub keeps_rest : KeepsRest short p old (new ++ drop n old)
  keeps_rest = (whole, drop-append-drop n old new (lent_count short p (length old)) (omega (arith, cut)) as_long)

-- an exploration with what is lent to it, part by part
pub held_equal : (x : Exploration) (short : Option Part) (points : List Point) (opened kept scratch : List Tri) {ps : List Point} {os ks ss : List Tri}
    → ps ≡ lent_places short part.Points points → os ≡ lent_places short part.Opened opened
    → ks ≡ lent_places short part.Kept kept → ss ≡ lent_places short part.Scratch scratch
    → memory_of x ps os ks ss ≡ lent_to x short points opened kept scratch
held_equal x short points opened kept scratch p o k s = cc

-- a bench's exploration with what is lent to it, out of vectors whose items these are
pub bench_held : (b : Bench) (points : List Point) (opened kept scratch : List Tri)
    → points ≡ b.memory.points.items → opened ≡ b.memory.opened.items → kept ≡ b.memory.kept.items → scratch ≡ b.memory.scratch.items
    → lent_to b.exploration b.memory.short points opened kept scratch ≡ held b
bench_held b points opened kept scratch p o k s = cc

-- the items of a vector, lent whole and written
pub written : {A Z : Type 0} (v : Vec A Z) (was items : List A) → length items ≡ length was → was ≡ v.items → items ≡ (with_items v items).items
written v was items long is = sym (with_items_is v items (long ∙ ap length is ∙ sym v.ok.0))

-- what stands of a memory and rows stands of what is equal to them
pub in_place : (P : Held → List ℕ → List ℕ → Held → List ℕ → List ℕ → Type 0) (b b′ : Held) (r r′ o o′ : List ℕ) (a a′ : Held) (s s′ u u′ : List ℕ)
    → b ≡ b′ → r ≡ r′ → o ≡ o′ → a ≡ a′ → s ≡ s′ → u ≡ u′ → P b r o a s u → P b′ r′ o′ a′ s′ u′
in_place P b b′ r r′ o o′ a a′ s s′ u u′ eb er eo ea es eu stands =
    subst₂ (λ (s u : List ℕ). P b′ r′ o′ a′ s u) es eu
    (subst₂ (λ (o : List ℕ) (a : Held). P b′ r′ o a s u) eo ea
    (subst₂ (λ (b : Held) (r : List ℕ). P b r o a s u) eb er stands))

pub if_ok : {T E P : Type 0} (r : Result T E) → P → IfOk r (λ _. P)
if_ok (Ok value) stands = stands
if_ok (Err error) stands = tt

-- what was there before stands first
pub first_ones : {A Z : Type 0} (v : Vec A Z) (items more : List A) → items ≡ v.items ++ more → take (vec_len v) items ≡ v.items
first_ones v items more is = ap (take (vec_len v)) is ∙ ap (λ (n : ℕ). take n (v.items ++ more)) v.ok.0 ∙ take-append_seam v.items more
