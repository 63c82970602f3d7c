-- A contents row, read and tested, is as the format says. Assumes nothing.
use Rattle.std.proofs.Common.{◌≡◌, ℕ, ◌+◌, ◌*◌, Bool, true, false, cond, not, ◌&&◌, ◌||◌, eqb, List, length, is_some, Some, None, Option, sym, refl, ap, ◌∙◌, ap₂, add-one, arith}
use Rattle.bundle.specs.declared.row.Row.{Row}
use Rattle.bundle.specs.Format.{rows, row_inside, kind_right, row_right, entry_size, part_end, row_placed}
use Rattle.bundle.specs.Contents.{the_row, row_at}

pub row_seen : (bs : List ℕ) (i : ℕ) (o : Option Row) (b : Bool) → o ≡ row_at bs i → is_some o ≡ b → row_inside bs i ≡ b
row_seen bs i o b e s = sym (isSome_cond (row_inside bs i) (the_row bs i)) ∙ sym (ap is_some e) ∙ s
  where
    isSome_cond : (b : Bool) (r : Row) → is_some (cond b (Some r) None) ≡ b
    isSome_cond true r = refl
    isSome_cond false r = refl

pub row_found : (bs : List ℕ) (i : ℕ) (row : Row) → Some row ≡ row_at bs i → (row_inside bs i ≡ true) × (row ≡ the_row bs i)
row_found bs i row e = found (row_inside bs i) (the_row bs i) row e
  where
    found : (b : Bool) (r row : Row) → Some row ≡ cond b (Some r) None → (b ≡ true) × (row ≡ r)
    found true r row e = (refl, cc)
    found false r row e = let z : ◌≡◌ {A = ℕ} 0 1 = cc in absurd (omega arith)

pub right_seen :
    (bs : List ℕ) (i : ℕ) (row : Row) (b t : Bool) → row ≡ the_row bs i
    → b ≡ (kind_right i row.kind && eqb row.zero 0) → b ≡ t → row_right bs i ≡ t
right_seen bs i row b t e is bt = sym (ap (λ (r : Row). kind_right i r.kind && eqb r.zero 0) e) ∙ sym is ∙ bt

abbrev pub row_end : Row → ℕ
row_end r = r.offset + r.count * entry_size r.kind

pub placed_seen :
    (bs : List ℕ) (i part n : ℕ) (row : Row) (b t : Bool) → row ≡ the_row bs i → part ≡ part_end bs i → n ≡ rows bs
    → b ≡ (eqb row.offset part && (not (eqb (i + 1) n) || eqb (row.offset + row.count * entry_size row.kind) (length bs)))
    → b ≡ t → row_placed bs i ≡ t
placed_seen bs i part n row b t e at all is bt =
    sym (ap (λ (r : Row). eqb r.offset part && (not (eqb (i + 1) n) || eqb (row_end r) (length bs))) e
    ∙ ap₂ (λ (p m : ℕ). eqb (the_row bs i).offset p && (not (eqb (i + 1) m) || eqb (row_end (the_row bs i)) (length bs))) at all)
    ∙ sym is ∙ bt

-- where a body ends, the next begins
pub next_start : (bs : List ℕ) (i e : ℕ) (row : Row) → row ≡ the_row bs i → e ≡ row.offset + row.count * entry_size row.kind → e ≡ part_end bs (i + 1)
next_start bs i e row is end = end ∙ ap row_end is ∙ sym (ap (part_end bs) (add-one i))
