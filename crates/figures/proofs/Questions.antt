-- Lemmas on the questions of a window. Assumes nothing.
use Rattle.std.proofs.Common.{◌≡◌, ℕ, not, ◌&&◌, eqb, leb, List, [], ◌∷◌, length, None, Option, sym, arith}
use Rattle.bundle.specs.declared.refusal.Fault.TheVariants as fault
use Rattle.bundle.specs.declared.refusal.Refusal.{Refusal}
use Rattle.bundle.specs.Format.{ask, ask_each}
use Rattle.bundle.proofs.Asked.{all_good}
use Rattle.bundle.proofs.WholeFacts.{none_parts}
use Rattle.record.specs.declared.point.Point.{Point}
use Rattle.figures.specs.Figures.{names_used, window_refusal, AllNamed}

-- where a window is not refused, its records name only points of the list
pub granted : (ps : List Point) (w row other : ℕ) → None ≡ window_refusal ps w row other → AllNamed ps
granted ps w row other e =
    let long : Option Refusal = ask (leb (length ps) row && leb (length ps) other) fault.Memory in
    let width : Option Refusal = ask (not (eqb w 0)) fault.NoWindow in
    let records : Option Refusal = ask_each (names_used ps) fault.Damaged 0 (length ps) in
    let rest = none_parts width (records ∷ []) (none_parts long (width ∷ (records ∷ [])) (sym e)).1 in
    λ i l. all_good (names_used ps) fault.Damaged 0 (length ps) (none_parts records [] rest.1).0 i (omega arith) (omega arith)
