use Rattle.std.proofs.Common.{◌≡◌, ℕ, Bool, ◌&&◌, eqb, List, take, drop, sym, ap, ◌∙◌, rules, tests}
use Rattle.std.specs.List.{list_all}
use Rattle.std.proofs.lemmas.Iterator.{YieldsList-from_slice, YieldsList-from_take}
use Rattle.std.proofs.lemmas.Iterator.Adapters.{YieldsList-from_skip}
use Rattle.std.proofs.lemmas.Iterator.Search.{all_from_yields_List}
use Rattle.decode.specs.Nets.{pin_right}
use Rattle.decode.proofs.Chains.{fields_split}
use Rattle.decode.proofs.nets.NetBody.fields_right.Goals as goal

pub returns-then-used : goal.returns-then-used
returns-then-used c =
    let test : ℕ → Bool = pin_right c.args.self.now.cells.now c.args.self.now.bytes.now c.args.cell.usage c.args.i in
    let xs : List ℕ = c.args.fields.now in
    let n : ℕ = c.args.cell.pins in
    let u : c.all-used.result ≡ list_all test (take n xs)
    = all_from_yields_List test _ _ c.all-used.result c.all-used.ensures.ran (YieldsList-from_take n (YieldsList-from_slice xs cc) cc) (λ x b q k. search (rules, tests)) in
    let s : c.all.result ≡ list_all (λ x. eqb x 0) (drop n xs)
    = all_from_yields_List (λ x. eqb x 0) _ _ c.all.result c.all.ensures.ran (YieldsList-from_skip n (YieldsList-from_slice xs cc) cc) (λ x b q k. search (rules, tests)) in
    s ∙ (ap (λ (b : Bool). b && list_all (λ x. eqb x 0) (drop n xs)) (sym c.if-used.true ∙ u) ∙ sym (fields_split test n xs))

pub returns-else-used : goal.returns-else-used
returns-else-used c =
    let test : ℕ → Bool = pin_right c.args.self.now.cells.now c.args.self.now.bytes.now c.args.cell.usage c.args.i in
    let xs : List ℕ = c.args.fields.now in
    let n : ℕ = c.args.cell.pins in
    let u : c.all-used.result ≡ list_all test (take n xs)
    = all_from_yields_List test _ _ c.all-used.result c.all-used.ensures.ran (YieldsList-from_take n (YieldsList-from_slice xs cc) cc) (λ x b q k. search (rules, tests)) in
    c.if-used.false ∙ (ap (λ (b : Bool). b && list_all (λ x. eqb x 0) (drop n xs)) (sym c.if-used.false ∙ u) ∙ sym (fields_split test n xs))
