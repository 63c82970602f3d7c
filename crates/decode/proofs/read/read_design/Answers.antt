use Rattle.std.proofs.Common.{◌≡◌, ℕ, List, [], ◌∷◌, None, sym, refl, ap, ◌∙◌}
use Rattle.std.proofs.lemmas.Result.{err_from_is_err_and, MatchResult-from_err}
use Rattle.bundle.specs.declared.header.Header.{Header}
use Rattle.bundle.specs.Format.{bundle_refusal}
use Rattle.decode.specs.Decode.{Parts, parts_of, parts_refusal, core_from, design_refusal}
use Rattle.decode.specs.Holds.{parts_in}
use Rattle.decode.proofs.Refusing.{passed, last_asked, handed_on}
use Rattle.decode.proofs.Holding.{core_is, nets_limit, ram_limit, wires_counted, mark_there, starts_limit, flops_counted, flops_there, tables_sound}
use Rattle.decode.proofs.read.read_design.Goals as goal

-- the parts of an opened bundle decide
parts_decide : (p : Parts) (bs : List ℕ) → p ≡ parts_of bs → bundle_refusal bs ≡ None → parts_refusal p ≡ design_refusal bs
parts_decide p bs e h =
    ap parts_refusal e ∙ (last_asked (parts_refusal (parts_of bs)) ∙ passed (bundle_refusal bs) (parts_refusal (parts_of bs) ∷ []) (sym h))

pub returns-in_err-read_tables : goal.returns-in_err-read_tables
returns-in_err-read_tables c =
    let o = c.in_ok-bundle.ensures in
    let p : Parts = parts_in c.header.result c.bodies.result in
    let e : p ≡ parts_of c.args.bytes.now = ap (λ (h : Header). parts_in h c.bodies.result) c.header.ensures ∙ (c.bodies.ensures ∙ ap parts_of o.0) in
    let q = err_from_is_err_and c.from_residual-in_err-read_tables.result c.from_residual-in_err-read_tables.ensures.1 in
    record {
      refusal =
          handed_on c.from_residual-in_err-read_tables.result q.0 c.in_err-read_tables.field-0.0 _ q.1 q.2
          (c.in_err-read_tables.ensures.refusal ∙ parts_decide p c.args.bytes.now e (ap bundle_refusal (sym o.0) ∙ o.1.0));
      tables = MatchResult-from_err c.from_residual-in_err-read_tables.result _ _ c.from_residual-in_err-read_tables.ensures.0 (λ y. refl);
    }

pub invariant_of-design : goal.invariant_of-design
invariant_of-design c =
    let p : Parts = parts_in c.header.result c.bodies.result in
    let t = c.read_tables.new.tables in
    let h = c.in_ok-read_tables.ensures.tables in
    let r = c.in_ok-read_tables.ensures.refusal in
    record {
      nets_length = nets_limit t p h r;
      ram_length = ram_limit t p h r;
      wires_length = wires_counted t p h r;
      mark = mark_there t p h r;
      starts_length = starts_limit t p h r;
      flop_count = flops_counted t p h r;
      some_flop = flops_there t p h r;
      sound = tables_sound t p h r;
    }

pub returns : goal.returns
returns c =
    let o = c.in_ok-bundle.ensures in
    let p : Parts = parts_in c.header.result c.bodies.result in
    let e : p ≡ parts_of c.args.bytes.now = ap (λ (h : Header). parts_in h c.bodies.result) c.header.ensures ∙ (c.bodies.ensures ∙ ap parts_of o.0) in
    record {
      refusal = c.in_ok-read_tables.ensures.refusal ∙ parts_decide p c.args.bytes.now e (ap bundle_refusal (sym o.0) ∙ o.1.0);
      tables = core_is c.read_tables.new.tables p c.in_ok-read_tables.ensures.tables c.in_ok-read_tables.ensures.refusal ∙ ap core_from e;
    }
