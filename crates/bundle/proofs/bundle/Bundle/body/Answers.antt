use Rattle.std.proofs.Common.{Some, Option, sym, ◌∙◌, subst, rules}
use Rattle.bundle.specs.declared.body.Body.{Body}
use Rattle.bundle.specs.Bodies.{HandedOut}
use Rattle.bundle.proofs.WholeFacts.{in_order, no_stretch, stretch_found}
use Rattle.bundle.proofs.bundle.Bundle.body.Goals as goal

pub returns-in_err-row : goal.returns-in_err-row
returns-in_err-row c =
    let b = c.args.self.now in
    let h : HandedOut b c.args.row c.from_residual.result = search rules in
    record { handed = h; in_order = in_order b c.args.row _ h }

pub returns-in_err-stretch : goal.returns-in_err-stretch
returns-in_err-stretch c =
    let b = c.args.self.now in
    let h : HandedOut b c.args.row c.from_residual-in_err-stretch.result =
    subst (λ (o : Option Body). HandedOut b c.args.row o) (sym c.from_residual-in_err-stretch.ensures)
    (no_stretch b c.args.row _ _ c.in_ok-row.ensures c.end.ensures c.in_err-stretch.ensures.lookup.0) in
    record { handed = h; in_order = in_order b c.args.row _ h }

pub returns : goal.returns
returns c =
    let b = c.args.self.now in
    let got = c.in_ok-stretch.ensures.lookup.0 in
    let h =
    stretch_found b c.args.row _ _ _ _ c.if-row-self.false c.in_ok-row.ensures c.end.ensures got.1 got.2 (c.of.ensures.kind ∙ c.from.ensures) c.of.ensures.bytes in
    record { handed = h; in_order = in_order b c.args.row (Some c.of.result) h }
