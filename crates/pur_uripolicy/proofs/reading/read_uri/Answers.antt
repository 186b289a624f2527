use Rattle.std.proofs.Common.{◌∙◌, true, false, Some, None, sym}
use Rattle.pur_uripolicy.proofs.UseLemmas.{under-found, fit-kept}
use Rattle.pur_uripolicy.proofs.reading.read_uri.Goals as goal

pub returns-then-is_fit : goal.returns-then-is_fit
returns-then-is_fit g c =
    let settings = c.args.settings.now in
    let gate = c.args.gate.now in
    fit-kept settings gate c.args.purpose c.in-Some.uri true (sym c.if-is_fit.true ∙ c.is_fit.ensures)
    ∙ under-found settings gate c.args.purpose c.args.raw.now (Some c.in-Some.uri) c.utf8.raw (sym c.in-Some.is ∙ c.in_ok-uri.ensures)

pub returns-else-is_fit : goal.returns-else-is_fit
returns-else-is_fit g c =
    let settings = c.args.settings.now in
    let gate = c.args.gate.now in
    fit-kept settings gate c.args.purpose c.in-Some.uri false (sym c.if-is_fit.false ∙ c.is_fit.ensures)
    ∙ under-found settings gate c.args.purpose c.args.raw.now (Some c.in-Some.uri) c.utf8.raw (sym c.in-Some.is ∙ c.in_ok-uri.ensures)

pub returns-in-None : goal.returns-in-None
returns-in-None g c =
    under-found c.args.settings.now c.args.gate.now c.args.purpose c.args.raw.now None c.utf8.raw (sym c.in-None.is ∙ c.in_ok-uri.ensures)
