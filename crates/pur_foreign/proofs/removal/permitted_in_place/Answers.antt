-- The leave of the element that stands for it decides.
use Rattle.std.proofs.Common.{◌≡◌, ◌∙◌, ap, sym}
use Rattle.pur_names.specs.Elements.{element_name}
use Rattle.pur_settings.specs.Rules.{permits_element}
use Rattle.pur_foreign.specs.Removal.{element_in}
use Rattle.pur_foreign.proofs.RemovalLemmas.{end-goes, end-stays}
use Rattle.pur_foreign.proofs.removal.permitted_in_place.Goals as goal

pub returns-then-not-permits : goal.returns-then-not-permits
returns-then-not-permits c =
    let rules = c.args.settings.now in
    let e = c.args.element in
    let kept : c.element_in-kept.result ≡ element_in rules.doctype e = c.element_in-kept.ensures ∙ ap (λ d. element_in d e) c.doctype.ensures in
    end-goes rules e (ap (permits_element rules) (sym kept) ∙ sym c.if-not-permits.ensures)

pub returns : goal.returns
returns c =
    let rules = c.args.settings.now in
    let e = c.args.element in
    let kept : c.element_in-kept.result ≡ element_in rules.doctype e = c.element_in-kept.ensures ∙ ap (λ d. element_in d e) c.doctype.ensures in
    end-stays rules e (element_name c.element_in-kept.result) (ap (permits_element rules) (sym kept) ∙ sym c.if-not-permits.ensures) (ap element_name kept)
