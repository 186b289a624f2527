-- What the name names decides.
use Rattle.std.proofs.Common.{◌≡◌, ◌∙◌, ap, sym, Some, true, false}
use Rattle.std.specs.Str.{chars}
use Rattle.pur_modules.proofs.NameLaws.{element_named-chars}
use Rattle.pur_names.specs.Elements.{element_name, element_named}
use Rattle.pur_settings.specs.Rules.{permits_element}
use Rattle.pur_attrlist.specs.Texts.{text_of}
use Rattle.pur_foreign.specs.Removal.{element_in, attributes_in, is_admitted, tag_image}
use Rattle.pur_foreign.proofs.RemovalLemmas.{tag-goes, tag-unadmitted, tag-stays}
use Rattle.pur_foreign.proofs.removal.kept_tag.Goals as goal

pub returns-in-None : goal.returns-in-None
returns-in-None g c = λ make.
    let named = c.from_name.ensures.value ∙ sym (element_named-chars c.as_str.result.now c.as_str.utf8) in
    ap (λ found. tag_image c.args.settings.now c.args.gate.now make found c.args.tag.attrs) (sym c.in-None.is ∙ named ∙ ap (λ t. element_named (chars t)) c.as_str.ensures.value)

pub returns-then-not-permits : goal.returns-then-not-permits
returns-then-not-permits g c = λ make.
    let rules = c.args.settings.now in
    let rule = c.args.gate.now in
    let e = c.in-Some.element in
    let named = c.from_name.ensures.value ∙ sym (element_named-chars c.as_str.result.now c.as_str.utf8) in
    let found : Some e ≡ element_named (text_of c.args.tag.name) = sym c.in-Some.is ∙ named ∙ ap (λ t. element_named (chars t)) c.as_str.ensures.value in
    let kept : c.element_in-kept.result ≡ element_in rules.doctype e = c.element_in-kept.ensures ∙ ap (λ d. element_in d e) c.doctype-doctype.ensures in
    let refused : permits_element rules (element_in rules.doctype e) ≡ false = ap (permits_element rules) (sym kept) ∙ sym c.if-not-permits.ensures in
    tag-goes rules rule make e c.args.tag.attrs refused ∙ ap (λ found. tag_image rules rule make found c.args.tag.attrs) found

pub returns-then-not-admitted : goal.returns-then-not-admitted
returns-then-not-admitted g c = λ make.
    let rules = c.args.settings.now in
    let rule = c.args.gate.now in
    let e = c.in-Some.element in
    let named = c.from_name.ensures.value ∙ sym (element_named-chars c.as_str.result.now c.as_str.utf8) in
    let found : Some e ≡ element_named (text_of c.args.tag.name) = sym c.in-Some.is ∙ named ∙ ap (λ t. element_named (chars t)) c.as_str.ensures.value in
    let kept : c.element_in-kept.result ≡ element_in rules.doctype e = c.element_in-kept.ensures ∙ ap (λ d. element_in d e) c.doctype-doctype.ensures in
    let changed : c.in_ok-attrs.attrs ≡ attributes_in rules.doctype e c.args.tag.attrs = c.in_ok-attrs.ensures ∙ ap (λ d. attributes_in d e c.args.tag.attrs) c.doctype-doctype.ensures in
    let refused : is_admitted rules rule (element_in rules.doctype e) (attributes_in rules.doctype e c.args.tag.attrs) ≡ false =
    ap (λ k. is_admitted rules rule k (attributes_in rules.doctype e c.args.tag.attrs)) (sym kept)
    ∙ ap (is_admitted rules rule c.element_in-kept.result) (sym changed)
    ∙ sym c.in_ok-admitted.ensures
    ∙ c.if-not-admitted.true in
    tag-unadmitted rules rule make e c.args.tag.attrs refused ∙ ap (λ found. tag_image rules rule make found c.args.tag.attrs) found

pub returns : goal.returns
returns g c = λ make.
    let rules = c.args.settings.now in
    let rule = c.args.gate.now in
    let e = c.in-Some.element in
    let named = c.from_name.ensures.value ∙ sym (element_named-chars c.as_str.result.now c.as_str.utf8) in
    let found : Some e ≡ element_named (text_of c.args.tag.name) = sym c.in-Some.is ∙ named ∙ ap (λ t. element_named (chars t)) c.as_str.ensures.value in
    let kept : c.element_in-kept.result ≡ element_in rules.doctype e = c.element_in-kept.ensures ∙ ap (λ d. element_in d e) c.doctype-doctype.ensures in
    let permitted : permits_element rules (element_in rules.doctype e) ≡ true = ap (permits_element rules) (sym kept) ∙ sym c.if-not-permits.ensures in
    let changed : c.in_ok-attrs.attrs ≡ attributes_in rules.doctype e c.args.tag.attrs = c.in_ok-attrs.ensures ∙ ap (λ d. attributes_in d e c.args.tag.attrs) c.doctype-doctype.ensures in
    let admitted : is_admitted rules rule (element_in rules.doctype e) (attributes_in rules.doctype e c.args.tag.attrs) ≡ true =
    ap (λ k. is_admitted rules rule k (attributes_in rules.doctype e c.args.tag.attrs)) (sym kept)
    ∙ ap (is_admitted rules rule c.element_in-kept.result) (sym changed)
    ∙ sym c.in_ok-admitted.ensures
    ∙ c.if-not-admitted.false in
    tag-stays rules rule make e c.args.tag.attrs c.in_ok-attrs.attrs (element_name c.element_in-kept.result) permitted admitted (ap element_name kept) changed
    ∙ ap (λ found. tag_image rules rule make found c.args.tag.attrs) found
