use Rattle.std.proofs.Common.{◌≡◌, ◌∙◌, ◌++◌, ap, refl}
use Rattle.std.specs.Prelude.{codes}
use Rattle.std.specs.Str.{chars}
use Rattle.std.specs.List.{join_by, slice_split}
use Rattle.pur_laws.proofs.Texts.{chars_ascii}
use Rattle.pur_text.specs.Texts.{text_of}
use Rattle.pur_sheet.specs.Selectors.{is_comma, selector_text}
use Rattle.pur_sheet.proofs.SelectorLemmas.{joined_first}
use Rattle.pur_sheet.proofs.selectors.push_selectors.Goals as goal

pub writing-preserved : goal.writing-preserved
writing-preserved c =
    let old = text_of c.writing.text in
    let behind = c.in-Some.behind.now in
    let one = selector_text c.args.scope.now in
    let new : text_of c.push_text.new.text ≡ (old ++ one c.in-Some.selector.now) ++ codes ", " =
    c.in_ok-push_text.ensures ∙ ap (λ t. t ++ chars (codes ", ")) c.in_ok-push_selector.ensures
    ∙ ap (λ t. (old ++ one c.in-Some.selector.now) ++ t) (chars_ascii (codes ", ") refl) in
    ap (λ t. t ++ join_by one (codes ", ") (slice_split is_comma behind)) new
    ∙ joined_first is_comma one (codes ", ") old c.writing.rest.now c.in-Some.selector.now behind c.in-Some.ensures.cut ∙ c.writing.invariant
