use Rattle.std.proofs.Common.{◌∙◌, ◌++◌, ◌∷◌, sym, ap, append_assoc}
use Rattle.std.specs.List.{flat_map}
use Rattle.pur_text.specs.Texts.{text_of}
use Rattle.pur_sheet.specs.Selectors.{chain_text, compound_text, words_of}
use Rattle.pur_sheet.proofs.SelectorLemmas.{chain_first}
use Rattle.pur_sheet.proofs.selectors.push_chain.Goals as goal

pub writing-init : goal.writing-init
writing-init c =
    let old = text_of c.args.text.now in
    let words = words_of c.in-Some.behind.now in
    let more = flat_map (λ word. 0x20 ∷ compound_text word) words in
    ap (λ t. t ++ more) c.in_ok-push_compound.ensures ∙ append_assoc old (compound_text c.in-Some.first.now) more
    ∙ ap (λ t. old ++ t) (sym (chain_first c.in-Some.first.now words) ∙ ap chain_text (sym c.in-Some.ensures.word))
