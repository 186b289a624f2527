use Rattle.std.proofs.Common.{◌≡◌, ◌∙◌, ◌++◌, sym, ap, refl, List, ℕ}
use Rattle.std.specs.Prelude.{codes}
use Rattle.std.specs.Str.{chars}
use Rattle.std.specs.List.{join_by, slice_split}
use Rattle.pur_laws.proofs.Texts.{chars_ascii}
use Rattle.pur_text.specs.Texts.{text_of}
use Rattle.pur_sheet.specs.Selectors.{chain_text, is_child, words_of}
use Rattle.pur_sheet.proofs.SelectorLemmas.{chains_written, joined_first}
use Rattle.pur_sheet.proofs.selectors.push_chains.Goals as goal

pub writing-preserved : goal.writing-preserved
writing-preserved c =
    let old = text_of c.writing.text in
    let rest = c.writing.rest.now in
    let chain = c.in-Some.chain.now in
    let behind = c.in-Some.behind.now in
    let one = λ (text : List ℕ). chain_text (words_of text) in
    let new : text_of c.push_text.new.text ≡ (old ++ one chain) ++ codes " > " =
    c.in_ok-push_text.ensures ∙ ap (λ t. t ++ chars (codes " > ")) c.in_ok-push_chain.ensures
    ∙ ap (λ t. (old ++ one chain) ++ t) (chars_ascii (codes " > ") refl) in
    ap (λ t. text_of c.push_text.new.text ++ t) (chains_written behind) ∙ ap (λ t. t ++ join_by one (codes " > ") (slice_split is_child behind)) new
    ∙ joined_first is_child one (codes " > ") old rest chain behind c.in-Some.ensures.cut
    ∙ ap (λ t. old ++ t) (sym (chains_written rest)) ∙ c.writing.invariant
