use Rattle.std.proofs.Common.{◌≡◌, ◌∙◌, sym, ap, ap₂}
use Rattle.pur_modules.specs.Contents.{content_held}
use Rattle.pur_validity.specs.Deciding.{are_word}
use Rattle.pur_tree.specs.Image.{nodes_of}
use Rattle.pur_reader.proofs.WithinLemmas.{not_permitted, excluded, word_here}
use Rattle.pur_reader.proofs.validity.is_right_here.Goals as goal

pub returns-then-not-permits : goal.returns-then-not-permits
returns-then-not-permits c =
    sym (not_permitted c.args.settings.now c.args.content c.args.round c.args.name (nodes_of c.args.kids.now) (sym c.permits.ensures ∙ c.if-not-permits.true))

pub returns-then-exclude : goal.returns-then-exclude
returns-then-exclude c =
    sym (excluded c.args.settings.now c.args.content c.args.round c.args.name (nodes_of c.args.kids.now) (sym c.permits.ensures ∙ c.if-not-permits.false)
    (sym c.exclude.ensures.value ∙ c.if-exclude.true))

pub returns : goal.returns
returns c =
    let rules = c.args.settings.now in
    let kids = nodes_of c.args.kids.now in
    let doctype : c.doctype.result ≡ rules.doctype = c.doctype.ensures in
    let held : c.content_of-held.result ≡ content_held rules.doctype c.args.name c.args.content =
    c.content_of-held.ensures.value ∙ ap (λ d. content_held d c.args.name c.args.content) doctype in
    c.in_ok-is_word.ensures ∙ ap₂ (λ d h. are_word d h kids) c.doctype-2.ensures held
    ∙ sym (word_here rules c.args.content c.args.round c.args.name kids (sym c.permits.ensures ∙ c.if-not-permits.false) (sym c.exclude.ensures.value ∙ c.if-exclude.false))
