-- What paragraphs are made in stays a forest.
use Rattle.std.proofs.Common.{◌≡◌, ◌∙◌, Bool, true, sym, ap, subst}
use Rattle.std.specs.Prelude.{if◌then◌else◌}
use Rattle.pur_tree.specs.Forests.{IsForest}
use Rattle.pur_tree.specs.Image.{nodes_of}
use Rattle.pur_inject.specs.Paragraphs.{in_paragraphs, makes_paragraphs, with_paragraphs}
use Rattle.pur_inject.proofs.ParagraphKeepLemmas.{keeps-with_paragraphs}
use Rattle.pur_inject.proofs.paragraphs.auto_paragraph.Goals as goal

pub put_nodes-requires-clause-forest : goal.put_nodes-requires-clause-forest
put_nodes-requires-clause-forest c =
    let rules = c.args.settings.now in
    let taken = nodes_of c.take_nodes.result.items in
    let on : makes_paragraphs rules ≡ true = sym c.makes_paragraphs.ensures ∙ c.if-not-makes_paragraphs.false in
    let forest : IsForest (with_paragraphs rules taken) = (keeps-with_paragraphs rules taken).forest c.take_nodes.ensures.forest in
    subst IsForest (sym (c.in_ok-nodes.ensures ∙ ap (λ d. in_paragraphs d taken) c.doctype.ensures))
    (subst (λ (b : Bool). IsForest (if b then in_paragraphs rules.doctype taken else taken)) on forest)

pub returns-clause-ok : goal.returns-clause-ok
returns-clause-ok c =
    let rules = c.args.settings.now in
    let old = nodes_of c.args.forest.now in
    let on : makes_paragraphs rules ≡ true = sym c.makes_paragraphs.ensures ∙ c.if-not-makes_paragraphs.false in
    c.put_nodes.ensures ∙ c.in_ok-nodes.ensures ∙ ap (λ d. in_paragraphs d (nodes_of c.take_nodes.result.items)) c.doctype.ensures
    ∙ ap (in_paragraphs rules.doctype) c.take_nodes.ensures.taken
    ∙ ap (λ (b : Bool). if b then in_paragraphs rules.doctype old else old) (sym on)
