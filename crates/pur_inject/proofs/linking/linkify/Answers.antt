-- What links are made in stays a forest.
use Rattle.std.proofs.Common.{◌≡◌, ◌∙◌, Bool, true, sym, ap, subst}
use Rattle.std.specs.Prelude.{if◌then◌else◌}
use Rattle.pur_tree.specs.Forests.{IsForest}
use Rattle.pur_tree.specs.Image.{nodes_of}
use Rattle.pur_inject.specs.Links.{linked, link_place_of, makes_links, may_be_linked, with_links}
use Rattle.pur_inject.proofs.LinkKeepLemmas.{keeps-with_links}
use Rattle.pur_inject.proofs.linking.linkify.Goals as goal

pub put_nodes-requires-clause-forest : goal.put_nodes-requires-clause-forest
put_nodes-requires-clause-forest g c =
    let rules = c.args.settings.now in
    let rule = c.args.gate.now in
    let taken = nodes_of c.take_nodes-nodes.result.items in
    let on : makes_links rules ≡ true = sym c.makes_links.ensures ∙ c.if-not-makes_links.false in
    let forest : IsForest (with_links rules rule taken) = (keeps-with_links rules rule taken).forest c.take_nodes-nodes.ensures.forest in
    subst IsForest (sym (c.in_ok-link_nodes.ensures ∙ ap (λ at. linked rules.doctype (may_be_linked rules rule) at taken) c.of.ensures))
    (subst (λ (b : Bool). IsForest (if b then linked rules.doctype (may_be_linked rules rule) (link_place_of rules) taken else taken)) on forest)
