use Rattle.std.proofs.Common.{◌≡◌, List, ℕ, refl, sym, ap, ◌∙◌, rules, string_bytes, codes}
use Rattle.std.specs.Str.{chars}
use Rattle.pur_laws.proofs.Texts.{chars_ascii}
use Rattle.pur_names.specs.declared.elements.Element.TheVariants.{A}
use Rattle.pur_attrlist.specs.Attributes.{with_value}
use Rattle.pur_tree.specs.Image.{nodes_of}
use Rattle.pur_tree.specs.Nodes.{no_nodes, nodes_append, text_first, plain_elem}
use Rattle.pur_tree.proofs.NodesLemmas.{nodes_append-none}
use Rattle.pur_inject.proofs.linking.link.Goals as goal

pub returns-clause-itself : goal.returns-clause-itself
returns-clause-itself c =
    let address = chars c.args.address.now in
    let put = rw (chars_ascii (codes "href") refl) at c.in_ok-set.ensures.ok in
    ap (plain_elem A) (put ∙ ap (λ attrs. with_value attrs (codes "href") address) c.new-attrs.ensures)

pub returns-clause-children : goal.returns-clause-children
returns-clause-children c =
    let text : string_bytes c.in_ok-text.text ≡ c.args.address.now = search rules in
    sym (nodes_append-none (nodes_of c.push_text_node.new.out.items))
    ∙ c.in_ok-push_text_node.ensures no_nodes
    ∙ ap (λ items. nodes_append (nodes_of items) (text_first (chars (string_bytes c.in_ok-text.text)) no_nodes)) c.in_ok-children.ensures.items
    ∙ ap (λ (b : List ℕ). text_first (chars b) no_nodes) text
