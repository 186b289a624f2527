-- Where nothing was seen, the nodes become what they become as a whole.
use Rattle.std.proofs.Common.{◌≡◌, ◌∙◌, subst, sym, ap}
use Rattle.pur_tree.specs.Forests.{IsForest}
use Rattle.pur_tree.specs.Image.{nodes_of}
use Rattle.pur_attrs.specs.Attributes.{with_valid_attributes}
use Rattle.pur_attrs.specs.Private.Along.{valid_behind}
use Rattle.pur_attrs.proofs.AlongLemmas.{unseen, whole}
use Rattle.pur_attrs.proofs.validating.validate.Goals as goal

pub put_nodes-requires-clause-forest : goal.put_nodes-requires-clause-forest
put_nodes-requires-clause-forest g c =
    let rules = c.args.settings.now in
    let rule = c.args.gate.now in
    let taken = nodes_of c.take_nodes-nodes.result.items in
    let is : nodes_of c.change_nodes.new.nodes.items ≡ with_valid_attributes rules rule taken =
    c.in_ok-change_nodes.ensures.nodes ∙ ap (λ seen. valid_behind rules rule seen taken) (unseen c.new-seen.result c.new-seen.ensures.empty) ∙ whole rules rule taken in
    subst IsForest (sym is) ((c.keeps_forests.ensures rules rule taken).forest c.take_nodes-nodes.ensures.forest)

pub returns-clause-ok : goal.returns-clause-ok
returns-clause-ok g c =
    let rules = c.args.settings.now in
    let rule = c.args.gate.now in
    let taken = nodes_of c.take_nodes-nodes.result.items in
    c.put_nodes.ensures ∙ c.in_ok-change_nodes.ensures.nodes
    ∙ ap (λ seen. valid_behind rules rule seen taken) (unseen c.new-seen.result c.new-seen.ensures.empty) ∙ whole rules rule taken
    ∙ ap (with_valid_attributes rules rule) c.take_nodes-nodes.ensures.taken
