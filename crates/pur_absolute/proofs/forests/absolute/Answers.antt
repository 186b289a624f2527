use Rattle.std.proofs.Common.{◌∙◌, ap, sym, subst}
use Rattle.std.proofs.lemmas.Result.{on_ok_weaker}
use Rattle.pur_tree.specs.Image.{nodes_of}
use Rattle.pur_tree.specs.Walks.{joined_nodes, walk}
use Rattle.pur_validity.specs.Validity.{IsValid}
use Rattle.pur_absolute.specs.Absolute.{absolute_element}
use Rattle.pur_absolute.proofs.LeftLemmas.{IsForest-left}
use Rattle.pur_absolute.proofs.forests.absolute.Goals as goal

pub put_nodes-requires-clause-forest : goal.put_nodes-requires-clause-forest
put_nodes-requires-clause-forest g c = IsForest-left c.in_ok-nodes.ensures.left c.take_nodes-nodes.ensures.forest

pub returns-clause-valid : goal.returns-clause-valid
returns-clause-valid g c =
    on_ok_weaker c.join_texts.result (λ joined rules rule allows answers fit_base valid.
    let base = c.args.base.now in
    let made = joined ∙ ap joined_nodes (c.put_nodes.ensures ∙ c.in_ok-nodes.ensures.nodes allows answers)
    ∙ ap (λ f. joined_nodes (walk (absolute_element allows base) f)) c.take_nodes-nodes.ensures.taken in
    subst (IsValid rules rule) (sym made) (c.valid_stays.ensures rules rule allows base (nodes_of c.args.forest.now) fit_base valid))
    c.join_texts.ensures.ok
