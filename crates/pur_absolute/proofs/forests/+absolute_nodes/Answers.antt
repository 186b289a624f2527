use Rattle.std.proofs.Common.{◌≡◌, ◌∙◌, refl, ap, sym, subst, string_bytes}
use Rattle.std.specs.Str.{chars}
use Rattle.std.specs.Vec.Iter.{into_iter_items}
use Rattle.pur_tree.specs.Image.{nodes_of, node_before}
use Rattle.pur_tree.specs.Nodes.{no_nodes, plain_elem, elem_first, text_first, nodes_append}
use Rattle.pur_tree.specs.Walks.{walk}
use Rattle.pur_tree.proofs.NodeLemmas.{before_text, before_elem}
use Rattle.pur_tree.proofs.NodesLemmas.{nodes_append-none}
use Rattle.pur_tree.proofs.PushLemmas.{none_left as none_to_come}
use Rattle.pur_absolute.specs.Absolute.{absolute_element}
use Rattle.pur_absolute.specs.Private.Left.{IsLeft, none_left, text_left, elem_left, elem_gone}
use Rattle.pur_absolute.proofs.LeftLemmas.{element-stays, element-goes}
use Rattle.pur_absolute.proofs.forests.+absolute_nodes.Goals as goal

pub loop-node-preserved-in-Continue-branch-2 : goal.loop-node-preserved-in-Continue-branch-2
loop-node-preserved-in-Continue-branch-2 g t c =
    let done = nodes_of c.loop-node.out.items in
    let rest = nodes_of (into_iter_items c.next.new.self) in
    let left = nodes_of (into_iter_items c.loop-node.node-iterator) in
    let text = chars (string_bytes c.in-Text.text) in
    let split : text_first text rest ≡ left =
    sym (ap (λ n. node_before n rest) c.in-Text.is ∙ before_text c.in-Text.text rest) ∙ ap nodes_of (sym c.in-Some.ensures.steps.0) in
    record {
      nodes = λ allows answers.
          let made = absolute_element allows c.args.base.now in
          c.in_ok-push_text_node-in-Text.ensures (walk made rest)
          ∙ ap (λ f. nodes_append done (walk made f)) split ∙ c.loop-node.invariant.nodes allows answers;
      left = λ more is.
          subst (IsLeft (nodes_of c.args.nodes.items)) (sym (c.in_ok-push_text_node-in-Text.ensures more))
          (c.loop-node.invariant.left (text_first text more) (subst (λ f. IsLeft f (text_first text more)) split (text_left is)));
    }

pub loop-node-preserved-in-Continue-branch-6 : goal.loop-node-preserved-in-Continue-branch-6
loop-node-preserved-in-Continue-branch-6 g t c =
    let done = nodes_of c.loop-node.out.items in
    let rest = nodes_of (into_iter_items c.next.new.self) in
    let left = nodes_of (into_iter_items c.loop-node.node-iterator) in
    let elem = c.in-Elem.elem in
    let e = plain_elem elem.name elem.attrs in
    let kids = nodes_of elem.children.items in
    let attrs = c.in-Some-2.attrs in
    let below = nodes_of c.in_ok-children-in-Elem.children.items in
    let split : elem_first e kids rest ≡ left =
    sym (ap (λ n. node_before n rest) c.in-Elem.is ∙ before_elem elem.name elem.attrs elem.children rest) ∙ ap nodes_of (sym c.in-Some.ensures.steps.0) in
    record {
      nodes = λ allows answers.
          let made = absolute_element allows c.args.base.now in
          c.in_ok-push_elem-in-Elem.ensures (walk made rest)
          ∙ ap (λ k. nodes_append done (elem_first (plain_elem elem.name attrs) k (walk made rest))) (c.in_ok-children-in-Elem.ensures.nodes allows answers)
          ∙ ap (nodes_append done) (element-stays allows c.args.base.now e kids rest attrs (sym c.in-Some-2.is ∙ c.in_ok-attrs-in-Elem.ensures allows answers))
          ∙ ap (λ f. nodes_append done (walk made f)) split ∙ c.loop-node.invariant.nodes allows answers;
      left = λ more is.
          subst (IsLeft (nodes_of c.args.nodes.items)) (sym (c.in_ok-push_elem-in-Elem.ensures more))
          (c.loop-node.invariant.left (elem_first (plain_elem elem.name attrs) below more)
          (subst (λ f. IsLeft f (elem_first (plain_elem elem.name attrs) below more)) split (elem_left refl c.in_ok-children-in-Elem.ensures.left is)));
    }

pub loop-node-preserved : goal.loop-node-preserved
loop-node-preserved g t c =
    let done = nodes_of c.loop-node.out.items in
    let rest = nodes_of (into_iter_items c.next.new.self) in
    let left = nodes_of (into_iter_items c.loop-node.node-iterator) in
    let elem = c.in-Elem.elem in
    let e = plain_elem elem.name elem.attrs in
    let kids = nodes_of elem.children.items in
    let split : elem_first e kids rest ≡ left =
    sym (ap (λ n. node_before n rest) c.in-Elem.is ∙ before_elem elem.name elem.attrs elem.children rest) ∙ ap nodes_of (sym c.in-Some.ensures.steps.0) in
    record {
      nodes = λ allows answers.
          let made = absolute_element allows c.args.base.now in
          ap (nodes_append done) (element-goes allows c.args.base.now e kids rest (sym c.in_default.is ∙ c.in_ok-attrs-in-Elem.ensures allows answers))
          ∙ ap (λ f. nodes_append done (walk made f)) split ∙ c.loop-node.invariant.nodes allows answers;
      left = λ more is. c.loop-node.invariant.left more (subst (λ f. IsLeft f more) split (elem_gone is));
    }

pub returns-clause-nodes : goal.returns-clause-nodes
returns-clause-nodes g t c =
    let done = nodes_of c.loop-node.out.items in
    λ allows answers.
    let made = absolute_element allows c.args.base.now in
    ap nodes_of c.shrink_to_fit.ensures.items
    ∙ sym (nodes_append-none done)
    ∙ ap (λ xs. nodes_append done (walk made (nodes_of xs))) (sym (none_to_come c.loop-node.node-iterator c.in-None.ensures.steps.0))
    ∙ c.loop-node.invariant.nodes allows answers

pub returns-clause-left : goal.returns-clause-left
returns-clause-left g t c =
    let done = nodes_of c.loop-node.out.items in
    let none = none_to_come c.loop-node.node-iterator c.in-None.ensures.steps.0 in
    subst (IsLeft (nodes_of c.args.nodes.items)) (nodes_append-none done ∙ sym (ap nodes_of c.shrink_to_fit.ensures.items))
    (c.loop-node.invariant.left no_nodes (subst (λ xs. IsLeft (nodes_of xs) no_nodes) (sym none) none_left))
