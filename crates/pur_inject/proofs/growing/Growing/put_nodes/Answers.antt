use Rattle.std.proofs.Common.{ap, sym, ◌∙◌, string_bytes}
use Rattle.std.specs.Str.{chars}
use Rattle.std.specs.Vec.Iter.{into_iter_items}
use Rattle.pur_tree.specs.Image.{nodes_of, node_before}
use Rattle.pur_tree.proofs.NodeLemmas.{before_text, before_elem}
use Rattle.pur_tree.proofs.PushLemmas.{none_left}
use Rattle.pur_inject.specs.Private.Growing.{grown}
use Rattle.pur_inject.specs.Signs.{letters, signs_of, signs_before}
use Rattle.pur_inject.proofs.SignLemmas.{before-append}
use Rattle.pur_inject.proofs.growing.Growing.put_nodes.Goals as goal

pub loop-node-preserved-in-Text : goal.loop-node-preserved-in-Text
loop-node-preserved-in-Text c = λ more.
    let rest = nodes_of (into_iter_items c.next.new.self) in
    let text = chars (string_bytes c.in-Text.text) in
    c.in_ok-put_text-in-Text.ensures (signs_before (signs_of rest) more)
    ∙ ap (λ t. grown c.loop-node.self (signs_before (letters (chars t)) (signs_before (signs_of rest) more))) c.as_str.ensures.value
    ∙ ap (grown c.loop-node.self) (sym (before-append (letters text) (signs_of rest) more))
    ∙ ap (λ f. grown c.loop-node.self (signs_before (signs_of f) more)) (sym (ap (λ n. node_before n rest) c.in-Text.is ∙ before_text c.in-Text.text rest))
    ∙ ap (λ xs. grown c.loop-node.self (signs_before (signs_of (nodes_of xs)) more)) (sym c.in-Some.ensures.steps.0)
    ∙ c.loop-node.invariant more

pub loop-node-preserved : goal.loop-node-preserved
loop-node-preserved c = λ more.
    let rest = nodes_of (into_iter_items c.next.new.self) in
    let elem = c.in-Elem.elem in
    c.in_ok-put_elem-in-Elem.ensures.same (signs_before (signs_of rest) more)
    ∙ ap (λ f. grown c.loop-node.self (signs_before (signs_of f) more)) (sym (ap (λ n. node_before n rest) c.in-Elem.is ∙ before_elem elem.name elem.attrs elem.children rest))
    ∙ ap (λ xs. grown c.loop-node.self (signs_before (signs_of (nodes_of xs)) more)) (sym c.in-Some.ensures.steps.0)
    ∙ c.loop-node.invariant more

pub returns : goal.returns
returns c = λ more.
    ap (λ xs. grown c.loop-node.self (signs_before (signs_of (nodes_of xs)) more)) (sym (none_left c.loop-node.node-iterator c.in-None.ensures.steps.0))
    ∙ c.loop-node.invariant more
