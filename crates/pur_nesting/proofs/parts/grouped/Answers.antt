use Rattle.std.proofs.Common.{◌≡◌, [], refl, ap, sym, ◌∙◌, arith}
use Rattle.std.proofs.lemmas.List.{nil_from_length}
use Rattle.std.specs.Vec.Iter.{into_iter_items}
use Rattle.pur_tree.specs.Image.{nodes_of}
use Rattle.pur_tree.specs.Nodes.{nodes_append}
use Rattle.pur_tree.proofs.NodesLemmas.{nodes_append-none}
use Rattle.pur_nesting.specs.Parts.{part}
use Rattle.pur_nesting.specs.Private.Grouping.{stack}
use Rattle.pur_nesting.proofs.parts.grouped.Goals as goal

pub loop-node-init : goal.loop-node-init
loop-node-init c = λ wanted. rw (c.new-parts.ensures wanted, c.at_first-met.ensures, c.into_iter-node-iterator.ensures.into_iter_gives.0) refl

pub loop-node-preserved : goal.loop-node-preserved
loop-node-preserved c = λ wanted.
    let rest = nodes_of (into_iter_items c.next.new.self) in
    c.in_ok-push.ensures wanted (part wanted c.after-met.result rest)
    ∙ ap (nodes_append (stack wanted c.loop-node.parts)) (sym (c.after-met.ensures wanted rest))
    ∙ ap (λ xs. nodes_append (stack wanted c.loop-node.parts) (part wanted c.loop-node.met (nodes_of xs))) (sym c.in-Some.ensures.steps.0)
    ∙ c.loop-node.invariant wanted

pub returns : goal.returns
returns c = λ place.
    let none : into_iter_items c.loop-node.node-iterator ≡ [] =
    nil_from_length _ (omega (arith, c.in-None.ensures.steps.0, c.loop-node.node-iterator.rest.ok.0)) in
    sym (nodes_append-none (stack place c.loop-node.parts))
    ∙ ap (λ xs. nodes_append (stack place c.loop-node.parts) (part place c.loop-node.met (nodes_of xs))) (sym none)
    ∙ c.loop-node.invariant place
