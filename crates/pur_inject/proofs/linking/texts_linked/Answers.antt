use Rattle.std.proofs.Common.{ap, sym, ◌∙◌}
use Rattle.pur_tree.specs.Image.{nodes_of, node_before}
use Rattle.pur_tree.specs.Nodes.{elem_first, no_nodes, nodes_append, plain_elem}
use Rattle.pur_tree.proofs.NodeLemmas.{before_text, before_elem}
use Rattle.pur_inject.specs.Links.{may_be_linked}
use Rattle.pur_inject.specs.Private.Linking.{texts_linked}
use Rattle.pur_inject.specs.Private.Remaining.{remaining}
use Rattle.pur_inject.proofs.GrowingLemmas.{grown-ended}
use Rattle.pur_inject.proofs.linking.texts_linked.Goals as goal

pub taking-preserved-in-Continue-branch-2 : goal.taking-preserved-in-Continue-branch-2
taking-preserved-in-Continue-branch-2 g c =
    let made = texts_linked (may_be_linked c.args.settings.now c.args.gate.now) in
    let done = nodes_of c.taking.out.nodes.items in
    let rest = remaining c.take_first.new.self in
    record {
      over = c.in_ok-put_text_node-in-Text.ensures.over;
      whole =
          c.in_ok-put_text_node-in-Text.ensures.nodes (made rest)
          ∙ ap (λ f. nodes_append done (made f)) (sym (ap (λ n. node_before n rest) c.in-Text.is ∙ before_text c.in-Text.text rest))
          ∙ ap (λ f. nodes_append done (made f)) (sym c.in-Some.ensures.some)
          ∙ c.taking.invariant.whole;
    }

pub taking-preserved : goal.taking-preserved
taking-preserved g c =
    let made = texts_linked (may_be_linked c.args.settings.now c.args.gate.now) in
    let out = c.taking.out in
    let done = nodes_of out.nodes.items in
    let rest = remaining c.take_first.new.self in
    let elem = c.in-Elem.elem in
    let over = c.in_ok-put_elem-in-Elem.ensures.over in
    record {
      over = over;
      whole =
          sym (grown-ended c.put_elem.new.self (made rest) over)
          ∙ c.in_ok-put_elem-in-Elem.ensures.same (made rest)
          ∙ grown-ended out (elem_first (plain_elem elem.name elem.attrs) (nodes_of elem.children.items) (made rest)) c.taking.invariant.over
          ∙ ap (λ f. nodes_append done (made f)) (sym (ap (λ n. node_before n rest) c.in-Elem.is ∙ before_elem elem.name elem.attrs elem.children rest))
          ∙ ap (λ f. nodes_append done (made f)) (sym c.in-Some.ensures.some)
          ∙ c.taking.invariant.whole;
    }

pub returns : goal.returns
returns g c =
    let made = texts_linked (may_be_linked c.args.settings.now c.args.gate.now) in
    let out = c.taking.out in
    c.in_ok-nodes.ensures
    ∙ grown-ended out no_nodes c.taking.invariant.over
    ∙ ap (λ f. nodes_append (nodes_of out.nodes.items) (made f)) (sym c.in_default.ensures.none)
    ∙ c.taking.invariant.whole
