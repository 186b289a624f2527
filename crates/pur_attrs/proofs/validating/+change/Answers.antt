-- Each node becomes what it becomes behind those before it.
use Rattle.std.proofs.Common.{◌≡◌, ◌≢◌, ◌<◌, ◌+◌, [], ◌∷◌, length, take, drop, get_or, set, length-set, get_or-set_other, refl, ap, sym, ◌∙◌, arith}
use Rattle.std.proofs.Math.ListN.{drop_of_length-le}
use Rattle.std.proofs.lemmas.List.{take_all, take_more_set, drop_more}
use Rattle.std.proofs.lemmas.Bool.{and_from}
use Rattle.std.proofs.lemmas.Result.{on_ok_weaker}
use Rattle.pur_tree.specs.declared.node.Node.TheVariants.{outs-Elem}
use Rattle.pur_tree.specs.Image.{nodes_of, node_before}
use Rattle.pur_tree.specs.Nodes.{no_nodes, plain_elem, elem_first, nodes_append}
use Rattle.pur_tree.specs.Spelling.{has_distinct_names}
use Rattle.pur_tree.proofs.NodeLemmas.{before_text, before_elem, before_append_one, nodes_of_append}
use Rattle.pur_tree.proofs.NodesLemmas.{nodes_append-none, nodes_append-assoc}
use Rattle.pur_attrs.specs.Steps.{kept_attributes}
use Rattle.pur_attrs.specs.Private.Along.{Seen, seen_in, seen_behind, prefixed_ids, ids_put, valid_behind}
use Rattle.pur_attrs.proofs.AlongLemmas.{valid-changed, seen-changed}
use Rattle.pur_attrs.proofs.WalkLemmas.{distinct-append, on_ok_three}
use Rattle.pur_attrs.proofs.validating.+change.Goals as goal

pub change_elem-returns-clause-seen : goal.change_elem-returns-clause-seen
change_elem-returns-clause-seen g t c =
    let rules = c.args.settings.now in
    let rule = c.args.gate.now in
    let elem = c.args.elem.now in
    let kids = nodes_of elem.children.items in
    let inside : Seen = seen_behind (seen_in c.args.seen.now) (prefixed_ids rules.id_prefix (kept_attributes rules rule elem.name elem.attrs)) in
    let one : seen_in c.valid_attributes.new.seen ≡ inside =
    (λ i id. c.in_ok-elem.ensures.seen id i)
    ∙ ap (λ attrs. seen_behind (seen_in c.args.seen.now) (prefixed_ids rules.id_prefix (kept_attributes rules rule elem.name attrs))) c.replace-attrs.ensures.value in
    on_ok_weaker c.change_nodes.result (λ told id. told id ∙ ap (λ (s : Seen). seen_behind s (ids_put rules rule kids) id) one) c.change_nodes.ensures.seen

pub change_node-returns-in-Text-clause-node : goal.change_node-returns-in-Text-clause-node
change_node-returns-in-Text-clause-node g t c =
    let rules = c.args.settings.now in
    let rule = c.args.gate.now in
    let seen = seen_in c.args.seen.now in
    let text = c.in-Text.field-0 in
    λ rest.
    ap (λ n. node_before n (valid_behind rules rule seen rest)) c.in-Text.is
    ∙ before_text text (valid_behind rules rule seen rest)
    ∙ ap (valid_behind rules rule seen) (sym (ap (λ n. node_before n rest) c.in-Text.is ∙ before_text text rest))

pub change_node-returns-in-Text-clause-seen : goal.change_node-returns-in-Text-clause-seen
change_node-returns-in-Text-clause-seen g t c =
    let rules = c.args.settings.now in
    let rule = c.args.gate.now in
    let seen = seen_in c.args.seen.now in
    λ rest id. ap (λ f. seen_behind seen (ids_put rules rule f) id) (sym (ap (λ n. node_before n rest) c.in-Text.is ∙ before_text c.in-Text.field-0 rest))

pub change_node-returns-in-Text-clause-distinct : goal.change_node-returns-in-Text-clause-distinct
change_node-returns-in-Text-clause-distinct g t c =
    λ rest apart. ap has_distinct_names (ap (λ n. node_before n rest) c.in-Text.is ∙ before_text c.in-Text.field-0 rest) ∙ apart

pub change_node-returns-in-Elem-clause-node : goal.change_node-returns-in-Elem-clause-node
change_node-returns-in-Elem-clause-node g t c =
    let rules = c.args.settings.now in
    let rule = c.args.gate.now in
    let seen = seen_in c.args.seen.now in
    let elem = c.in-Elem.elem in
    let e = plain_elem elem.name elem.attrs in
    let kids = nodes_of elem.children.items in
    let made = c.change_elem.new.elem in
    let below = nodes_of made.children.items in
    let after = seen_in c.change_elem.new.seen in
    let named : made.name ≡ elem.name = rw c.in-Elem.elem-is at c.change_elem.ensures.name in
    let attrs = rw c.in-Elem.elem-is at c.change_elem.ensures.attrs in
    let children = rw c.in-Elem.elem-is at c.change_elem.ensures.children in
    let told = rw c.in-Elem.elem-is at c.change_elem.ensures.seen in
    rw (c.in-Elem.is, outs-Elem c.in-Elem.elem)
    (on_ok_three c.change_elem.result
    (λ own inside last rest.
    before_elem made.name made.attrs made.children (valid_behind rules rule after rest)
    ∙ ap (λ name. elem_first (plain_elem name made.attrs) below (valid_behind rules rule after rest)) named
    ∙ valid-changed rules rule seen e kids rest made.attrs below after last own inside
    ∙ ap (valid_behind rules rule seen) (sym (before_elem elem.name elem.attrs elem.children rest)))
    attrs children told)

pub change_node-returns-in-Elem-clause-seen : goal.change_node-returns-in-Elem-clause-seen
change_node-returns-in-Elem-clause-seen g t c =
    let rules = c.args.settings.now in
    let rule = c.args.gate.now in
    let seen = seen_in c.args.seen.now in
    let elem = c.in-Elem.elem in
    let made = c.change_elem.new.elem in
    let told = rw c.in-Elem.elem-is at c.change_elem.ensures.seen in
    on_ok_weaker c.change_elem.result
    (λ last rest id.
    seen-changed rules rule seen (plain_elem elem.name elem.attrs) (nodes_of elem.children.items) rest made.attrs (nodes_of made.children.items) (seen_in c.change_elem.new.seen) last id
    ∙ ap (λ f. seen_behind seen (ids_put rules rule f) id) (sym (ap (λ n. node_before n rest) c.in-Elem.is ∙ before_elem elem.name elem.attrs elem.children rest)))
    told

pub change_node-returns-in-Elem-clause-distinct : goal.change_node-returns-in-Elem-clause-distinct
change_node-returns-in-Elem-clause-distinct g t c =
    let made = c.change_elem.new.elem in
    rw (c.in-Elem.is, outs-Elem c.in-Elem.elem)
    (on_ok_weaker c.change_elem.result
    (λ apart rest behind. ap has_distinct_names (before_elem made.name made.attrs made.children rest) ∙ and_from _ _ apart.0 (and_from _ _ apart.1 behind))
    c.change_elem.ensures.distinct)

pub change_nodes-loop-at-preserved : goal.change_nodes-loop-at-preserved
change_nodes-loop-at-preserved g t c =
    let rules = c.args.settings.now in
    let rule = c.args.gate.now in
    let xs = c.loop-at.nodes.items in
    let ys = c.args.nodes.now.items in
    let at = c.loop-at.at in
    let node = c.index_mut.result.now in
    let made = c.change_node.new.node in
    let seen = seen_in c.loop-at.seen in
    let done = nodes_of (take at xs) in
    let rest = nodes_of (drop (at + 1) ys) in
    let after = valid_behind rules rule (seen_in c.change_node.new.seen) rest in
    let kept = c.loop-at.invariant.unvisited.0 in
    let within : at < length xs = omega arith in
    let within_old : at < length ys = omega arith in
    let same : node ≡ get_or ys at node = c.index_mut.ensures.value ∙ c.loop-at.invariant.unvisited.1 at node (omega arith) in
    let front : node ∷ drop (at + 1) ys ≡ drop at ys = ap (λ n. n ∷ drop (at + 1) ys) same ∙ sym (drop_more ys at node within_old) in
    let joined : nodes_of (take (at + 1) (set xs at made)) ≡ nodes_append done (nodes_of (made ∷ [])) =
    ap nodes_of (take_more_set xs at made within) ∙ nodes_of_append (take at xs) (made ∷ []) in
    record {
      unvisited = (
        length-set xs at made ∙ kept,
        λ k d behind.
            let other : k ≢ at = omega arith in
            get_or-set_other xs at k made d other ∙ c.loop-at.invariant.unvisited.1 k d (omega arith),
      );
      nodes =
          ap (λ f. nodes_append f after) joined
          ∙ nodes_append-assoc done (nodes_of (made ∷ [])) after
          ∙ ap (nodes_append done) (before_append_one made after ∙ c.in_ok-change_node.ensures.node rest)
          ∙ ap (λ l. nodes_append done (valid_behind rules rule seen (nodes_of l))) front
          ∙ c.loop-at.invariant.nodes;
      seen = λ id.
          c.in_ok-change_node.ensures.seen rest id
          ∙ ap (λ l. seen_behind seen (ids_put rules rule (nodes_of l)) id) front
          ∙ c.loop-at.invariant.seen id;
      distinct =
          ap has_distinct_names joined
          ∙ distinct-append done (nodes_of (made ∷ [])) c.loop-at.invariant.distinct (c.in_ok-change_node.ensures.distinct no_nodes refl);
    }

pub change_nodes-returns-clause-nodes : goal.change_nodes-returns-clause-nodes
change_nodes-returns-clause-nodes g t c =
    let xs = c.loop-at.nodes.items in
    let ys = c.args.nodes.now.items in
    let kept = c.loop-at.invariant.unvisited.0 in
    let all : take c.loop-at.at xs ≡ xs = take_all c.loop-at.at xs (omega arith) in
    let none : drop c.loop-at.at ys ≡ [] = drop_of_length-le ys (omega arith) in
    sym (nodes_append-none (nodes_of xs))
    ∙ ap (λ l. nodes_append (nodes_of l) no_nodes) (sym all)
    ∙ ap (λ l. nodes_append (nodes_of (take c.loop-at.at xs)) (valid_behind c.args.settings.now c.args.gate.now (seen_in c.loop-at.seen) (nodes_of l))) (sym none)
    ∙ c.loop-at.invariant.nodes
