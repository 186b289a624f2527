use Rattle.std.proofs.Common.{◌≡◌, true, sym}
use Rattle.pur_tree.specs.Image.{nodes_of}
use Rattle.pur_tree.specs.Nodes.{is_joined}
use Rattle.pur_tree.proofs.WalkLemmas.{joined_nodes-same}
use Rattle.pur_tree.proofs.HoldsLemmas.{IsForest-joined_nodes}
use Rattle.pur_tree.proofs.forest.Forest.join_texts.Goals as goal

pub returns-then-are_joined-clause-ok : goal.returns-then-are_joined-clause-ok
returns-then-are_joined-clause-ok c =
    let settled : is_joined (nodes_of c.args.self.now) ≡ true = rw (← c.self.view_is, ← c.deref.ensures.value) (sym c.if-are_joined.ensures) in
    sym (joined_nodes-same (nodes_of c.args.self.now) settled)

pub invariant_of-self-2 : goal.invariant_of-self-2
invariant_of-self-2 c =
    rw (c.in_ok-self-inside.ensures, c.replace-nodes.ensures.value) (IsForest-joined_nodes (nodes_of c.self.inside.nodes.items) c.self.invariant)
