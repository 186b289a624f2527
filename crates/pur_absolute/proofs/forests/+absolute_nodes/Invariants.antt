use Rattle.std.proofs.Common.{◌≡◌, Bool}
use Rattle.std.specs.Vec.Iter.{into_iter_items}
use Rattle.pur_tree.specs.Image.{nodes_of}
use Rattle.pur_tree.specs.Nodes.{Nodes, nodes_append}
use Rattle.pur_tree.specs.Walks.{walk}
use Rattle.pur_uri.specs.Uris.{PlainUri}
use Rattle.pur_absolute.specs.Absolute.{absolute_element}
use Rattle.pur_absolute.specs.Private.Left.{IsLeft}
use Rattle.pur_absolute.specs.Rules.{AnswersAs}
use Rattle.pur_absolute.proofs.forests.+absolute_nodes.Given as goal

-- what was put, and what becomes of the nodes that are left, is what becomes of all; and what is left of them is left of all
abbrev pub invariant-loop-node : goal.invariant-loop-node
invariant-loop-node g l = record {
  nodes : (allows : PlainUri → Bool) → AnswersAs (g.R.SiteRule.allows l.site) allows
      → nodes_append (nodes_of l.out.items) (walk (absolute_element allows l.base) (nodes_of (into_iter_items l.node-iterator)))
      ≡ walk (absolute_element allows l.base) (nodes_of l.fn.nodes.items);
  left : (rest : Nodes) → IsLeft (nodes_of (into_iter_items l.node-iterator)) rest → IsLeft (nodes_of l.fn.nodes.items) (nodes_append (nodes_of l.out.items) rest);
}
