use Rattle.std.proofs.Common.{◌≡◌}
use Rattle.std.specs.Vec.Iter.{into_iter_items}
use Rattle.pur_tree.specs.Nodes.{nodes_append}
use Rattle.pur_tree.specs.Image.{nodes_of}
use Rattle.pur_nesting.specs.declared.roles.Part.{Part}
use Rattle.pur_nesting.specs.Parts.{part, at_first}
use Rattle.pur_nesting.specs.Private.Grouping.{stack}
use Rattle.pur_nesting.proofs.parts.grouped.Given as goal

-- what stood, then the grouping of the rest, is the grouping of the whole
abbrev pub invariant-loop-node : goal.invariant-loop-node
invariant-loop-node l = (wanted : Part)
    → nodes_append (stack wanted l.parts) (part wanted l.met (nodes_of (into_iter_items l.node-iterator))) ≡ part wanted at_first (nodes_of l.fn.children.items)
