use Rattle.std.proofs.Common.{◌≡◌, drop}
use Rattle.std.specs.Prelude.{nat_le}
use Rattle.pur_tree.specs.Image.{nodes_of}
use Rattle.pur_tree.specs.Nodes.{level_in}
use Rattle.pur_tree.specs.Places.{level_limit}
use Rattle.pur_inject.proofs.LevelLemmas.{place_at}
use Rattle.pur_inject.proofs.paragraphs.+levels_fit.Given as goal

abbrev pub invariant-levels_fit-loop-node : goal.invariant-levels_fit-loop-node
invariant-levels_fit-loop-node l =
    nat_le (level_in (place_at l.level l.in_table) (nodes_of (drop l.node-index l.nodes))) level_limit ≡ nat_le (level_in (place_at l.level l.in_table) (nodes_of l.nodes)) level_limit
