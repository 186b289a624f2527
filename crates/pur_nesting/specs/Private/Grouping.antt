-- The parts of a table, and runs of rows, while its children are gone through.
use Rattle.std.specs.Prelude.{Bool, true, false, if◌then◌else◌}
use Rattle.pur_names.specs.declared.elements.Element.TheVariants.{Tbody}
use Rattle.pur_tree.specs.declared.node.Node.{Node}
use Rattle.pur_tree.specs.Image.{node_before, nodes_of}
use Rattle.pur_tree.specs.Nodes.{bare, Nodes, elem_first, nodes_append}
use Rattle.pur_nesting.specs.declared.bodies.Runs.{Runs}
use Rattle.pur_nesting.specs.declared.parts.Parts.{Parts}
use Rattle.pur_nesting.specs.declared.roles.Part.{Part}
use Rattle.pur_nesting.specs.declared.roles.Part.TheVariants.{Lead, Captions, Columns, Heads, Feet, Bodies, Surplus}
use Rattle.pur_nesting.specs.Parts.{same_part}
use Rattle.pur_nesting.specs.Tables.{run_of_rows, runs_in_bodies}

-- the nodes of a part
abbrev pub stack : Part → Parts → Nodes
stack Lead parts = nodes_of parts.lead.items
stack Captions parts = nodes_of parts.captions.items
stack Columns parts = nodes_of parts.columns.items
stack Heads parts = nodes_of parts.heads.items
stack Feet parts = nodes_of parts.feet.items
stack Bodies parts = nodes_of parts.bodies.items
stack Surplus parts = nodes_of parts.surplus.items

-- the parts of a table that stand between its lead and its bodies, before these
abbrev pub before_bodies : Nodes → Nodes → Nodes → Nodes → Nodes → Nodes
before_bodies captions columns heads feet bodies = nodes_append captions (nodes_append columns (nodes_append heads (nodes_append feet bodies)))

-- a node before others, if it belongs to the part that is wanted
abbrev pub before_if : Part → Part → Node → Nodes → Nodes
before_if wanted part node more = if same_part wanted part then node_before node more else more

-- the run of rows at hand, with what stands behind it
abbrev pub unfinished : Bool → Nodes → Nodes → Nodes
unfinished true run rest = elem_first (bare Tbody) (nodes_append run (run_of_rows rest)) (runs_in_bodies true rest)
unfinished false run rest = runs_in_bodies false rest

-- what the runs will be when these nodes are put behind them
abbrev pub pending : Runs → Nodes → Nodes
pending runs rest = nodes_append (nodes_of runs.done.items) (unfinished runs.in_run (nodes_of runs.run.items) rest)
