use Rattle.std.proofs.Common.{sym, ◌∙◌}
use Rattle.pur_nesting.proofs.NodeLemmas.{no_nodes-length}
use Rattle.pur_nesting.proofs.pushing.are_none.Goals as goal

pub returns : goal.returns
returns c = c.is_empty.ensures ∙ sym (no_nodes-length c.args.nodes.now)
