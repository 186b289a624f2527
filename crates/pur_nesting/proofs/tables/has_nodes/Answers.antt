use Rattle.std.proofs.Common.{not, ap, sym, ◌∙◌}
use Rattle.pur_nesting.proofs.NodeLemmas.{no_nodes-length}
use Rattle.pur_nesting.proofs.tables.has_nodes.Goals as goal

pub returns : goal.returns
returns c = ap not (c.is_empty.ensures ∙ sym (no_nodes-length c.args.nodes.now))
