use Rattle.pur_text.proofs.HostLemmas.{side_empty}
use Rattle.pur_text.proofs.addresses.side_group_count.Goals as goal

pub returns-then-is_empty-clause-count : goal.returns-then-is_empty-clause-count
returns-then-is_empty-clause-count c = side_empty c.args.side.now c.if-is_empty.ensures
