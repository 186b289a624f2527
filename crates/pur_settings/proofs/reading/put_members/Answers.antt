use Rattle.pur_settings.proofs.WalkLemmas.{ascends-entries}
use Rattle.pur_settings.proofs.reading.put_members.Goals as goal

pub returns-in_err-read_member-clause-ordered : goal.returns-in_err-read_member-clause-ordered
returns-in_err-read_member-clause-ordered c = ascends-entries c.args.table.now.entries c.iter-name-items.ensures.ordered

pub returns-clause-ordered : goal.returns-clause-ordered
returns-clause-ordered c = ascends-entries c.args.table.now.entries c.iter-name-items.ensures.ordered
