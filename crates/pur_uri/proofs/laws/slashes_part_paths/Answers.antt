use Rattle.pur_uri.proofs.SlashLemmas.{parted, joined}
use Rattle.pur_uri.proofs.laws.slashes_part_paths.Goals as goal

pub returns-clause-split : goal.returns-clause-split
returns-clause-split c = parted

pub returns-clause-join : goal.returns-clause-join
returns-clause-join c = joined
