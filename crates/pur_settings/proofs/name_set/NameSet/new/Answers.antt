use Rattle.pur_settings.proofs.SetLemmas.{held-none}
use Rattle.pur_settings.proofs.name_set.NameSet.new.Goals as goal

pub returns : goal.returns
returns g c = held-none g.S.Sort.rank g.S.Sort.all g.row.N
