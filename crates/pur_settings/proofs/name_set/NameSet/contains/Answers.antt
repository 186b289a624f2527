use Rattle.std.proofs.Common.{sym}
use Rattle.pur_settings.proofs.SetLemmas.{held-test}
use Rattle.pur_settings.proofs.name_set.NameSet.contains.Goals as goal

pub returns : goal.returns
returns g c =
    rw (← c.self.view_is, c.place.ensures.number)
    (sym (held-test g.S.Sort.rank g.S.Sort.all c.self.inside.holds c.args.one c.place.ensures.member))
