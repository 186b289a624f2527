use Rattle.std.proofs.Common.{◌<◌, length}
use Rattle.pur_settings.proofs.SetLemmas.{held-with}
use Rattle.pur_settings.proofs.name_set.NameSet.insert.Goals as goal

pub returns : goal.returns
returns g c =
    let within : g.S.Sort.rank c.args.one < length c.self.inside.holds = rw (← c.place.ensures.number, c.self.told, ← c.self.invariant) c.place.ensures.within in
    rw (← c.self.view_is, c.place.ensures.number)
    (held-with g.S.Sort.rank g.S.Sort.all c.self.inside.holds c.args.one within)
