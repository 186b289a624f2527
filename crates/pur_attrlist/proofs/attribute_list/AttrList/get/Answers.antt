use Rattle.std.proofs.Common.{sym, ◌∙◌}
use Rattle.std.specs.Str.{chars}
use Rattle.pur_attrlist.specs.Private.Storage.{stored_of}
use Rattle.pur_attrlist.proofs.AttributeLaws.{value_of-at, value_of-absent}
use Rattle.pur_attrlist.proofs.attribute_list.AttrList.get.Goals as goal

pub returns-in-Some : goal.returns-in-Some
returns-in-Some c =
    rw (← c.self.view_is)
    (sym c.value_at.ensures
    ∙ value_of-at (stored_of c.self.inside.pairs) (chars c.args.name.now) c.in-Some.at c.self.invariant c.in-Some.ensures.found.named)

pub returns-in-None : goal.returns-in-None
returns-in-None c =
    rw (← c.self.view_is) (sym (value_of-absent (stored_of c.self.inside.pairs) (chars c.args.name.now) c.in-None.ensures.absent))
