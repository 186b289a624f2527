use Rattle.std.proofs.Common.{sym, ◌∙◌}
use Rattle.std.specs.Str.{chars}
use Rattle.pur_attrlist.specs.Private.Storage.{stored_of}
use Rattle.pur_attrlist.proofs.AttributeLaws.{has_name-at, remove-at, without-absent, is_distinct-without}
use Rattle.pur_attrlist.proofs.attribute_list.AttrList.remove.Goals as goal

pub invariant_of-self : goal.invariant_of-self
invariant_of-self c =
    let pairs = stored_of c.self.inside.pairs in
    let name = chars c.args.name.now in
    rw (c.take_out.ensures, remove-at pairs name c.in-Some.at c.self.invariant c.in-Some.ensures.found.named)
    (is_distinct-without pairs name c.self.invariant)

pub returns-in-Some-clause-had : goal.returns-in-Some-clause-had
returns-in-Some-clause-had c =
    rw (← c.self.view_is) (sym (has_name-at (stored_of c.self.inside.pairs) (chars c.args.name.now) c.in-Some.at c.in-Some.ensures.found.named))

pub returns-in-Some-clause-rest : goal.returns-in-Some-clause-rest
returns-in-Some-clause-rest c =
    rw (← c.self.view_is)
    (c.take_out.ensures ∙ remove-at (stored_of c.self.inside.pairs) (chars c.args.name.now) c.in-Some.at c.self.invariant c.in-Some.ensures.found.named)

pub returns-in-None-clause-rest : goal.returns-in-None-clause-rest
returns-in-None-clause-rest c =
    rw (← c.self.view_is) (sym (without-absent (stored_of c.self.inside.pairs) (chars c.args.name.now) c.in-None.ensures.absent))
