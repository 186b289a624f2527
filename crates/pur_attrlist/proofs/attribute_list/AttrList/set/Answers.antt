use Rattle.std.proofs.Common.{◌≡◌, false, sym, ◌∙◌}
use Rattle.std.specs.Str.{chars}
use Rattle.pur_attrlist.specs.Attributes.{has_name}
use Rattle.pur_attrlist.specs.Private.Storage.{stored_of}
use Rattle.pur_attrlist.specs.Private.Stored.{text_in}
use Rattle.pur_attrlist.proofs.AttributeLaws.{with_value_at-is, with_value-absent, is_distinct-with_value_at, is_distinct-push}
use Rattle.pur_attrlist.proofs.attribute_list.AttrList.set.Goals as goal

pub invariant_of-self : goal.invariant_of-self
invariant_of-self c =
    rw c.replace.ensures
    (is_distinct-with_value_at (stored_of c.self.inside.pairs) c.in-Some.at (text_in c.in_ok-value.value) c.self.invariant)

pub invariant_of-self-in-None : goal.invariant_of-self-in-None
invariant_of-self-in-None c =
    let name = c.in_ok-name-in-None.name in
    let absent : has_name (stored_of c.self.inside.pairs) (text_in name) ≡ false =
    rw c.in_ok-name-in-None.ensures c.in-None.ensures.absent in
    rw c.in_ok-push-in-None.ensures.ok
    (is_distinct-push (stored_of c.self.inside.pairs) (text_in name) (text_in c.in_ok-value.value) c.self.invariant absent)

pub returns-in-Some-clause-ok : goal.returns-in-Some-clause-ok
returns-in-Some-clause-ok c =
    rw (← c.self.view_is, ← c.in_ok-value.ensures)
    (c.replace.ensures
    ∙ with_value_at-is (stored_of c.self.inside.pairs) (chars c.args.name.now) c.in-Some.at (text_in c.in_ok-value.value) c.self.invariant
    c.in-Some.ensures.found.named)

pub returns-in_ok-push-in-None-clause-ok : goal.returns-in_ok-push-in-None-clause-ok
returns-in_ok-push-in-None-clause-ok c =
    let name = c.in_ok-name-in-None.name in
    let absent : has_name (stored_of c.self.inside.pairs) (text_in name) ≡ false =
    rw c.in_ok-name-in-None.ensures c.in-None.ensures.absent in
    rw (← c.self.view_is, ← c.in_ok-value.ensures, ← c.in_ok-name-in-None.ensures)
    (c.in_ok-push-in-None.ensures.ok
    ∙ sym (with_value-absent (stored_of c.self.inside.pairs) (text_in name) (text_in c.in_ok-value.value) absent))
