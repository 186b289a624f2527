use Rattle.std.proofs.Common.{◌≡◌, false, true, refl}
use Rattle.pur_attrlist.specs.Texts.{text_of}
use Rattle.pur_attrlist.specs.Attributes.{has_name}
use Rattle.pur_attrlist.specs.Private.Storage.{stored_of}
use Rattle.pur_attrlist.specs.Private.Stored.{text_in}
use Rattle.pur_attrlist.proofs.AttributeLaws.{has_name-at, is_distinct-push}
use Rattle.pur_attrlist.proofs.attribute_list.AttrList.push_if_new.Goals as goal

pub push-requires-clause-absent : goal.push-requires-clause-absent
push-requires-clause-absent c =
    rw c.in_ok-name-in-None.ensures (rw c.as_str.ensures.value at c.in-None.ensures.absent)

pub invariant_of-self-in-None : goal.invariant_of-self-in-None
invariant_of-self-in-None c =
    let name = text_in c.in_ok-name-in-None.name in
    let absent : has_name (stored_of c.self.inside.pairs) name ≡ false =
    rw c.in_ok-name-in-None.ensures (rw c.as_str.ensures.value at c.in-None.ensures.absent) in
    rw c.in_ok-push-in-None.ensures.ok
    (is_distinct-push (stored_of c.self.inside.pairs) name (text_in c.in_ok-value-in-None.value) c.self.invariant absent)

pub returns-in-Some-clause-new : goal.returns-in-Some-clause-new
returns-in-Some-clause-new c =
    let there : has_name (stored_of c.self.inside.pairs) (text_of c.args.name) ≡ true =
    has_name-at (stored_of c.self.inside.pairs) (text_of c.args.name) c.in-Some.field-0 (rw c.as_str.ensures.value at c.in-Some.ensures.found.named) in
    rw (← c.self.view_is, there) refl

pub returns-in-Some-clause-ok : goal.returns-in-Some-clause-ok
returns-in-Some-clause-ok c =
    let there : has_name (stored_of c.self.inside.pairs) (text_of c.args.name) ≡ true =
    has_name-at (stored_of c.self.inside.pairs) (text_of c.args.name) c.in-Some.field-0 (rw c.as_str.ensures.value at c.in-Some.ensures.found.named) in
    rw (← c.self.view_is, there) refl
