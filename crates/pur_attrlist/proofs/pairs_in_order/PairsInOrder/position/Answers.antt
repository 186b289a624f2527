use Rattle.std.proofs.Common.{◌≡◌, ◌∙◌, map}
use Rattle.std.specs.Str.{chars}
use Rattle.pur_attrlist.specs.Attributes.{names_of}
use Rattle.pur_attrlist.specs.Private.Places.{place_of}
use Rattle.pur_attrlist.specs.Private.Stored.{attribute_in}
use Rattle.pur_attrlist.proofs.StorageLaws.{position-place_of, IsPlaceOf-place_of, absent-place_of}
use Rattle.pur_attrlist.proofs.pairs_in_order.PairsInOrder.position.Goals as goal

pub returns-in-Plain-clause-found : goal.returns-in-Plain-clause-found
returns-in-Plain-clause-found c =
    let name = chars c.args.name.now in
    let searched : c.position_among.result ≡ place_of (names_of (map attribute_in c.in-Plain.plain.items)) name =
    rw (← c.as_slice.ensures) (c.position_among.ensures ∙ position-place_of name c.as_slice.result.now) in
    rw c.in-Plain.is (IsPlaceOf-place_of name (map attribute_in c.in-Plain.plain.items) c.position_among.result searched)

pub returns-in-Plain-clause-absent : goal.returns-in-Plain-clause-absent
returns-in-Plain-clause-absent c =
    let name = chars c.args.name.now in
    let searched : c.position_among.result ≡ place_of (names_of (map attribute_in c.in-Plain.plain.items)) name =
    rw (← c.as_slice.ensures) (c.position_among.ensures ∙ position-place_of name c.as_slice.result.now) in
    rw c.in-Plain.is (absent-place_of name (map attribute_in c.in-Plain.plain.items) c.position_among.result searched)
