use Rattle.std.proofs.Common.{◌≡◌, ◌∙◌, map}
use Rattle.std.specs.Str.{chars}
use Rattle.pur_attrlist.specs.Attributes.{names_of}
use Rattle.pur_attrlist.specs.Private.Places.{place_of}
use Rattle.pur_attrlist.specs.Private.Stored.{attribute_in}
use Rattle.pur_attrlist.proofs.StorageLaws.{IsPlaceOf-place_of, absent-place_of}
use Rattle.pur_attrlist.proofs.indexed_pairs.IndexedPairs.position.Goals as goal

pub returns-clause-found : goal.returns-clause-found
returns-clause-found c =
    let name = chars c.args.name.now in
    let pairs = map attribute_in c.self.inside.pairs.items in
    let searched : c.copied.result ≡ place_of (names_of pairs) name =
    c.copied.ensures ∙ c.get.ensures.value ∙ c.self.invariant.finds c.args.name.now c.utf8.name in
    rw (← c.self.view_is) (IsPlaceOf-place_of name pairs c.copied.result searched)

pub returns-clause-absent : goal.returns-clause-absent
returns-clause-absent c =
    let name = chars c.args.name.now in
    let pairs = map attribute_in c.self.inside.pairs.items in
    let searched : c.copied.result ≡ place_of (names_of pairs) name =
    c.copied.ensures ∙ c.get.ensures.value ∙ c.self.invariant.finds c.args.name.now c.utf8.name in
    rw (← c.self.view_is) (absent-place_of name pairs c.copied.result searched)
