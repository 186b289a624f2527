use Rattle.std.proofs.Common.{◌≡◌, ◌<◌, ◌∙◌, true, map, length, slice_get, None, Some, ap, sym}
use Rattle.std.proofs.lemmas.Map.Text.{btree_map_updates_text}
use Rattle.pur_attrlist.specs.Attributes.{is_distinct, names_of}
use Rattle.pur_attrlist.specs.Private.Stored.{text_in, attribute_in}
use Rattle.pur_attrlist.specs.declared.stored_pair.StoredPair.{StoredPair}
use Rattle.pur_attrlist.proofs.StorageLaws.{map-remove, pairs-told}
use Rattle.pur_attrlist.proofs.IndexLaws.{IsIndexOf-take_out}
use Rattle.pur_attrlist.proofs.indexed_pairs.IndexedPairs.take_out.Goals as goal

pub invariant_of-self : goal.invariant_of-self
invariant_of-self c =
    let pairs = c.self.inside.pairs.items in
    let pair = c.remove-pair.result in
    let distinct : is_distinct (map attribute_in pairs) ≡ true = rw (← c.self.view_is) at c.requires.distinct in
    let within : c.args.at < length (map attribute_in pairs) = rw (← c.self.view_is) at c.requires.within in
    let named : slice_get (names_of (map attribute_in pairs)) c.args.at ≡ Some (text_in pair.name) =
    (pairs-told pairs c.args.at pair within).0 ∙ ap (λ (pair : StoredPair). Some (text_in pair.name)) (sym c.remove-pair.ensures.value) in
    rw (c.remove-pair.ensures.items, map-remove attribute_in pairs c.args.at)
    (IsIndexOf-take_out c.self.inside.places c.remove.new.self c.move_down.new.places (map attribute_in pairs) c.args.at (text_in pair.name) c.as_str.result.now
    c.self.invariant c.as_str.utf8
    (λ text. btree_map_updates_text c.as_str.result.now c.self.inside.places c.remove.new.self None c.remove.ensures.updates text)
    c.as_str.ensures c.move_down.ensures distinct named)

pub returns : goal.returns
returns c = rw (← c.self.view_is, c.remove-pair.ensures.items) (map-remove attribute_in c.self.inside.pairs.items c.args.at)
