use Rattle.std.proofs.Common.{◌≡◌, ◌∙◌, [], ◌∷◌, ap, arith, false, length, map, string_bytes, Some}
use Rattle.std.specs.Str.{chars}
use Rattle.std.proofs.lemmas.List.{length-map, map-append}
use Rattle.std.proofs.lemmas.Map.Text.{btree_map_updates_text}
use Rattle.std.proofs.lemmas.Str.{IsUtf8-string_bytes}
use Rattle.pur_attrlist.specs.Attributes.{has_name}
use Rattle.pur_attrlist.specs.Private.Stored.{text_in, attribute_in}
use Rattle.pur_attrlist.proofs.IndexLaws.{IsIndexOf-put}
use Rattle.pur_attrlist.proofs.indexed_pairs.IndexedPairs.put.Goals as goal

pub invariant_of-self-2 : goal.invariant_of-self-2
invariant_of-self-2 c =
    let pairs = c.self.inside.pairs.items in
    let key = c.in_ok-key.key in
    let is_new : has_name (map attribute_in pairs) (text_in c.args.name) ≡ false = rw (← c.self.view_is) at c.requires in
    let same_key : chars (string_bytes key) ≡ text_in c.args.name = ap chars c.in_ok-key.ensures.ok ∙ c.as_str.ensures in
    let at_end : c.len-place.result ≡ length (map attribute_in pairs) =
    omega (arith, c.reserve.new.self.ok.0, ap length c.reserve.ensures.items, length-map pairs attribute_in) in
    rw (c.push_reserved.ensures.items, c.reserve.ensures.items, map-append attribute_in pairs (record { name = c.args.name; value = c.args.value } ∷ []))
    (IsIndexOf-put c.self.inside.places c.insert.new.self (map attribute_in pairs) (text_in c.args.name) (text_in c.args.value) (string_bytes key) c.len-place.result
    c.self.invariant (IsUtf8-string_bytes key)
    (λ text. btree_map_updates_text (string_bytes key) c.self.inside.places c.insert.new.self (Some c.len-place.result) c.in_ok-insert.ensures.updates text)
    same_key at_end is_new)
