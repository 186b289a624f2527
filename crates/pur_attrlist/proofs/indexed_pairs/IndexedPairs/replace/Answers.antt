use Rattle.std.proofs.Common.{map, set, sym, ap, ◌∙◌}
use Rattle.std.specs.Str.{chars}
use Rattle.pur_attrlist.specs.Attributes.{names_of}
use Rattle.pur_attrlist.specs.Private.Places.{place_of}
use Rattle.pur_attrlist.specs.Private.Stored.{text_in, attribute_in}
use Rattle.pur_attrlist.specs.declared.stored_pair.StoredPair.{StoredPair}
use Rattle.pur_attrlist.proofs.AttributeLaws.{names_of-with_value_at}
use Rattle.pur_attrlist.proofs.StorageLaws.{pairs-set}
use Rattle.pur_attrlist.proofs.indexed_pairs.IndexedPairs.replace.Goals as goal

pub invariant_of-self : goal.invariant_of-self
invariant_of-self c =
    let pairs = c.self.inside.pairs.items in
    let value = c.args.value in
    let same =
    ap (λ (pair : StoredPair). names_of (map attribute_in (set pairs c.args.at (record { name = pair.name; value = value })))) c.index_mut.ensures.value
    ∙ ap names_of (pairs-set pairs c.args.at c.index_mut.result.now value)
    ∙ names_of-with_value_at (map attribute_in pairs) c.args.at (text_in value) in
    record { finds = λ text utf8. c.self.invariant.finds text utf8 ∙ ap (λ l. place_of l (chars text)) (sym same) }

pub returns : goal.returns
returns c =
    let pairs = c.self.inside.pairs.items in
    let value = c.args.value in
    rw (← c.self.view_is)
    (ap (λ (pair : StoredPair). map attribute_in (set pairs c.args.at (record { name = pair.name; value = value }))) c.index_mut.ensures.value
    ∙ pairs-set pairs c.args.at c.index_mut.result.now value)
