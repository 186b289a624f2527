use Rattle.std.proofs.Common.{◌<◌, length, map, Some, sym, ap, ◌∙◌}
use Rattle.pur_attrlist.specs.Private.Stored.{text_in, attribute_in}
use Rattle.pur_attrlist.specs.declared.stored_pair.StoredPair.{StoredPair}
use Rattle.pur_attrlist.proofs.StorageLaws.{pairs-told}
use Rattle.pur_attrlist.proofs.indexed_pairs.IndexedPairs.name_at.Goals as goal

pub returns : goal.returns
returns c =
    let within : c.args.at < length (map attribute_in c.self.inside.pairs.items) = rw (← c.self.view_is) at c.requires in
    rw (← c.self.view_is, c.as_str.ensures)
    ((pairs-told c.self.inside.pairs.items c.args.at c.index.result.now within).0 ∙ ap (λ (pair : StoredPair). Some (text_in pair.name)) (sym c.index.ensures))
