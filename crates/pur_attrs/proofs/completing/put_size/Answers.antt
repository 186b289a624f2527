-- The texts of the program are those of the definition.
use Rattle.std.proofs.Common.{◌∙◌, ap, refl, codes}
use Rattle.pur_laws.proofs.Texts.{chars_ascii}
use Rattle.pur_attrlist.specs.Attributes.{with_new}
use Rattle.pur_attrs.proofs.completing.put_size.Goals as goal

pub returns : goal.returns
returns c =
    let rows = rw (chars_ascii (codes "rows") refl, chars_ascii (codes "4") refl) at c.in_ok-put_new.ensures in
    let cols = rw (chars_ascii (codes "cols") refl, chars_ascii (codes "40") refl) at c.in_ok-put_new-2.ensures in
    cols ∙ ap (λ attrs. with_new attrs (codes "cols") (codes "40")) rows
