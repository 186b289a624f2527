-- The three attributes of a font go.
use Rattle.std.proofs.Common.{◌∙◌, ap, refl, codes}
use Rattle.pur_laws.proofs.Texts.{chars_ascii}
use Rattle.pur_attrlist.specs.Attributes.{without}
use Rattle.pur_foreign.proofs.strict.attributes_left.Goals as goal

pub returns-in-Font : goal.returns-in-Font
returns-in-Font c =
    let color = rw (chars_ascii (codes "color") refl) at c.remove.ensures.rest in
    let face = rw (chars_ascii (codes "face") refl) at c.remove-in-Font.ensures.rest in
    let size = rw (chars_ascii (codes "size") refl) at c.remove-in-Font-2.ensures.rest in
    rw c.in-Font.is (size ∙ ap (λ l. without l (codes "size")) (face ∙ ap (λ l. without l (codes "face")) color))
