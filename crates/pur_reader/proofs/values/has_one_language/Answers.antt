use Rattle.std.proofs.Common.{◌∙◌, ap₂, refl, codes}
use Rattle.pur_laws.proofs.Texts.{chars_ascii}
use Rattle.pur_validity.specs.Attributes.{are_alike}
use Rattle.pur_reader.proofs.values.has_one_language.Goals as goal

pub returns-in-Some-get : goal.returns-in-Some-get
returns-in-Some-get c =
    c.is_same.ensures ∙ ap₂ are_alike (rw (chars_ascii (codes "lang") refl) at c.in-Some.ensures) (rw (chars_ascii (codes "xml:lang") refl) at c.in-Some-get.ensures)

pub returns-in-None-get : goal.returns-in-None-get
returns-in-None-get c =
    ap₂ are_alike (rw (chars_ascii (codes "lang") refl) at c.in-Some.ensures) (rw (chars_ascii (codes "xml:lang") refl) at c.in-None-get.ensures)

pub returns-in-Some-get-2 : goal.returns-in-Some-get-2
returns-in-Some-get-2 c =
    ap₂ are_alike (rw (chars_ascii (codes "lang") refl) at c.in-None.ensures) (rw (chars_ascii (codes "xml:lang") refl) at c.in-Some-get-2.ensures)

pub returns-in-None-get-2 : goal.returns-in-None-get-2
returns-in-None-get-2 c =
    ap₂ are_alike (rw (chars_ascii (codes "lang") refl) at c.in-None.ensures) (rw (chars_ascii (codes "xml:lang") refl) at c.in-None-get-2.ensures)
