-- The three declarations stand one behind another.
use Rattle.std.proofs.Common.{◌∙◌, ap, refl, codes}
use Rattle.std.specs.Str.{chars}
use Rattle.std.proofs.lemmas.Str.{chars-nil}
use Rattle.pur_laws.proofs.Texts.{chars_ascii}
use Rattle.pur_attrlist.specs.Attributes.{value_of}
use Rattle.pur_attrlist.specs.Texts.{text_of}
use Rattle.pur_foreign.specs.Strict.{declaration, size_of}
use Rattle.pur_foreign.proofs.StrictLemmas.{three-parts}
use Rattle.pur_foreign.proofs.strict.font_style.Goals as goal

pub returns : goal.returns
returns c =
    let attrs = c.args.attrs.now in
    let color = rw (chars_ascii (codes "color") refl) at c.get.ensures in
    let face = rw (chars_ascii (codes "face") refl) at c.get-2.ensures in
    let d1 = rw (chars_ascii (codes "color") refl, color) at c.in_ok-push_declaration.ensures in
    let d2 = rw (chars_ascii (codes "font-family") refl, face) at c.in_ok-push_declaration-2.ensures in
    let d3 = rw (chars_ascii (codes "font-size") refl, c.font_size.ensures) at c.in_ok-push_declaration-3.ensures in
    three-parts (text_of c.new-style.result) (text_of c.push_declaration.new.style) (text_of c.push_declaration-2.new.style) (text_of c.push_declaration-3.new.style)
    (declaration (codes "color") (value_of attrs (codes "color"))) (declaration (codes "font-family") (value_of attrs (codes "face")))
    (declaration (codes "font-size") (size_of (value_of attrs (codes "size"))))
    (ap chars c.new-style.ensures.bytes ∙ chars-nil) d1 d2 d3
