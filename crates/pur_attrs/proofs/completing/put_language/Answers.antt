-- Both tell the language that is told.
use Rattle.std.proofs.Common.{◌∙◌, ap, sym, refl, codes}
use Rattle.std.specs.Str.{chars}
use Rattle.pur_laws.proofs.Texts.{chars_ascii}
use Rattle.pur_attrlist.specs.Attributes.{with_value}
use Rattle.pur_attrs.specs.Steps.{with_language}
use Rattle.pur_attrs.proofs.CompletingLemmas.{text_behind, found-told}
use Rattle.pur_attrs.proofs.completing.put_language.Goals as goal

pub returns-in-None : goal.returns-in-None
returns-in-None c =
    let attrs = c.args.attrs.now in
    let one = rw (chars_ascii (codes "xml:lang") refl) at c.get.ensures in
    let two = rw (chars_ascii (codes "lang") refl) at c.get-2.ensures in
    ap (λ o. with_language o attrs) (ap text_behind (sym c.in-None.is) ∙ found-told attrs c.get.result c.get-2.result c.or-told.result one two c.or-told.ensures)

pub returns : goal.returns
returns c =
    let attrs = c.args.attrs.now in
    let language = chars c.in-Some.language.now in
    let one = rw (chars_ascii (codes "xml:lang") refl) at c.get.ensures in
    let two = rw (chars_ascii (codes "lang") refl) at c.get-2.ensures in
    let told = ap text_behind (sym c.in-Some.is) ∙ found-told attrs c.get.result c.get-2.result c.or-told.result one two c.or-told.ensures in
    let copied = ap chars c.in_ok-language-in-Some.ensures.ok in
    let first = rw (chars_ascii (codes "lang") refl, c.as_str.ensures.value, copied) at c.in_ok-set.ensures.ok in
    let second = rw (chars_ascii (codes "xml:lang") refl, c.as_str-2.ensures.value, copied) at c.in_ok-set-2.ensures.ok in
    second ∙ ap (λ l. with_value l (codes "xml:lang") language) first ∙ ap (λ o. with_language o attrs) told
