-- A style that isn't empty is put in front.
use Rattle.std.proofs.Common.{◌≡◌, ◌++◌, [], ◌∙◌, ap, sym, refl, codes, string_bytes, arith}
use Rattle.std.specs.Str.{chars}
use Rattle.std.proofs.lemmas.Bool.{eqb-false, eqb-true}
use Rattle.std.proofs.lemmas.Str.{IsUtf8-string_bytes}
use Rattle.pur_laws.proofs.Texts.{chars_ascii, no_chars, some_chars}
use Rattle.pur_attrlist.specs.Attributes.{with_value}
use Rattle.pur_attrlist.specs.Texts.{text_of}
use Rattle.pur_attrlist.specs.Styles.{with_style, text_or_none}
use Rattle.pur_attrlist.proofs.StyleLaws.{styled}
use Rattle.pur_attrlist.proofs.styles.put_style.Goals as goal

pub returns-then-is_empty : goal.returns-then-is_empty
returns-then-is_empty c =
    let style = c.args.style in
    let none : text_of style ≡ [] = no_chars (string_bytes style) (sym style.bytes.ok.0 ∙ eqb-true _ _ (sym c.if-is_empty.ensures)) in
    ap (λ l. with_style l c.args.attrs.now) (sym none)

pub returns : goal.returns
returns c =
    let style = c.args.style in
    let attrs = c.args.attrs.now in
    let other = eqb-false _ _ (sym c.if-is_empty.ensures) in
    let some = some_chars (string_bytes style) (IsUtf8-string_bytes style) (omega (arith, other, style.bytes.ok.0)) in
    let old = rw (chars_ascii (codes "style") refl) at c.get.ensures in
    let set = rw (chars_ascii (codes "style") refl) at c.in_ok-set.ensures.ok in
    set
    ∙ ap (with_value attrs (codes "style")) (ap chars c.as_str.ensures.value ∙ c.in_ok-style.ensures ∙ ap (λ o. text_of style ++ text_or_none o) old)
    ∙ sym (styled (text_of style) attrs some)
