-- The four parts are a declaration.
use Rattle.std.proofs.Common.{◌++◌, ◌∙◌, ap, refl, codes}
use Rattle.std.specs.Str.{chars}
use Rattle.pur_laws.proofs.Texts.{chars_ascii}
use Rattle.pur_attrlist.specs.Texts.{text_of}
use Rattle.pur_attrlist.proofs.TextLaws.{pushed}
use Rattle.pur_attrs.proofs.StrictLemmas.{written}
use Rattle.pur_attrs.proofs.strict.push_declaration.Goals as goal

pub returns-in_ok-push_str-in-Some-4 : goal.returns-in_ok-push_str-in-Some-4
returns-in_ok-push_str-in-Some-4 c =
    let p = c.args.property.now in
    let v = c.in-Some.value.now in
    let s0 = c.args.style.now in
    let s1 = c.push_str.new.self in
    let s2 = c.push_str-in-Some.new.self in
    let s3 = c.push_str-in-Some-2.new.self in
    let s4 = c.push_str-in-Some-3.new.self in
    let e1 = pushed s0 s1 p c.in_ok-push_str-in-Some.ensures.bytes in
    let e2 = pushed s1 s2 (codes ":") c.in_ok-push_str-in-Some-2.ensures.bytes in
    let e3 = pushed s2 s3 v c.in_ok-push_str-in-Some-3.ensures.bytes in
    let e4 = pushed s3 s4 (codes ";") c.in_ok-push_str-in-Some-4.ensures.bytes in
    rw c.in-Some.is (written (text_of s0) (text_of s4) (chars p) (chars v) (chars (codes ":")) (chars (codes ";")) (chars_ascii (codes ":") refl) (chars_ascii (codes ";") refl)
    (e4 ∙ ap (λ l. l ++ chars (codes ";")) (e3 ∙ ap (λ l. l ++ chars v) (e2 ∙ ap (λ l. l ++ chars (codes ":")) e1))))
