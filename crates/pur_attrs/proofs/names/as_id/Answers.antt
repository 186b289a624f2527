-- A name is compared by its bytes.
use Rattle.std.proofs.Common.{◌≡◌, ◌∙◌, true, false, ap, sym, refl, codes, string_bytes}
use Rattle.std.specs.Str.{bytes_eq, chars}
use Rattle.std.proofs.lemmas.Bool.{not-true, not-false}
use Rattle.std.proofs.lemmas.Str.{IsUtf8-string_bytes}
use Rattle.pur_laws.proofs.Texts.{bytes_eq-ascii, chars_ascii}
use Rattle.pur_attrlist.specs.Attributes.{is_same_text}
use Rattle.pur_attrlist.specs.Pairs.{attribute_of}
use Rattle.pur_attrlist.specs.Texts.{text_of}
use Rattle.pur_attrlist.proofs.TextLaws.{is_same_text-sym}
use Rattle.pur_attrs.proofs.KeepingLemmas.{as_id-other, as_id-name}
use Rattle.pur_attrs.proofs.names.as_id.Goals as goal

pub returns-then-ne : goal.returns-then-ne
returns-then-ne c =
    let name = string_bytes c.args.pair.name in
    let differs : bytes_eq name (codes "name") ≡ false = not-true _ (sym (rw c.as_str.ensures.value at c.if-ne.ensures)) in
    let isnt : is_same_text (codes "name") (text_of c.args.pair.name) ≡ false =
    is_same_text-sym (codes "name") (chars name) ∙ bytes_eq-ascii name (codes "name") (IsUtf8-string_bytes c.args.pair.name) refl ∙ differs in
    as_id-other (attribute_of c.args.pair) isnt

pub returns : goal.returns
returns c =
    let name = string_bytes c.args.pair.name in
    let same : bytes_eq name (codes "name") ≡ true = not-false _ (sym (rw c.as_str.ensures.value at c.if-ne.ensures)) in
    let is : is_same_text (codes "name") (text_of c.args.pair.name) ≡ true =
    is_same_text-sym (codes "name") (chars name) ∙ bytes_eq-ascii name (codes "name") (IsUtf8-string_bytes c.args.pair.name) refl ∙ same in
    ap (λ n. (n, text_of c.args.pair.value)) (ap chars c.in_ok-name.ensures.ok ∙ chars_ascii (codes "id") refl) ∙ as_id-name (attribute_of c.args.pair) is
