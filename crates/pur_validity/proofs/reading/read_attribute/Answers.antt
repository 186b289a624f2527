-- The name is looked up by its bytes.
use Rattle.std.proofs.Common.{◌≡◌, ◌∙◌, Some, None, IfOk, IfSome, subst, sym}
use Rattle.std.specs.Option.{option_map}
use Rattle.std.specs.Str.{chars}
use Rattle.std.proofs.lemmas.Result.{IfOk-weaker}
use Rattle.pur_names.specs.Attributes.{attr_named}
use Rattle.pur_text.specs.Texts.{text_of}
use Rattle.pur_validity.specs.Attributes.{attribute_read, source_in, value_on}
use Rattle.pur_validity.proofs.ReadingLemmas.{named-chars, named-is, read-permitted, read-forbidden, read-unknown}
use Rattle.pur_validity.proofs.reading.read_attribute.Goals as goal

pub returns-then-not-permits_attr-clause-value : goal.returns-then-not-permits_attr-clause-value
returns-then-not-permits_attr-clause-value g c =
    let name = c.args.name.now in
    let found : attr_named (chars name) ≡ Some c.in-Some.attr = sym (named-chars name c.utf8.name) ∙ sym c.from_name.ensures.value ∙ c.in-Some.is in
    read-forbidden c.args.settings.now c.args.gate.now c.args.element (chars name) (chars c.args.raw.now) c.in-Some.attr found (sym c.if-not-permits_attr.ensures)

pub returns-else-not-permits_attr-clause-value : goal.returns-else-not-permits_attr-clause-value
returns-else-not-permits_attr-clause-value g c =
    let rules = c.args.settings.now in
    let rule = c.args.gate.now in
    let element = c.args.element in
    let name = c.args.name.now in
    let raw = chars c.args.raw.now in
    let attr = c.in-Some.attr in
    let found : attr_named (chars name) ≡ Some attr = sym (named-chars name c.utf8.name) ∙ sym c.from_name.ensures.value ∙ c.in-Some.is in
    let read = read-permitted rules rule element (chars name) raw attr found (sym c.if-not-permits_attr.ensures) in
    IfOk-weaker c.read_on.result (λ value. option_map (λ found. text_of found.value) value ≡ value_on rules rule element attr raw)
    (λ value. option_map (λ found. text_of found.value) value ≡ attribute_read rules rule element (chars name) raw) (λ value is. is ∙ read) c.read_on.ensures.value

pub returns-else-not-permits_attr-clause-source : goal.returns-else-not-permits_attr-clause-source
returns-else-not-permits_attr-clause-source g c =
    let name = c.args.name.now in
    let found : attr_named (chars name) ≡ Some c.in-Some.attr = sym (named-chars name c.utf8.name) ∙ sym c.from_name.ensures.value ∙ c.in-Some.is in
    subst (λ n. IfOk c.read_on.result (λ read. IfSome read (λ found. found.source ≡ source_in n (text_of found.value))))
    (named-is (chars name) c.in-Some.attr found) c.read_on.ensures.source

pub returns-in-None-clause-value : goal.returns-in-None-clause-value
returns-in-None-clause-value g c =
    let name = c.args.name.now in
    let none : attr_named (chars name) ≡ None = sym (named-chars name c.utf8.name) ∙ sym c.from_name.ensures.value ∙ c.in-None.is in
    read-unknown c.args.settings.now c.args.gate.now c.args.element (chars name) (chars c.args.raw.now) none
