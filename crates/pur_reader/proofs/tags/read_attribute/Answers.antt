use Rattle.std.proofs.Common.{◌≡◌, ◌∙◌, ◌++◌, ap, sym}
use Rattle.std.specs.Str.{chars}
use Rattle.pur_text.specs.Texts.{text_of}
use Rattle.pur_tree.specs.Spelling.{attribute_text, escaped_value}
use Rattle.pur_reader.proofs.OptionLemmas.{from_some, from_none}
use Rattle.pur_reader.proofs.TagLemmas.{other_name, other_value, attribute_read, attribute_front}
use Rattle.pur_reader.proofs.tags.read_attribute.Goals as goal

pub returns-then-not-is_attr_name-clause-none : goal.returns-then-not-is_attr_name-clause-none
returns-then-not-is_attr_name-clause-none c =
    other_name _ _ _ (chars c.args.text.now) c.in-Some.ensures.some (sym c.is_attr_name.ensures ∙ c.if-not-is_attr_name.true)

pub returns-in_ok-name-in-Some-read-clause-some : goal.returns-in_ok-name-in-Some-read-clause-some
returns-in_ok-name-in-Some-read-clause-some c =
    let value = text_of c.in-Some-read.value in
    let rest = chars c.in-Some.rest.now in
    let name : text_of c.in_ok-name-in-Some-read.name ≡ chars c.in-Some.name.now = ap chars c.in_ok-name-in-Some-read.ensures.ok in
    attribute_read (chars c.in-Some.name.now) value _ rest (chars c.args.text.now) c.in-Some.ensures.some
    (from_some _ c.in_ok-read-in-Some.read _ c.in-Some-read.is c.in_ok-read-in-Some.ensures.some)
    ∙ ap (λ n. attribute_text (n, value) ++ rest) (sym name)

pub returns-in-None-read-clause-none : goal.returns-in-None-read-clause-none
returns-in-None-read-clause-none c =
    other_value _ _ _ (chars c.args.text.now) c.in-Some.ensures.some (from_none _ c.in_ok-read-in-Some.read c.in-None-read.is c.in_ok-read-in-Some.ensures.none)

pub returns-in-None-clause-none : goal.returns-in-None-clause-none
returns-in-None-clause-none c = λ pair x good e.
    c.in-None.ensures.none pair.0 (escaped_value pair.1) x (attribute_front pair x (chars c.args.text.now) good e)
