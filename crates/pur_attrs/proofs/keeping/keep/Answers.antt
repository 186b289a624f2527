-- What the value is read as is put behind the attributes that are kept.
use Rattle.std.proofs.Common.{◌≡◌, ◌∙◌, Option, Some, None, IfSome, ap, sym, subst}
use Rattle.std.specs.Option.{option_map}
use Rattle.pur_attrlist.specs.Attributes.{Attribute}
use Rattle.pur_attrlist.specs.Pairs.{attribute_of}
use Rattle.pur_attrlist.specs.Texts.{text_of}
use Rattle.pur_validity.specs.Attributes.{source_in}
use Rattle.pur_attrs.specs.Steps.{kept_attribute}
use Rattle.pur_attrs.specs.Private.Parts.{with_one}
use Rattle.pur_attrs.proofs.KeepingLemmas.{kept-read}
use Rattle.pur_attrs.proofs.keeping.keep.Goals as goal

pub put-requires-clause-reading : goal.put-requires-clause-reading
put-requires-clause-reading g c =
    let pair = attribute_of c.args.pair in
    subst (λ o. IfSome o (λ r. r.source ≡ source_in pair.0 (text_of r.value))) c.in-Some.is (rw c.as_str.ensures.value at c.in_ok-read.ensures.source)

pub returns-in_ok-put-in-Some-clause-attrs : goal.returns-in_ok-put-in-Some-clause-attrs
returns-in_ok-put-in-Some-clause-attrs g c =
    let pair = attribute_of c.args.pair in
    let value = rw (c.as_str.ensures.value, c.as_str-2.ensures.value) at c.in_ok-read.ensures.value in
    let told : Some (pair.0, text_of c.in-Some.reading.value) ≡ kept_attribute c.args.settings.now c.args.gate.now c.args.element pair =
    ap (λ (o : Option _). option_map {U = Attribute} (λ v. (pair.0, v)) (option_map (λ r. text_of r.value) o)) (sym c.in-Some.is)
    ∙ ap (option_map {U = Attribute} (λ v. (pair.0, v))) value ∙ sym (kept-read c.args.settings.now c.args.gate.now c.args.element pair) in
    c.in_ok-put-in-Some.ensures.attrs ∙ ap (with_one c.args.kept.now.attrs) told

pub returns-in-None-clause-attrs : goal.returns-in-None-clause-attrs
returns-in-None-clause-attrs g c =
    let pair = attribute_of c.args.pair in
    let value = rw (c.as_str.ensures.value, c.as_str-2.ensures.value) at c.in_ok-read.ensures.value in
    let told : None ≡ kept_attribute c.args.settings.now c.args.gate.now c.args.element pair =
    ap (λ (o : Option _). option_map {U = Attribute} (λ v. (pair.0, v)) (option_map (λ r. text_of r.value) o)) (sym c.in-None.is)
    ∙ ap (option_map {U = Attribute} (λ v. (pair.0, v))) value ∙ sym (kept-read c.args.settings.now c.args.gate.now c.args.element pair) in
    ap (with_one c.args.kept.now.attrs) told
