use Rattle.std.proofs.Common.{◌≡◌, ◌∙◌, ap, sym, refl, map, Some, None, string_bytes}
use Rattle.std.specs.Option.{option_map}
use Rattle.std.specs.Str.{bytes_eq, chars}
use Rattle.std.proofs.lemmas.Str.{encodes-chars, IsUtf8-string_bytes}
use Rattle.indexmap.specs.IndexMap.{insert_entry}
use Rattle.pur_names.specs.Properties.{prop_named, prop_name}
use Rattle.pur_text.specs.Texts.{text_of}
use Rattle.pur_csstok.specs.Written.{pair_of}
use Rattle.pur_cssprops.specs.Private.Held.{entry_held, held, with_one}
use Rattle.pur_cssprops.specs.Styles.{property_read}
use Rattle.pur_cssprops.proofs.KeptLemmas.{held-insert, kept-none, kept-read}
use Rattle.pur_cssprops.proofs.styles.keep.Goals as goal

pub returns-in_default : goal.returns-in_default
returns-in_default g c =
    let pair = pair_of c.args.declaration.now in
    let none : prop_named pair.0 ≡ None = ap (λ t. prop_named (chars t)) (sym c.as_str.ensures.value) ∙ sym c.property_named.ensures ∙ c.in_default.is in
    sym (ap (with_one (held c.args.values.now)) (kept-none c.args.settings.now c.args.gate.now pair none))

pub returns-in_ok-insert : goal.returns-in_ok-insert
returns-in_ok-insert g c =
    let rules = c.args.settings.now in
    let rule = c.args.gate.now in
    let pair = pair_of c.args.declaration.now in
    let before = held c.args.values.now in
    let property = c.in-Some.property in
    let value = c.in-Some-2.value in
    let found : prop_named pair.0 ≡ Some property = ap (λ t. prop_named (chars t)) (sym c.as_str.ensures.value) ∙ sym c.property_named.ensures ∙ c.in-Some.is in
    let read : property_read rules rule pair.1 property ≡ Some (property, text_of value) =
    ap (λ t. property_read rules rule (chars t) property) (sym c.as_str-2.ensures.value)
    ∙ sym c.in_ok-value.ensures ∙ ap (option_map (λ text. (property, text_of text))) c.in-Some-2.is in
    ap (map entry_held) c.in_ok-insert.ensures.entries
    ∙ held-insert _ (λ one other. refl) c.args.values.now.entries c.name.result value
    ∙ ap (λ name. insert_entry bytes_eq before name (string_bytes value)) c.name.ensures
    ∙ ap (insert_entry bytes_eq before (prop_name property)) (sym (encodes-chars (string_bytes value) (IsUtf8-string_bytes value)))
    ∙ sym (ap (with_one before) (kept-read rules rule pair property found ∙ read))

pub returns-in_default-2 : goal.returns-in_default-2
returns-in_default-2 g c =
    let rules = c.args.settings.now in
    let rule = c.args.gate.now in
    let pair = pair_of c.args.declaration.now in
    let property = c.in-Some.property in
    let found : prop_named pair.0 ≡ Some property = ap (λ t. prop_named (chars t)) (sym c.as_str.ensures.value) ∙ sym c.property_named.ensures ∙ c.in-Some.is in
    let read : property_read rules rule pair.1 property ≡ None =
    ap (λ t. property_read rules rule (chars t) property) (sym c.as_str-2.ensures.value)
    ∙ sym c.in_ok-value.ensures ∙ ap (option_map (λ text. (property, text_of text))) c.in_default-2.is in
    sym (ap (with_one (held c.args.values.now)) (kept-read rules rule pair property found ∙ read))
