-- The text of a URI is plain, so its bytes are its characters, and what was written is read as the same URI.
use Rattle.std.proofs.Common.{◌≡◌, ◌∙◌, Some, ap, sym, string_bytes}
use Rattle.std.specs.Option.{option_map}
use Rattle.std.specs.Str.{chars}
use Rattle.std.proofs.lemmas.Str.{IsUtf8-string_bytes, encodes-chars}
use Rattle.pur_laws.proofs.Texts.{chars_ascii}
use Rattle.pur_uripolicy.specs.Admissible.{uri_under}
use Rattle.pur_uri.specs.Uris.{uri_of, uri_text}
use Rattle.pur_uripolicy.specs.declared.uses.UriUse.TheVariants.{Embed}
use Rattle.pur_validity.proofs.ReadingLemmas.{plain-characters}
use Rattle.pur_validity.proofs.reading.read_source.Goals as goal

pub returns-in_ok-value-in-Some-clause-value : goal.returns-in_ok-value-in-Some-clause-value
returns-in_ok-value-in-Some-clause-value g c =
    let uri = c.in-Some.uri in
    let text = uri_text uri in
    let read : Some uri ≡ uri_under c.args.settings.now c.args.gate.now Embed (chars c.args.raw.now) = sym c.in-Some.is ∙ c.in_ok-uri.ensures in
    let plain = plain-characters text (c.text_is_canonical.ensures text uri c.in_ok-value-in-Some.ensures.again) in
    ap Some (ap chars c.in_ok-value-in-Some.ensures.text ∙ chars_ascii text plain) ∙ ap (option_map uri_text) read

pub returns-in_ok-value-in-Some-clause-source : goal.returns-in_ok-value-in-Some-clause-source
returns-in_ok-value-in-Some-clause-source g c =
    let value = c.in_ok-value-in-Some.value in
    sym c.in_ok-value-in-Some.ensures.again
    ∙ ap uri_of (sym c.in_ok-value-in-Some.ensures.text ∙ sym (encodes-chars (string_bytes value) (IsUtf8-string_bytes value)))
