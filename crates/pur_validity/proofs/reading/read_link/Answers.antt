-- The text of a URI is plain, so its bytes are its characters.
use Rattle.std.proofs.Common.{◌≡◌, ◌∙◌, Some, ap, sym}
use Rattle.std.specs.Option.{option_map}
use Rattle.std.specs.Str.{chars}
use Rattle.pur_laws.proofs.Texts.{chars_ascii}
use Rattle.pur_uripolicy.specs.Admissible.{uri_under}
use Rattle.pur_uri.specs.Uris.{uri_text}
use Rattle.pur_uripolicy.specs.declared.uses.UriUse.TheVariants.{Link}
use Rattle.pur_validity.proofs.ReadingLemmas.{plain-characters}
use Rattle.pur_validity.proofs.reading.read_link.Goals as goal

pub returns-in_ok-text-in-Some : goal.returns-in_ok-text-in-Some
returns-in_ok-text-in-Some g c =
    let uri = c.in-Some.uri in
    let text = uri_text uri in
    let read : Some uri ≡ uri_under c.args.settings.now c.args.gate.now Link (chars c.args.raw.now) = sym c.in-Some.is ∙ c.in_ok-uri.ensures in
    let plain = plain-characters text (c.text_is_canonical.ensures text uri c.in_ok-text-in-Some.ensures.again) in
    ap Some (ap chars c.in_ok-text-in-Some.ensures.text ∙ chars_ascii text plain) ∙ ap (option_map uri_text) read
