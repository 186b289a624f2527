-- A path is plain, so its bytes are its characters.
use Rattle.std.proofs.Common.{◌∙◌, [], Option, ap, sym}
use Rattle.std.specs.Option.{option_map_or}
use Rattle.std.specs.Str.{chars}
use Rattle.std.proofs.lemmas.Str.{chars-nil}
use Rattle.pur_laws.proofs.Texts.{chars_ascii}
use Rattle.pur_uri.specs.Uris.{PlainUri, uri_text}
use Rattle.pur_attrs.specs.Steps.{last_segment}
use Rattle.pur_attrs.proofs.SegmentLemmas.{path-characters, segment-characters, plain-characters}
use Rattle.pur_attrs.proofs.completing.source_name.Goals as goal

pub returns-in-Some : goal.returns-in-Some
returns-in-Some c =
    let uri = c.in-Some.uri in
    let name = last_segment uri.path in
    let plain = plain-characters name (segment-characters uri.path (path-characters uri (c.text_is_canonical.ensures (uri_text uri) uri c.uri_is_canonical.ensures))) in
    ap chars c.last_segment.ensures ∙ ap (λ path. chars (last_segment path)) c.path.ensures ∙ chars_ascii name plain
    ∙ ap (λ (o : Option PlainUri). option_map_or (λ uri. last_segment uri.path) o []) (sym c.in-Some.is)

pub returns-in-None : goal.returns-in-None
returns-in-None c = chars-nil ∙ ap (λ (o : Option PlainUri). option_map_or (λ uri. last_segment uri.path) o []) (sym c.in-None.is)
