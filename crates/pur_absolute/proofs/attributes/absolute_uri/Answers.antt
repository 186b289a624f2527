use Rattle.std.proofs.Common.{◌≡◌, ◌∙◌, Some, None, ap, sym}
use Rattle.std.specs.Option.{option_and_then}
use Rattle.std.specs.Str.{chars}
use Rattle.std.specs.Prelude.{encode_utf8_all}
use Rattle.std.proofs.lemmas.Str.{encodes-chars}
use Rattle.pur_uri.specs.Uris.{uri_of}
use Rattle.pur_resolve.specs.Resolving.{resolved}
use Rattle.pur_absolute.specs.Absolute.{absolute_uri, where_allowed}
use Rattle.pur_absolute.proofs.attributes.absolute_uri.Goals as goal

pub returns-in_ok-meant-in-Some : goal.returns-in_ok-meant-in-Some
unfolding absolute_uri
returns-in_ok-meant-in-Some g c =
    let base = c.args.base.now in
    let read : Some c.in-Some.uri ≡ uri_of (encode_utf8_all (chars c.args.text.now)) =
    sym c.in-Some.is ∙ c.in_ok-uri.ensures ∙ ap uri_of (sym (encodes-chars c.args.text.now c.utf8.text)) in
    λ allows answers.
    c.where_allowed.ensures allows answers ∙ ap (where_allowed allows) c.in_ok-meant-in-Some.ensures
    ∙ ap (option_and_then (λ uri. where_allowed allows (resolved base uri))) read

pub returns-in-None : goal.returns-in-None
unfolding absolute_uri
returns-in-None g c =
    let read : None ≡ uri_of (encode_utf8_all (chars c.args.text.now)) =
    sym c.in-None.is ∙ c.in_ok-uri.ensures ∙ ap uri_of (sym (encodes-chars c.args.text.now c.utf8.text)) in
    λ allows answers. ap (option_and_then (λ uri. where_allowed allows (resolved c.args.base.now uri))) read
