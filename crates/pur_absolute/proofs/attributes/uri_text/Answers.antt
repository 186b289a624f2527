-- The text of a URI is in ASCII, so that its bytes are its characters.
use Rattle.std.proofs.Common.{◌≡◌, string_bytes}
use Rattle.std.proofs.lemmas.Result.{IfOk-weaker}
use Rattle.pur_attrlist.specs.Texts.{text_of}
use Rattle.pur_uri.specs.Uris.{uri_text}
use Rattle.pur_absolute.proofs.TextLemmas.{canonical-chars}
use Rattle.pur_absolute.proofs.attributes.uri_text.Goals as goal

pub returns : goal.returns
returns c =
    let uri = c.args.uri.now in
    let text = uri_text uri in
    IfOk-weaker c.write.result (λ out. string_bytes out ≡ text) (λ out. text_of out ≡ text)
    (λ out is. canonical-chars (string_bytes out) text is (c.text_is_canonical.ensures text uri c.write.ensures.again)) c.write.ensures.text
