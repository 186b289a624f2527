use Rattle.std.proofs.Common.{◌≡◌, ◌∙◌, ◌++◌, codes, ap, rules, string_bytes}
use Rattle.std.specs.Str.{chars}
use Rattle.pur_laws.proofs.Texts.{chars_ascii}
use Rattle.pur_csstok.specs.Urls.{url_text}
use Rattle.pur_uri.specs.Uris.{uri_text}
use Rattle.pur_cssprops.proofs.TextLemmas.{url-ascii, url-joined}
use Rattle.pur_cssprops.proofs.images.url_text.Goals as goal

pub returns : goal.returns
returns c =
    let uri = c.args.uri.now in
    let bytes : string_bytes c.push_str-3.new.self ≡ codes "url(\"" ++ (uri_text uri ++ codes "\")") = search rules in
    ap chars (bytes ∙ url-joined (uri_text uri))
    ∙ chars_ascii (url_text (uri_text uri)) (url-ascii (uri_text uri) (c.text_is_canonical.ensures (uri_text uri) uri c.in_ok-address.ensures.again))
