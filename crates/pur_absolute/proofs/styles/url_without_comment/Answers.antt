use Rattle.std.proofs.Common.{◌≡◌, ◌∙◌, ◌++◌, Some, None, codes, ap, rules, string_bytes, sym}
use Rattle.std.specs.Str.{chars}
use Rattle.std.proofs.lemmas.Bool.{cond-false}
use Rattle.pur_csstok.specs.Urls.{url_text}
use Rattle.pur_laws.proofs.Texts.{chars_ascii}
use Rattle.pur_uri.specs.Laws.{has_comment}
use Rattle.pur_uri.specs.Uris.{uri_text}
use Rattle.pur_absolute.proofs.StyleLemmas.{url-joined, url-ascii}
use Rattle.pur_absolute.proofs.styles.url_without_comment.Goals as goal

pub returns : goal.returns
returns c =
    let text = uri_text c.args.uri.now in
    let bytes : string_bytes c.push_str-3.new.self ≡ codes "url(\"" ++ (text ++ codes "\")") = search rules in
    let written : chars (string_bytes c.push_str-3.new.self) ≡ url_text text =
    ap chars (bytes ∙ url-joined text) ∙ chars_ascii (url_text text) (url-ascii text (c.text_is_canonical.ensures text c.args.uri.now c.in_ok-address.ensures.again)) in
    let told : c.has_comment.result ≡ has_comment text = c.has_comment.ensures ∙ ap has_comment (c.as_bytes.ensures.value ∙ c.in_ok-address.ensures.text) in
    ap Some written ∙ sym (cond-false (has_comment text) None (Some (url_text text)) (sym told ∙ c.if-has_comment.false))
