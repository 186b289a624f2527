-- What is embedded: the URI that a text writes, where it is fit, in `url()`.
use Rattle.std.proofs.Common.{◌≡◌, ℕ, Bool, true, false, List, Option, Some, None, refl, ap, ◌∙◌, encode_utf8_all}
use Rattle.std.specs.Prelude.{if◌then◌else◌}
use Rattle.std.specs.Option.{option_and_then, option_map}
use Rattle.std.proofs.lemmas.Bool.{cond-true}
use Rattle.std.proofs.lemmas.Option.{same_Some}
use Rattle.pur_settings.specs.Rules.{Rules}
use Rattle.pur_csstok.specs.Urls.{url_text}
use Rattle.pur_uri.specs.Uris.{PlainUri, uri_of, uri_text}
use Rattle.pur_uripolicy.specs.Admissible.{is_fit, where_fit, uri_under}
use Rattle.pur_uripolicy.specs.HostRules.{PlainHostRule}
use Rattle.pur_uripolicy.specs.declared.uses.UriUse.TheVariants.{Embed}
use Rattle.pur_cssprops.specs.Forms.{embedded}

abbrev in_url : PlainUri → List ℕ
in_url uri = url_text (uri_text uri)

pub record IsEmbedded (rules : Rules) (rule : PlainHostRule) (text out : List ℕ) : Type 0 where
  pub uri : PlainUri
  pub read : uri_of (encode_utf8_all text) ≡ Some uri
  pub fit : is_fit rules rule Embed uri ≡ true
  pub written : url_text (uri_text uri) ≡ out

module _ (rules : Rules) (rule : PlainHostRule) (text : List ℕ) where
  pub embedded-is : (out : List ℕ) → embedded rules rule text ≡ Some out → IsEmbedded rules rule text out
  unfolding embedded uri_under
  embedded-is out e = go (uri_of (encode_utf8_all text)) refl e where
    fitted : (uri : PlainUri) → uri_of (encode_utf8_all text) ≡ Some uri → (fit : Bool) → is_fit rules rule Embed uri ≡ fit
        → option_map in_url (if fit then Some uri else None) ≡ Some out → IsEmbedded rules rule text out
    fitted uri read true fit is = record { uri = uri; read = read; fit = fit; written = same_Some (in_url uri) out is }
    fitted uri read false fit is = absurd cc

    go : (found : Option PlainUri) → uri_of (encode_utf8_all text) ≡ found
        → option_map in_url (option_and_then (where_fit rules rule Embed) found) ≡ Some out → IsEmbedded rules rule text out
    go None read is = absurd cc
    go (Some uri) read is = fitted uri read (is_fit rules rule Embed uri) refl is

  pub embedded-from : (out : List ℕ) → IsEmbedded rules rule text out → embedded rules rule text ≡ Some out
  unfolding embedded uri_under
  embedded-from out is =
      ap (λ found. option_map in_url (option_and_then (where_fit rules rule Embed) found)) is.read
      ∙ ap (option_map in_url) (cond-true _ _ _ is.fit) ∙ ap Some is.written
