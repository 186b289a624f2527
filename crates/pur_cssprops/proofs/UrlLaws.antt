-- What the form of URLs reads is read as itself.
use Rattle.std.proofs.Common.{◌≡◌, ℕ, Bool, true, false, not, List, [], ◌∷◌, Some, None, refl, sym, ap, ◌∙◌, arith, IsUtf8, encode_utf8_all, ⊎_elim}
use Rattle.std.specs.Prelude.{◌==◌, slice_index}
use Rattle.std.specs.List.{list_all}
use Rattle.std.specs.Option.{option_or, option_and_then}
use Rattle.std.specs.Str.{chars, str_to_ascii_lowercase}
use Rattle.std.proofs.lemmas.Bool.{cases_Bool, cond-true, cond-false, and_parts, and_from}
use Rattle.std.proofs.lemmas.Bool.Decides.{nat_tests}
use Rattle.std.proofs.lemmas.Option.{option_and_then_some}
use Rattle.std.proofs.lemmas.Str.{scalars-chars}
use lib.Utf8.{scalar, scalars}
use Rattle.pur_laws.proofs.Lists.{all-weaker}
use Rattle.pur_laws.proofs.Tests.{kept, all-named}
use Rattle.pur_laws.proofs.Texts.{encodes_ascii}
use Rattle.pur_settings.specs.Rules.{Rules}
use Rattle.pur_csstok.specs.Names.{is_one_of}
use Rattle.pur_csstok.specs.Urls.{breaks_quotes, url_read, url_text}
use Rattle.pur_uri.specs.Escapes.{stays_in_query, stays_in_path}
use Rattle.pur_uri.specs.Laws.{is_canonical_byte}
use Rattle.pur_uri.specs.Uris.{PlainUri, uri_of, uri_text}
use Rattle.pur_uripolicy.specs.HostRules.{PlainHostRule}
use Rattle.pur_cssprops.specs.Forms.{embedded, image_read}
use Rattle.pur_cssprops.specs.Keywords.{words_in, keyword_read}
use Rattle.pur_cssprops.specs.declared.keywords.Keywords.{Keywords}
use Rattle.pur_cssprops.specs.declared.keywords.Keywords.TheVariants.{NoneAlone}
use Rattle.pur_cssprops.proofs.EmbeddedLemmas.{embedded-is, embedded-from}
use Rattle.pur_cssprops.proofs.InnerLaws.{all-inherited, url-inner}
use Rattle.pur_cssprops.proofs.TextLemmas.{canonical-ascii}
use Rattle.pur_cssprops.proofs.WordLaws.{keyword-out, keyword-again, or_either}

-- the laws of URLs and URIs that the form stands on
pub record UrlLaws : Type 0 where
  pub url : (text : List ℕ) → list_all (λ c. not (breaks_quotes 0x22 c)) text ≡ true → url_read (url_text text) ≡ Some text
  pub settles : (raw : List ℕ) (uri : PlainUri) → IsUtf8 raw → uri_of raw ≡ Some uri → uri_of (uri_text uri) ≡ Some uri
  pub canonical : (raw : List ℕ) (uri : PlainUri) → uri_of raw ≡ Some uri → list_all is_canonical_byte (uri_text uri) ≡ true

-- characters are encoded as text
pub scalars_all : (cs : List ℕ) → list_all scalar cs ≡ true → scalars cs ≡ true
scalars_all [] all = refl
scalars_all (c ∷ cs) all = let both = and_parts (scalar c) (list_all scalar cs) all in and_from _ _ both.0 (scalars_all cs both.1)

pub all_scalars : (cs : List ℕ) → scalars cs ≡ true → list_all scalar cs ≡ true
all_scalars [] all = refl
all_scalars (c ∷ cs) all = let both = and_parts (scalar c) (scalars cs) all in and_from _ _ both.0 (all_scalars cs both.1)

pub encoded : (cs : List ℕ) → list_all scalar cs ≡ true → IsUtf8 (encode_utf8_all cs)
encoded cs all = (cs, (scalars_all cs all, refl))

-- ---- the form

byte-whole : (b : ℕ) → is_canonical_byte b ≡ true → not (breaks_quotes 0x22 b) ≡ true
unfolding is_canonical_byte stays_in_query stays_in_path
byte-whole b is = grind (arith, nat_tests)

-- a `url()` is no word of a set
pub url_no_keyword : (keywords : Keywords) → list_all (λ w. not (slice_index w 0 == 0x75)) (words_in keywords) ≡ true → (text : List ℕ) → keyword_read keywords (url_text text) ≡ None
unfolding keyword_read
url_no_keyword keywords none text =
    let low = str_to_ascii_lowercase (url_text text) in
    ⊎_elim
    (λ (one : is_one_of (words_in keywords) low ≡ true).
    let bad : not true ≡ true = all-named (λ w. not (slice_index w 0 == 0x75)) (words_in keywords) low none one in
    absurd cc)
    (λ (other : is_one_of (words_in keywords) low ≡ false). cond-false _ _ _ other)
    (cases_Bool (is_one_of (words_in keywords) low))

-- what is read is `none`, or the text of a URI in `url()`, which is embedded again
pub record IsUrl (rules : Rules) (rule : PlainHostRule) (out : List ℕ) : Type 0 where
  pub uri : PlainUri
  pub canonical : list_all is_canonical_byte (uri_text uri) ≡ true
  pub written : url_text (uri_text uri) ≡ out
  pub again : embedded rules rule (uri_text uri) ≡ Some out

module _ (laws : UrlLaws) (rules : Rules) (rule : PlainHostRule) where
  url_found : (inner out : List ℕ) → list_all scalar inner ≡ true → embedded rules rule inner ≡ Some out → IsUrl rules rule out
  url_found inner out all e =
      let is = embedded-is rules rule inner out e in
      let text = uri_text is.uri in
      let bytes = laws.canonical (encode_utf8_all inner) is.uri is.read in
      let settled = laws.settles (encode_utf8_all inner) is.uri (encoded inner all) is.read in
      let same = encodes_ascii text (canonical-ascii text bytes) in
      record {
        uri = is.uri;
        canonical = bytes;
        written = is.written;
        again = embedded-from rules rule text out (record { uri = is.uri; read = ap uri_of same ∙ settled; fit = is.fit; written = is.written });
      }

  url_again : (out : List ℕ) → IsUrl rules rule out → image_read rules rule out ≡ Some out
  unfolding image_read
  url_again out is =
      let text = uri_text is.uri in
      let whole = all-weaker is_canonical_byte (λ c. not (breaks_quotes 0x22 c)) byte-whole text is.canonical in
      ap (image_read rules rule) (sym is.written)
      ∙ ap (λ o. option_or o (option_and_then (embedded rules rule) (url_read (url_text text)))) (url_no_keyword NoneAlone refl text)
      ∙ ap (option_and_then (embedded rules rule)) (laws.url text whole)
      ∙ is.again

  none_again : (out : List ℕ) → is_one_of (words_in NoneAlone) out ≡ true → image_read rules rule out ≡ Some out
  unfolding image_read
  none_again out one = ap (λ o. option_or o (option_and_then (embedded rules rule) (url_read out))) (keyword-again NoneAlone out one)

  -- the same of a text's characters, and for a test of what is read
  pub image-is : {P : Type 0} (raw out : List ℕ) → IsUtf8 raw → image_read rules rule (chars raw) ≡ Some out
      → (is_one_of (words_in NoneAlone) out ≡ true → P) → (IsUrl rules rule out → P) → P
  unfolding image_read
  image-is raw out is e word url =
      or_either (keyword_read NoneAlone (chars raw)) (option_and_then (embedded rules rule) (url_read (chars raw))) out e
      (λ here. word (keyword-out NoneAlone (chars raw) out here))
      (λ behind. option_and_then_some (embedded rules rule) (url_read (chars raw)) out behind
      (λ inner found more. url (url_found inner out (url-inner (λ text. list_all scalar text ≡ true) (all-inherited scalar) (chars raw) inner (all_scalars (chars raw) (scalars-chars raw is)) found) more)))

  pub image-again : (raw out : List ℕ) → IsUtf8 raw → image_read rules rule (chars raw) ≡ Some out → image_read rules rule out ≡ Some out
  image-again raw out is e = image-is raw out is e (none_again out) (url_again out)
