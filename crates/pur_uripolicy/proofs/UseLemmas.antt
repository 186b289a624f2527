-- URIs that may stand in a value: their text has allowed characters alone, and is read as the same URI.
use Rattle.std.proofs.Common.{◌≡◌, ℕ, Bool, true, List, [], ◌∷◌, Option, Some, None, subst, refl, sym, ap, ◌∙◌, arith, IsUtf8, encode_utf8_all}
use Rattle.std.specs.Prelude.{if◌then◌else◌}
use Rattle.std.specs.List.{list_all}
use Rattle.std.specs.Option.{option_and_then}
use Rattle.std.specs.Str.{chars}
use Rattle.std.proofs.lemmas.Bool.{cond-true, and_parts, and_from}
use Rattle.std.proofs.lemmas.Bool.Decides.{nat_tests}
use Rattle.std.proofs.lemmas.Option.{option_and_then_some}
use Rattle.std.proofs.lemmas.Str.{encodes-chars}
use lib.Utf8.{scalar, scalars}
use Rattle.pur_laws.proofs.Lists.{all-weaker}
use Rattle.pur_laws.proofs.Tests.{kept}
use Rattle.pur_laws.proofs.Texts.{is_ascii, encodes_ascii}
use Rattle.pur_text.specs.Characters.{is_allowed}
use Rattle.pur_settings.specs.Rules.{Rules}
use Rattle.pur_uri.specs.Escapes.{stays_in_query, stays_in_path}
use Rattle.pur_uri.specs.Laws.{is_canonical_byte}
use Rattle.pur_uri.specs.Uris.{PlainUri, uri_of, uri_text}
use Rattle.pur_uripolicy.specs.Admissible.{is_fit, where_fit, uri_under}
use Rattle.pur_uripolicy.specs.HostRules.{PlainHostRule}
use Rattle.pur_uripolicy.specs.declared.uses.UriUse.{UriUse}
use Rattle.pur_uripolicy.specs.Laws.{ReadAgain, UrisAreAllowed}

-- ---- characters

-- an allowed character is a character, and so are those of a text
allowed-scalar : (c : ℕ) → is_allowed c ≡ true → scalar c ≡ true
allowed-scalar c is = grind (arith, nat_tests)

allowed-scalars : (text : List ℕ) → list_all is_allowed text ≡ true → scalars text ≡ true
allowed-scalars [] all = refl
allowed-scalars (c ∷ text) all =
    let both = and_parts (is_allowed c) (list_all is_allowed text) all in
    and_from _ _ (allowed-scalar c both.0) (allowed-scalars text both.1)

encoded-allowed : (text : List ℕ) → list_all is_allowed text ≡ true → IsUtf8 (encode_utf8_all text)
encoded-allowed text all = (text, (allowed-scalars text all, refl))

-- a canonical byte is an allowed character, and one in ASCII
byte-allowed : (b : ℕ) → is_canonical_byte b ≡ true → is_allowed b ≡ true
unfolding is_canonical_byte stays_in_query stays_in_path
byte-allowed b is = grind (arith, nat_tests)

byte-ascii : (b : ℕ) → is_canonical_byte b ≡ true → is_ascii b ≡ true
unfolding is_canonical_byte stays_in_query stays_in_path
byte-ascii b is = grind (arith, nat_tests)

-- ---- what is fit

pub record IsFitReading (rules : Rules) (rule : PlainHostRule) (purpose : UriUse) (raw : List ℕ) (uri : PlainUri) : Type 0 where
  pub read : uri_of (encode_utf8_all raw) ≡ Some uri
  pub fit : is_fit rules rule purpose uri ≡ true

module _ (rules : Rules) (rule : PlainHostRule) (purpose : UriUse) where
  under-is : (raw : List ℕ) (uri : PlainUri) → uri_under rules rule purpose raw ≡ Some uri → IsFitReading rules rule purpose raw uri
  unfolding uri_under
  under-is raw uri e =
      option_and_then_some (where_fit rules rule purpose) (uri_of (encode_utf8_all raw)) uri e
      (λ found is more.
      let both = kept (is_fit rules rule purpose found) found uri more in
      record { read = is ∙ ap Some both.1; fit = subst (λ u. is_fit rules rule purpose u ≡ true) both.1 both.0 })

  under-from : (raw : List ℕ) (uri : PlainUri) → IsFitReading rules rule purpose raw uri → uri_under rules rule purpose raw ≡ Some uri
  unfolding uri_under
  under-from raw uri is = ap (option_and_then (where_fit rules rule purpose)) is.read ∙ cond-true _ _ _ is.fit

-- ---- the laws

-- the laws of URIs that they stand on
pub record UriLaws : Type 0 where
  pub settles : (raw : List ℕ) (uri : PlainUri) → IsUtf8 raw → uri_of raw ≡ Some uri → uri_of (uri_text uri) ≡ Some uri
  pub canonical : (raw : List ℕ) (uri : PlainUri) → uri_of raw ≡ Some uri → list_all is_canonical_byte (uri_text uri) ≡ true

pub read-again : UriLaws → ReadAgain
read-again laws rules rule purpose raw uri all e =
    let is = under-is rules rule purpose raw uri e in
    let text = uri_text uri in
    let bytes = laws.canonical (encode_utf8_all raw) uri is.read in
    let same = encodes_ascii text (all-weaker is_canonical_byte is_ascii byte-ascii text bytes) in
    under-from rules rule purpose text uri
    (record { read = ap uri_of same ∙ laws.settles (encode_utf8_all raw) uri (encoded-allowed raw all) is.read; fit = is.fit })

pub uris-allowed : ((raw : List ℕ) (uri : PlainUri) → uri_of raw ≡ Some uri → list_all is_canonical_byte (uri_text uri) ≡ true) → UrisAreAllowed
uris-allowed canonical rules rule purpose raw uri e =
    let is = under-is rules rule purpose raw uri e in
    record { text = all-weaker is_canonical_byte is_allowed byte-allowed (uri_text uri) (canonical (encode_utf8_all raw) uri is.read) }

-- ---- reading

-- the reading of a text's bytes decides
pub under-found : (rules : Rules) (rule : PlainHostRule) (purpose : UriUse) (raw : List ℕ) (found : Option PlainUri) → IsUtf8 raw → found ≡ uri_of raw
    → option_and_then (where_fit rules rule purpose) found ≡ uri_under rules rule purpose (chars raw)
unfolding uri_under
under-found rules rule purpose raw found is read =
    ap (option_and_then (where_fit rules rule purpose)) (read ∙ ap uri_of (sym (encodes-chars raw is)))

-- a URI that is fit is kept, and another isn't
pub fit-kept : (rules : Rules) (rule : PlainHostRule) (purpose : UriUse) (uri : PlainUri) (fit : Bool) → fit ≡ is_fit rules rule purpose uri
    → (if fit then Some uri else None) ≡ where_fit rules rule purpose uri
fit-kept rules rule purpose uri fit is = ap (λ b. if b then Some uri else None) is
