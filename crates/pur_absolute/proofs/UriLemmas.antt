-- A value that is its own reading, and the URI in it made absolute.
use Rattle.std.proofs.Common.{◌≡◌, ◌∙◌, ℕ, Bool, true, List, Option, Some, None, refl, ap, sym, subst, encode_utf8_all}
use Rattle.std.specs.Prelude.{is_some, ◌&&◌, false}
use Rattle.std.specs.List.{list_all}
use Rattle.std.specs.Option.{option_and_then, option_map, option_map_or}
use Rattle.std.proofs.lemmas.Bool.{and_from, and_parts, cond-true}
use Rattle.std.proofs.lemmas.Option.{option_and_then_some, same_Some}
use Rattle.pur_laws.proofs.Tests.{kept}
use Rattle.pur_laws.proofs.Texts.{encodes_ascii}
use Rattle.pur_names.specs.declared.schemes.SchemeName.{SchemeName}
use Rattle.pur_settings.specs.Rules.{Rules}
use Rattle.pur_uri.specs.Laws.{is_canonical_byte}
use Rattle.pur_uri.specs.Uris.{PlainUri, IsCanonical, uri_of, uri_text}
use Rattle.pur_uripolicy.specs.Admissible.{fits, is_fit, is_permitted, uri_under, where_fit}
use Rattle.pur_uripolicy.specs.HostRules.{PlainHostRule, admits}
use Rattle.pur_uripolicy.specs.declared.uses.UriUse.{UriUse}
use Rattle.pur_uripolicy.specs.declared.uses.UriUse.TheVariants.{Embed, Link}
use Rattle.pur_resolve.specs.Bases.{IsBase}
use Rattle.pur_resolve.specs.Resolving.{resolved}
use Rattle.pur_absolute.specs.Absolute.{absolute_uri, where_allowed}
use Rattle.pur_absolute.specs.Laws.{IsFitBase, is_absolute_uri}
use Rattle.pur_absolute.proofs.TextLemmas.{canonical-ascii}

-- what was mapped
pub record Mapped {X : Type 0} (f : X → List ℕ) (o : Option X) (y : List ℕ) : Type 0 where
  pub from : X
  pub is : o ≡ Some from
  pub same : f from ≡ y

pub mapped : {X : Type 0} (f : X → List ℕ) (o : Option X) (y : List ℕ) → option_map f o ≡ Some y → Mapped f o y
mapped f None y e = absurd (cc)
mapped f (Some x) y e = record { from = x; is = refl; same = same_Some (f x) y e }

-- the laws of resolving and of texts that all stands on
pub record UriLaws : Type 0 where
  pub scheme : (base uri : PlainUri) → IsBase base → is_some (resolved base uri).scheme ≡ true
  pub again : (base uri : PlainUri) → IsBase base → resolved base (resolved base uri) ≡ resolved base uri
  pub canonical : (base uri : PlainUri) → IsBase base → IsCanonical base → IsCanonical uri → IsCanonical (resolved base uri)
  pub bytes : (raw : List ℕ) (uri : PlainUri) → uri_of raw ≡ Some uri → list_all is_canonical_byte (uri_text uri) ≡ true

-- ---- what is fit

fits-any : (purpose : UriUse) (scheme : Option SchemeName) → fits Embed scheme ≡ true → fits purpose scheme ≡ true
fits-any Embed scheme is = is
fits-any Link None is = refl
fits-any Link (Some scheme) is = refl

module _ (rules : Rules) (rule : PlainHostRule) where
  -- what a fit reference means at a fit base is fit
  fit-parts : (purpose : UriUse) (base : PlainUri) → is_fit rules rule Embed base ≡ true
      → (scheme : Option SchemeName) (host : Option (List ℕ)) (port : Option ℕ) (path : List ℕ) (query fragment : Option (List ℕ))
      → is_fit rules rule purpose (record { scheme = scheme; host = host; port = port; path = path; query = query; fragment = fragment }) ≡ true
      → is_fit rules rule purpose (resolved base (record { scheme = scheme; host = host; port = port; path = path; query = query; fragment = fragment })) ≡ true
  unfolding is_fit admits resolved
  fit-parts purpose base fit (Some scheme) host port path query fragment is = is
  fit-parts purpose base fit None (Some host) port path query fragment is =
      let of_base = and_parts (is_permitted rules base.scheme && fits Embed base.scheme) (admits rule base) fit in
      let front = and_parts (is_permitted rules base.scheme) (fits Embed base.scheme) of_base.0 in
      let own : PlainUri = record { scheme = None; host = Some host; port = port; path = path; query = query; fragment = fragment } in
      and_from _ _ (and_from _ _ front.0 (fits-any purpose base.scheme front.1)) (and_parts (is_permitted rules None && fits purpose None) (admits rule own) is).1
  fit-parts purpose base fit None None port path query fragment is =
      let of_base = and_parts (is_permitted rules base.scheme && fits Embed base.scheme) (admits rule base) fit in
      let front = and_parts (is_permitted rules base.scheme) (fits Embed base.scheme) of_base.0 in
      and_from _ _ (and_from _ _ front.0 (fits-any purpose base.scheme front.1)) of_base.1

  pub fit-resolved : (purpose : UriUse) (base uri : PlainUri) → is_fit rules rule Embed base ≡ true → is_fit rules rule purpose uri ≡ true
      → is_fit rules rule purpose (resolved base uri) ≡ true
  fit-resolved purpose base uri fit is = fit-parts purpose base fit uri.scheme uri.host uri.port uri.path uri.query uri.fragment is

  -- ---- what is read as itself

  pub record IsWritten (purpose : UriUse) (text : List ℕ) (uri : PlainUri) : Type 0 where
    pub read : uri_of (encode_utf8_all text) ≡ Some uri
    pub fit : is_fit rules rule purpose uri ≡ true
    pub written : uri_text uri ≡ text

  pub under-written : (purpose : UriUse) (text : List ℕ) (uri : PlainUri) → uri_under rules rule purpose text ≡ Some uri → uri_text uri ≡ text → IsWritten purpose text uri
  unfolding uri_under
  under-written purpose text uri is same =
      option_and_then_some (where_fit rules rule purpose) (uri_of (encode_utf8_all text)) uri is
      (λ found read more.
      let both = kept (is_fit rules rule purpose found) found uri more in
      record { read = read ∙ ap Some both.1; fit = subst (λ u. is_fit rules rule purpose u ≡ true) both.1 both.0; written = same })

  pub under-of : (purpose : UriUse) (text : List ℕ) (uri : PlainUri) → uri_of (encode_utf8_all text) ≡ Some uri → is_fit rules rule purpose uri ≡ true
      → uri_under rules rule purpose text ≡ Some uri
  unfolding uri_under
  under-of purpose text uri read fit = ap (option_and_then (where_fit rules rule purpose)) read ∙ cond-true _ _ _ fit

  module _ (laws : UriLaws) (allows : PlainUri → Bool) (base : PlainUri) (fit_base : IsFitBase rules rule base) where
    -- a reading that writes the text is canonical, and what is canonical is read of its text
    pub written-canonical : (text : List ℕ) (uri : PlainUri) → uri_of (encode_utf8_all text) ≡ Some uri → uri_text uri ≡ text → IsCanonical uri
    written-canonical text uri read same =
        let plain = canonical-ascii (uri_text uri) (laws.bytes (encode_utf8_all text) uri read) in
        ap uri_of (sym (encodes_ascii (uri_text uri) plain) ∙ ap encode_utf8_all same) ∙ read

    pub canonical-read : (uri : PlainUri) → IsCanonical uri → uri_of (encode_utf8_all (uri_text uri)) ≡ Some uri
    canonical-read uri is = ap uri_of (encodes_ascii (uri_text uri) (canonical-ascii (uri_text uri) (laws.bytes (uri_text uri) uri is))) ∙ is

    -- a URI in a value, when it is absolute
    pub record IsAbsoluteUri (purpose : UriUse) (meant : PlainUri) : Type 0 where
      pub canonical : IsCanonical meant
      pub read : uri_under rules rule purpose (uri_text meant) ≡ Some meant
      pub absolute : is_absolute_uri allows (uri_text meant) ≡ true
      pub again : absolute_uri allows base (uri_text meant) ≡ Some meant

    meant-absolute : (purpose : UriUse) (text : List ℕ) (uri meant : PlainUri) → IsWritten purpose text uri → allows (resolved base uri) ≡ true → resolved base uri ≡ meant
        → IsAbsoluteUri purpose meant
    unfolding absolute_uri
    meant-absolute purpose text uri meant is allowed same =
        let canonical : IsCanonical meant =
        subst IsCanonical same (laws.canonical base uri fit_base.resolves fit_base.canonical (written-canonical text uri is.read is.written)) in
        let read = canonical-read meant canonical in
        let fit : is_fit rules rule purpose meant ≡ true = subst (λ u. is_fit rules rule purpose u ≡ true) same (fit-resolved purpose base uri fit_base.fit is.fit) in
        let has_scheme : is_some meant.scheme ≡ true = subst (λ u. is_some u.scheme ≡ true) same (laws.scheme base uri fit_base.resolves) in
        let is_allowed : allows meant ≡ true = subst (λ u. allows u ≡ true) same allowed in
        let settled : resolved base meant ≡ meant = ap (resolved base) (sym same) ∙ laws.again base uri fit_base.resolves ∙ same in
        record {
          canonical = canonical;
          read = under-of purpose (uri_text meant) meant read fit;
          absolute = ap (λ o. option_map_or (λ u. is_some u.scheme && allows u) o false) read ∙ and_from _ _ has_scheme is_allowed;
          again = ap (option_and_then (λ u. where_allowed allows (resolved base u))) read ∙ ap (where_allowed allows) settled ∙ cond-true _ _ _ is_allowed;
        }

    pub absolute-uri : (purpose : UriUse) (text : List ℕ) (uri meant : PlainUri) → IsWritten purpose text uri → absolute_uri allows base text ≡ Some meant
        → IsAbsoluteUri purpose meant
    unfolding absolute_uri
    absolute-uri purpose text uri meant is e =
        let both = kept (allows (resolved base uri)) (resolved base uri) meant
        (sym (ap (option_and_then (λ u. where_allowed allows (resolved base u))) is.read) ∙ e) in
        meant-absolute purpose text uri meant is both.0 both.1
