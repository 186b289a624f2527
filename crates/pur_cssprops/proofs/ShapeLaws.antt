-- What a value is read as can stand in a style: it stays whole, and has no white space at its ends, no backslash and no comment.
use Rattle.std.proofs.Common.{◌≡◌, ℕ, suc, ◌<◌, ◌≤◌, Bool, true, false, not, List, [], ◌∷◌, ◌++◌, length, Some, refl, ap, subst, ◌∙◌, arith, encode_utf8, encode_utf8_all, ⊎_elim}
use Rattle.std.specs.Prelude.{◌==◌, ◌&&◌, ◌||◌, slice_index, nat_le}
use Rattle.std.specs.List.{list_all, join_with_byte}
use Rattle.std.specs.Option.{option_and_then}
use Rattle.std.proofs.lemmas.Bool.{and_parts, and_from, eqb-true, cases_lt}
use Rattle.std.proofs.lemmas.Bool.Decides.{nat_tests}
use Rattle.std.proofs.lemmas.Option.{option_and_then_some}
use Rattle.std.proofs.lemmas.Str.{encode_ascii}
use Rattle.pur_laws.proofs.Lists.{all-append, all-weaker}
use Rattle.pur_laws.proofs.Sequences.{are_high, high_bytes, some_bytes}
use Rattle.pur_laws.proofs.Tests.{kept}
use Rattle.pur_text.specs.Characters.{is_between}
use Rattle.pur_settings.specs.Rules.{Rules}
use Rattle.pur_csstok.specs.Atoms.{is_atom}
use Rattle.pur_csstok.specs.Declarations.{IsCleanValue, has_escape_or_comment, words_of}
use Rattle.pur_csstok.specs.Families.{families_read}
use Rattle.pur_csstok.specs.Urls.{url_read, url_text}
use Rattle.pur_uri.specs.Escapes.{stays_in_query, stays_in_path}
use Rattle.pur_uri.specs.Laws.{is_canonical_byte, has_comment}
use Rattle.pur_uri.specs.Splitting.{is_kept}
use Rattle.pur_uri.specs.Uris.{PlainUri, uri_of, uri_text}
use Rattle.pur_uripolicy.specs.HostRules.{PlainHostRule}
use Rattle.pur_cssprops.specs.Forms.{readings, spaced, words_read, are_each_once, ordered_read, embedded, image_read, form_read, value_read}
use Rattle.pur_cssprops.specs.Keywords.{keyword_read}
use Rattle.pur_cssprops.specs.declared.forms.ValueForm.{ValueForm}
use Rattle.pur_cssprops.specs.declared.forms.ValueForm.TheVariants.{Word, Image, Families, Words, Border, Decoration}
use Rattle.pur_cssprops.specs.declared.forms.WordForm.{WordForm}
use Rattle.pur_cssprops.specs.declared.forms.WordForm.TheVariants.{Color, Keyword, Length}
use Rattle.pur_cssprops.specs.declared.keywords.Keywords.{Keywords}
use Rattle.pur_cssprops.specs.declared.keywords.Keywords.TheVariants.{Inherit, NoneAlone, LineWidth, LineStyle, Underline, Overline, LineThrough}
use Rattle.pur_cssprops.proofs.EmbeddedLemmas.{embedded-is}
use Rattle.pur_cssprops.proofs.InnerLaws.{IsPlain, or_parts, and_weaker, or_both, plain-inherited, url-found}
use Rattle.pur_cssprops.proofs.KeywordLemmas.{keyword-atom}
use Rattle.pur_cssprops.proofs.SequenceLaws.{readings-atoms, all_atoms}
use Rattle.pur_cssprops.proofs.WordLaws.{AtomLaws, keyword-out, or_either, word-fixed}

-- ---- no comment in what a URI writes

-- bytes past ASCII begin no comment
high_front : (bytes rest : List ℕ) → are_high bytes → has_comment rest ≡ false → has_comment (bytes ++ rest) ≡ false
unfolding has_comment
high_front [] rest high none = none
high_front (b ∷ bytes) rest high none =
    let first : 128 ≤ b = high 0 (omega arith) in
    let slash : (b == 0x2F) ≡ false = grind (arith, nat_tests) in
    ap (λ s. (s && slice_index (bytes ++ rest) 0 == 0x2A) || has_comment (bytes ++ rest)) slash
    ∙ high_front bytes rest (λ k within. high (suc k) (omega (arith, within))) none

no_star : (text : List ℕ) → (slice_index text 0 == 0x2A) ≡ false → (slice_index (encode_utf8_all text) 0 == 0x2A) ≡ false
no_star [] none = refl
no_star (c ∷ text) none =
    ⊎_elim
    (λ (low : c < 128). ap (λ t. slice_index (t ++ encode_utf8_all text) 0 == 0x2A) (encode_ascii c low) ∙ none)
    (λ (high : 128 ≤ c). go (encode_utf8 c) (some_bytes c) (high_bytes c high))
    (cases_lt c 128) where
      go : (bytes : List ℕ) → 0 < length bytes → are_high bytes → (slice_index (bytes ++ encode_utf8_all text) 0 == 0x2A) ≡ false
      go [] some high = absurd (omega (arith, some))
      go (b ∷ bytes) some high = let first : 128 ≤ b = high 0 (omega arith) in grind (arith, nat_tests)

-- a text that is plain has no comment in its bytes
comment_bytes : (text : List ℕ) → IsPlain text → has_comment (encode_utf8_all text) ≡ false
unfolding has_comment has_escape_or_comment
comment_bytes [] plain = refl
comment_bytes (c ∷ text) plain =
    let later = or_parts (c == 0x5C || (c == 0x2F && slice_index text 0 == 0x2A)) (has_escape_or_comment text) plain in
    let here = or_parts (c == 0x5C) (c == 0x2F && slice_index text 0 == 0x2A) later.0 in
    let rest = comment_bytes text later.1 in
    ⊎_elim
    (λ (low : c < 128).
    ap (λ t. has_comment (t ++ encode_utf8_all text)) (encode_ascii c low)
    ∙ ap (λ b. b || has_comment (encode_utf8_all text)) (and_weaker (c == 0x2F) (slice_index text 0 == 0x2A) (slice_index (encode_utf8_all text) 0 == 0x2A) (no_star text) here.1)
    ∙ rest)
    (λ (high : 128 ≤ c). high_front (encode_utf8 c) (encode_utf8_all text) (high_bytes c high) rest)
    (cases_lt c 128)

-- tabs and line feeds are ASCII
kept_high : (bytes : List ℕ) → are_high bytes → list_all is_kept bytes ≡ true
kept_high [] high = refl
kept_high (b ∷ bytes) high =
    let first : 128 ≤ b = high 0 (omega arith) in
    let is : is_kept b ≡ true = grind (arith, nat_tests) in
    and_from _ _ is (kept_high bytes (λ k within. high (suc k) (omega (arith, within))))

kept_bytes : (text : List ℕ) → list_all is_kept text ≡ true → list_all is_kept (encode_utf8_all text) ≡ true
kept_bytes [] all = refl
kept_bytes (c ∷ text) all =
    let both = and_parts (is_kept c) (list_all is_kept text) all in
    let rest = kept_bytes text both.1 in
    ⊎_elim
    (λ (low : c < 128). ap (λ t. list_all is_kept (t ++ encode_utf8_all text)) (encode_ascii c low) ∙ and_from _ _ both.0 rest)
    (λ (high : 128 ≤ c). all-append is_kept (encode_utf8 c) (encode_utf8_all text) (kept_high (encode_utf8 c) (high_bytes c high)) rest)
    (cases_lt c 128)

no_backslash : (b : ℕ) → is_canonical_byte b ≡ true → (b == 0x5C) ≡ false
unfolding is_canonical_byte stays_in_query stays_in_path
no_backslash b is = grind (arith, nat_tests)

no_quote : (b : ℕ) → is_canonical_byte b ≡ true → not (b == 0x22) ≡ true
unfolding is_canonical_byte stays_in_query stays_in_path
no_quote b is = grind (arith, nat_tests)

plain_text : (text : List ℕ) → list_all is_canonical_byte text ≡ true → has_comment text ≡ false → IsPlain text
unfolding has_comment has_escape_or_comment
plain_text [] all none = refl
plain_text (b ∷ text) all none =
    let both = and_parts (is_canonical_byte b) (list_all is_canonical_byte text) all in
    let parts = or_parts (b == 0x2F && slice_index text 0 == 0x2A) (has_comment text) none in
    or_both (b == 0x5C) (b == 0x2F && slice_index text 0 == 0x2A) (has_escape_or_comment text) (no_backslash b both.0) parts.0 (plain_text text both.1 parts.1)

-- ---- the forms

-- the laws of clean values that the forms stand on
pub record CleanLaws : Type 0 where
  pub atoms : (word : List ℕ) (words : List (List ℕ)) → list_all is_atom (word ∷ words) ≡ true → IsCleanValue (join_with_byte 0x20 (word ∷ words))
  pub families : (text output : List ℕ) → families_read text ≡ Some output → IsCleanValue output
  pub urls : (text : List ℕ) → list_all (λ c. not (c == 0x22)) text ≡ true → has_escape_or_comment text ≡ false → IsCleanValue (url_text text)
  pub canonical : (raw : List ℕ) (uri : PlainUri) → uri_of raw ≡ Some uri → list_all is_canonical_byte (uri_text uri) ≡ true
  pub comment : (raw : List ℕ) (uri : PlainUri) → uri_of raw ≡ Some uri → list_all is_kept raw ≡ true → has_comment raw ≡ false → has_comment (uri_text uri) ≡ false

module _ (laws : AtomLaws) (clean : CleanLaws) where
  atom_clean : (out : List ℕ) → is_atom out ≡ true → IsCleanValue out
  atom_clean out is = clean.atoms out [] (and_from _ _ is refl)

  keyword_clean : (keywords : Keywords) (text out : List ℕ) → keyword_read keywords text ≡ Some out → IsCleanValue out
  keyword_clean keywords text out e = atom_clean out (keyword-atom keywords out (keyword-out keywords text out e))

  spaced_clean : (words : List (List ℕ)) (out : List ℕ) → (length words == 0) ≡ false → list_all is_atom words ≡ true → spaced words ≡ out → IsCleanValue out
  spaced_clean [] out some all is = absurd cc
  spaced_clean (word ∷ words) out some all is = subst IsCleanValue is (clean.atoms word words all)

  words_clean : (form : WordForm) (text out : List ℕ) → words_read form text ≡ Some out → IsCleanValue out
  unfolding words_read
  words_clean form text out e =
      let words = words_of text in
      let values = readings form words in
      let is = kept (is_between 1 4 (length words) && length values == length words) (spaced values) out e in
      let both = and_parts (is_between 1 4 (length words)) (length values == length words) is.0 in
      let same : length values ≡ length words = eqb-true _ _ both.1 in
      let least : nat_le 1 (length words) ≡ true = (and_parts (nat_le 1 (length words)) (nat_le (length words) 4) both.0).0 in
      let some : (length values == 0) ≡ false = ap (λ n. n == 0) same ∙ positive (length words) least in
      spaced_clean values out some (readings-atoms laws form words) is.1 where
        positive : (n : ℕ) → nat_le 1 n ≡ true → (n == 0) ≡ false
        positive n least = grind (arith, nat_tests)

  ordered_clean : (first second third : WordForm) (text out : List ℕ) → ordered_read first second third text ≡ Some out → IsCleanValue out
  unfolding ordered_read
  ordered_clean first second third text out e =
      let words = words_of text in
      let a = readings first words in
      let b = readings second words in
      let c = readings third words in
      let values = a ++ (b ++ c) in
      let is = kept (not (length words == 0) && are_each_once (length words) a b c) (spaced values) out e in
      let both = and_parts (not (length words == 0)) (are_each_once (length words) a b c) is.0 in
      let same : length values ≡ length words = eqb-true _ _ (and_parts _ (length values == length words) both.1).1 in
      spaced_clean values out (ap (λ n. n == 0) same ∙ not-is (length words == 0) both.0) (all_atoms laws first second third words) is.1 where
        not-is : (b : Bool) → not b ≡ true → b ≡ false
        not-is false is = refl
        not-is true is = absurd cc

  module _ (rules : Rules) (rule : PlainHostRule) where
    url_clean : (inner out : List ℕ) → IsPlain inner → list_all is_kept inner ≡ true → embedded rules rule inner ≡ Some out → IsCleanValue out
    url_clean inner out plain whole e =
        let is = embedded-is rules rule inner out e in
        let raw = encode_utf8_all inner in
        let text = uri_text is.uri in
        let bytes = clean.canonical raw is.uri is.read in
        let none = clean.comment raw is.uri is.read (kept_bytes inner whole) (comment_bytes inner plain) in
        subst IsCleanValue is.written
        (clean.urls text (all-weaker is_canonical_byte (λ c. not (c == 0x22)) no_quote text bytes) (plain_text text bytes none))

    image_clean : (text out : List ℕ) → IsPlain text → image_read rules rule text ≡ Some out → IsCleanValue out
    unfolding image_read
    image_clean text out plain e =
        or_either (keyword_read NoneAlone text) (option_and_then (embedded rules rule) (url_read text)) out e
        (keyword_clean NoneAlone text out)
        (λ behind. option_and_then_some (embedded rules rule) (url_read text) out behind
        (λ inner found more. let parts = url-found IsPlain plain-inherited text inner plain found in url_clean inner out parts.0 parts.1 more))

    form_clean : (form : ValueForm) (text out : List ℕ) → IsPlain text → form_read rules rule form text ≡ Some out → IsCleanValue out
    unfolding form_read
    form_clean (Word form) text out plain e = atom_clean out (word-fixed laws form text out e).atom
    form_clean Image text out plain e = image_clean text out plain e
    form_clean Families text out plain e = clean.families text out e
    form_clean (Words form) text out plain e = words_clean form text out e
    form_clean Border text out plain e = ordered_clean (Length false false LineWidth) (Keyword LineStyle) (Color false) text out e
    form_clean Decoration text out plain e =
        or_either (keyword_read NoneAlone text) (ordered_read (Keyword Underline) (Keyword Overline) (Keyword LineThrough) text) out e
        (keyword_clean NoneAlone text out)
        (ordered_clean (Keyword Underline) (Keyword Overline) (Keyword LineThrough) text out)

    -- what a plain value is read as can stand in a style
    pub value-clean : (form : ValueForm) (text out : List ℕ) → IsPlain text → value_read rules rule form text ≡ Some out → IsCleanValue out
    unfolding value_read
    value-clean form text out plain e =
        or_either (keyword_read Inherit text) (form_read rules rule form text) out e (keyword_clean Inherit text out) (form_clean form text out plain)
