-- What a style is read as has allowed characters alone, and all of them are in ASCII.
use Rattle.std.proofs.Common.{◌≡◌, ℕ, Bool, true, false, not, cond, filter, List, [], ◌∷◌, ◌++◌, length, map, Option, Some, None, refl, sym, ap, ◌∙◌, arith, encode_utf8_all, ⊎_elim}
use Rattle.std.specs.Prelude.{◌==◌, ◌&&◌}
use Rattle.std.specs.List.{list_all, filter_map, cons_option, onto_first, join_with_byte}
use Rattle.std.specs.Option.{option_and_then, option_map_or}
use Rattle.std.specs.Str.{str_to_ascii_lowercase}
use Rattle.std.proofs.lemmas.Bool.{cases_Bool, cond-true, cond-false, and_parts, and_from}
use Rattle.std.proofs.lemmas.Bool.Decides.{nat_tests}
use Rattle.std.proofs.lemmas.Option.{option_and_then_some, same_Some}
use Rattle.pur_laws.proofs.Lists.{all-append, all-filter, all-weaker}
use Rattle.pur_laws.proofs.Tests.{kept, all-named}
use Rattle.pur_names.specs.Properties.{prop_name}
use Rattle.pur_settings.specs.Rules.{Rules}
use Rattle.pur_text.specs.Characters.{is_allowed, is_between, is_space}
use Rattle.pur_text.specs.Trimming.{trimmed}
use Rattle.pur_csstok.specs.Atoms.{is_atom_character, is_atom}
use Rattle.pur_csstok.specs.Cuts.{nothing_open, is_cut, is_quote, open_after, heeds_parentheses, pieces_from}
use Rattle.pur_csstok.specs.Declarations.{Pair, is_property_character, is_word, words_of, declaration_body, declarations_of, style_text}
use Rattle.pur_csstok.specs.Families.{is_name_character, quoted, name_read, generics, bare_read, unquoted, family_read, families_kept, families_read}
use Rattle.pur_csstok.specs.Names.{is_one_of}
use Rattle.pur_csstok.specs.Urls.{url_read, url_text}
use Rattle.pur_uri.specs.Escapes.{stays_in_query, stays_in_path}
use Rattle.pur_uri.specs.Laws.{is_canonical_byte}
use Rattle.pur_uri.specs.Uris.{PlainUri, uri_of, uri_text}
use Rattle.pur_uripolicy.specs.HostRules.{PlainHostRule}
use Rattle.pur_cssprops.specs.Forms.{readings, spaced, words_read, are_each_once, ordered_read, embedded, image_read, form_read, value_read}
use Rattle.pur_cssprops.specs.Keywords.{keyword_read}
use Rattle.pur_cssprops.specs.Laws.{StyleAllowed, is_style_character}
use Rattle.pur_cssprops.specs.Properties.{form_of}
use Rattle.pur_cssprops.specs.Styles.{Kept, declaration_kept, each_once, style_read}
use Rattle.pur_cssprops.specs.declared.forms.ValueForm.{ValueForm}
use Rattle.pur_cssprops.specs.declared.forms.ValueForm.TheVariants.{Word, Image, Families, Words, Border, Decoration}
use Rattle.pur_cssprops.specs.declared.forms.WordForm.{WordForm}
use Rattle.pur_cssprops.specs.declared.forms.WordForm.TheVariants.{Color, Keyword, Length}
use Rattle.pur_cssprops.specs.declared.keywords.Keywords.{Keywords}
use Rattle.pur_cssprops.specs.declared.keywords.Keywords.TheVariants.{Inherit, NoneAlone, LineWidth, LineStyle, Underline, Overline, LineThrough}
use Rattle.pur_cssprops.proofs.EmbeddedLemmas.{embedded-is}
use Rattle.pur_cssprops.proofs.KeptLemmas.{named_chars, Every, once-every, written-is}
use Rattle.pur_cssprops.proofs.KeywordLemmas.{keyword-atom}
use Rattle.pur_cssprops.proofs.PropertyLemmas.{names_clean}
use Rattle.pur_cssprops.proofs.SequenceLaws.{is_value_character, spaced_value, readings-atoms, all_atoms}
use Rattle.pur_cssprops.proofs.StyleLaws.{kept-of}
use Rattle.pur_cssprops.proofs.WordLaws.{AtomLaws, keyword-out, or_either, word-fixed}

-- ---- printable characters

-- a character of ASCII that is seen, or a space
abbrev is_printable : ℕ → Bool
is_printable c = is_style_character c

abbrev are_printable : List ℕ → Bool
are_printable text = list_all is_printable text

printable_allowed : (c : ℕ) → is_printable c ≡ true → is_allowed c ≡ true
printable_allowed c is = grind (arith, nat_tests)

value_printable : (c : ℕ) → is_value_character c ≡ true → is_printable c ≡ true
value_printable c is = grind (arith, nat_tests)

atom_printable : (c : ℕ) → is_atom_character c ≡ true → is_printable c ≡ true
atom_printable c is = grind (arith, nat_tests)

property_printable : (c : ℕ) → is_property_character c ≡ true → is_printable c ≡ true
property_printable c is = grind (arith, nat_tests)

name_printable : (c : ℕ) → is_name_character c ≡ true → is_space c ≡ false → is_printable c ≡ true
name_printable c is seen = grind (arith, nat_tests)

name_opens : (c : ℕ) → is_name_character c ≡ true → (is_quote c ≡ false) × ((c == 0x28) ≡ false) × ((c == 0x29) ≡ false)
name_opens c is = (grind (arith, nat_tests), grind (arith, nat_tests), grind (arith, nat_tests))

byte_printable : (b : ℕ) → is_canonical_byte b ≡ true → is_printable b ≡ true
unfolding is_canonical_byte stays_in_query stays_in_path
byte_printable b is = grind (arith, nat_tests)

-- printable texts with a printable character between each two
joined_printable : (c : ℕ) → is_printable c ≡ true → (texts : List (List ℕ)) → list_all are_printable texts ≡ true → are_printable (join_with_byte c texts) ≡ true
joined_printable c is [] all = refl
joined_printable c is (text ∷ []) all = (and_parts (are_printable text) true all).0
joined_printable c is (text ∷ next ∷ texts) all =
    let both = and_parts (are_printable text) (list_all are_printable (next ∷ texts)) all in
    all-append is_printable text (c ∷ join_with_byte c (next ∷ texts)) both.0 (and_from _ _ is (joined_printable c is (next ∷ texts) both.1))

-- ---- families

onto_printable : (c : ℕ) (parts : List (List ℕ)) → is_printable c ≡ true → list_all are_printable parts ≡ true → list_all are_printable (onto_first c parts) ≡ true
onto_printable c [] is all = and_from _ _ (and_from _ _ is refl) refl
onto_printable c (part ∷ parts) is all =
    let both = and_parts (are_printable part) (list_all are_printable parts) all in
    and_from _ _ (and_from _ _ is both.0) both.1

-- a character of a name opens nothing
name_stays : (c : ℕ) → is_name_character c ≡ true → open_after true nothing_open c ≡ nothing_open
name_stays c is = let opens = name_opens c is in rw (opens.0, opens.1, opens.2) refl

-- the pieces of a name between white space
name_pieces : (separator : _) → ((c : ℕ) → is_cut separator nothing_open c ≡ is_space c) → heeds_parentheses separator ≡ true
    → (text : List ℕ) → list_all is_name_character text ≡ true → list_all are_printable (pieces_from separator nothing_open text) ≡ true
unfolding pieces_from
name_pieces separator cuts heeds [] all = refl
name_pieces separator cuts heeds (c ∷ text) all =
    let both = and_parts (is_name_character c) (list_all is_name_character text) all in
    go (is_cut separator nothing_open c) refl both.0 (name_pieces separator cuts heeds text both.1) where
      go : (b : Bool) → is_cut separator nothing_open c ≡ b → is_name_character c ≡ true → list_all are_printable (pieces_from separator nothing_open text) ≡ true
          → list_all are_printable (cond b ([] ∷ pieces_from separator nothing_open text) (onto_first c (pieces_from separator (open_after (heeds_parentheses separator) nothing_open c) text))) ≡ true
      go true cut is later = later
      go false cut is later =
          let stays : open_after (heeds_parentheses separator) nothing_open c ≡ nothing_open = ap (λ h. open_after h nothing_open c) heeds ∙ name_stays c is in
          onto_printable c (pieces_from separator (open_after (heeds_parentheses separator) nothing_open c) text) (name_printable c is (sym (cuts c) ∙ cut))
          (ap (λ n. list_all are_printable (pieces_from separator n text)) stays ∙ later)

words_printable : (separator : _) → ((c : ℕ) → is_cut separator nothing_open c ≡ is_space c) → heeds_parentheses separator ≡ true
    → (text : List ℕ) → list_all is_name_character text ≡ true → list_all are_printable (filter is_word (pieces_from separator nothing_open text)) ≡ true
words_printable separator cuts heeds text all = all-filter are_printable is_word (pieces_from separator nothing_open text) (name_pieces separator cuts heeds text all)

name_words : (name : List ℕ) → list_all is_name_character name ≡ true → list_all are_printable (words_of name) ≡ true
name_words name all = words_printable _ (λ c. refl) refl name all

quoted_printable : (words : List (List ℕ)) → list_all are_printable words ≡ true → are_printable (quoted words) ≡ true
quoted_printable words all = all-append is_printable (join_with_byte 0x20 words) (0x27 ∷ []) (joined_printable 0x20 refl words all) refl

name_out : (name out : List ℕ) → name_read name ≡ Some out → are_printable out ≡ true
unfolding name_read
name_out name out e =
    let is = kept (list_all is_name_character name && not (length (words_of name) == 0)) (quoted (words_of name)) out e in
    let all = (and_parts (list_all is_name_character name) (not (length (words_of name) == 0)) is.0).0 in
    ap are_printable (sym is.1) ∙ quoted_printable (words_of name) (name_words name all)

bare_out : (text out : List ℕ) → bare_read text ≡ Some out → are_printable out ≡ true
unfolding bare_read
bare_out text out e =
    let low = str_to_ascii_lowercase text in
    ⊎_elim
    (λ (one : is_one_of generics low ≡ true).
    ap are_printable (sym (same_Some low out (sym (cond-true _ _ _ one) ∙ e))) ∙ all-named are_printable generics low refl one)
    (λ (other : is_one_of generics low ≡ false). name_out text out (sym (cond-false _ _ _ other) ∙ e))
    (cases_Bool (is_one_of generics low))

family_out : (part out : List ℕ) → family_read part ≡ Some out → are_printable out ≡ true
unfolding family_read
family_out part out e = go (unquoted (trimmed part)) e where
  go : (name : Option (List ℕ)) → option_map_or name_read name (bare_read (trimmed part)) ≡ Some out → are_printable out ≡ true
  go None is = bare_out (trimmed part) out is
  go (Some name) is = name_out name out is

families_out : (parts : List (List ℕ)) → list_all are_printable (filter_map family_read parts) ≡ true
families_out [] = refl
families_out (part ∷ parts) = go (family_read part) refl (families_out parts) where
  go : (found : Option (List ℕ)) → family_read part ≡ found → list_all are_printable (filter_map family_read parts) ≡ true
      → list_all are_printable (cons_option found (filter_map family_read parts)) ≡ true
  go None is later = later
  go (Some out) is later = and_from _ _ (family_out part out is) later

unless_none : (b : Bool) (text out : List ℕ) → cond b None (Some text) ≡ Some out → text ≡ out
unless_none false text out e = same_Some text out e
unless_none true text out e = absurd cc

list_out : (text out : List ℕ) → families_read text ≡ Some out → are_printable out ≡ true
list_out text out e =
    let families = families_kept text in
    ap are_printable (sym (unless_none (length families == 0) (join_with_byte 0x2C families) out e)) ∙ joined_printable 0x2C refl families (families_out _)

-- ---- the forms

url_printable : (text : List ℕ) → list_all is_canonical_byte text ≡ true → are_printable (url_text text) ≡ true
url_printable text all =
    all-append is_printable (text ++ 0x22 ∷ []) (0x29 ∷ []) (all-append is_printable text (0x22 ∷ []) (all-weaker is_canonical_byte is_printable byte_printable text all) refl) refl

atom_out : (out : List ℕ) → is_atom out ≡ true → are_printable out ≡ true
atom_out out is = all-weaker is_atom_character is_printable atom_printable out (and_parts (not (length out == 0)) (list_all is_atom_character out) is).1

keyword_printable : (keywords : Keywords) (text out : List ℕ) → keyword_read keywords text ≡ Some out → are_printable out ≡ true
keyword_printable keywords text out e = atom_out out (keyword-atom keywords out (keyword-out keywords text out e))

spaced_printable : (words : List (List ℕ)) (out : List ℕ) → list_all is_atom words ≡ true → spaced words ≡ out → are_printable out ≡ true
spaced_printable words out all is = ap are_printable (sym is) ∙ all-weaker is_value_character is_printable value_printable (spaced words) (spaced_value words all)

-- a declaration whose value is printable, and a style of such declarations
abbrev IsPrintable : Kept → Type 0
IsPrintable kept = are_printable kept.1 ≡ true

style_printable : (all : List Kept) → Every IsPrintable all → are_printable (style_text (map named_chars all)) ≡ true
style_printable [] every = refl
style_printable (kept ∷ all) every =
    let name = prop_name kept.0 in
    let named : are_printable name ≡ true = all-weaker is_property_character is_printable property_printable name (names_clean kept.0) in
    all-append is_printable (declaration_body (named_chars kept) ++ 0x3B ∷ []) (style_text (map named_chars all))
    (all-append is_printable (declaration_body (named_chars kept)) (0x3B ∷ []) (all-append is_printable name (0x3A ∷ kept.1) named every.0) refl)
    (style_printable all every.1)

module _ (laws : AtomLaws) where
  words_out : (form : WordForm) (text out : List ℕ) → words_read form text ≡ Some out → are_printable out ≡ true
  unfolding words_read
  words_out form text out e =
      let words = words_of text in
      let values = readings form words in
      spaced_printable values out (readings-atoms laws form words)
      (kept (is_between 1 4 (length words) && length values == length words) (spaced values) out e).1

  ordered_printable : (first second third : WordForm) (text out : List ℕ) → ordered_read first second third text ≡ Some out → are_printable out ≡ true
  unfolding ordered_read
  ordered_printable first second third text out e =
      let words = words_of text in
      let a = readings first words in
      let b = readings second words in
      let c = readings third words in
      spaced_printable (a ++ (b ++ c)) out (all_atoms laws first second third words)
      (kept (not (length words == 0) && are_each_once (length words) a b c) (spaced (a ++ (b ++ c))) out e).1

  module _ (canonical : (raw : List ℕ) (uri : PlainUri) → uri_of raw ≡ Some uri → list_all is_canonical_byte (uri_text uri) ≡ true) where
    module _ (rules : Rules) (rule : PlainHostRule) where
      image_printable : (text out : List ℕ) → image_read rules rule text ≡ Some out → are_printable out ≡ true
      unfolding image_read
      image_printable text out e =
          or_either (keyword_read NoneAlone text) (option_and_then (embedded rules rule) (url_read text)) out e
          (keyword_printable NoneAlone text out)
          (λ behind. option_and_then_some (embedded rules rule) (url_read text) out behind
          (λ inner found more.
          let is = embedded-is rules rule inner out more in
          ap are_printable (sym is.written) ∙ url_printable (uri_text is.uri) (canonical (encode_utf8_all inner) is.uri is.read)))

      form_printable : (form : ValueForm) (text out : List ℕ) → form_read rules rule form text ≡ Some out → are_printable out ≡ true
      unfolding form_read
      form_printable (Word form) text out e = atom_out out (word-fixed laws form text out e).atom
      form_printable Image text out e = image_printable text out e
      form_printable Families text out e = list_out text out e
      form_printable (Words form) text out e = words_out form text out e
      form_printable Border text out e = ordered_printable (Length false false LineWidth) (Keyword LineStyle) (Color false) text out e
      form_printable Decoration text out e =
          or_either (keyword_read NoneAlone text) (ordered_read (Keyword Underline) (Keyword Overline) (Keyword LineThrough) text) out e
          (keyword_printable NoneAlone text out)
          (ordered_printable (Keyword Underline) (Keyword Overline) (Keyword LineThrough) text out)

      value_out : (form : ValueForm) (text out : List ℕ) → value_read rules rule form text ≡ Some out → are_printable out ≡ true
      unfolding value_read
      value_out form text out e = or_either (keyword_read Inherit text) (form_read rules rule form text) out e (keyword_printable Inherit text out) (form_printable form text out)

    -- ---- styles

    kept_out : (rules : Rules) (rule : PlainHostRule) (pairs : List Pair) → Every IsPrintable (filter_map (declaration_kept rules rule) pairs)
    kept_out rules rule [] = tt
    kept_out rules rule (pair ∷ pairs) = go (declaration_kept rules rule pair) refl (kept_out rules rule pairs) where
      go : (found : Option Kept) → declaration_kept rules rule pair ≡ found → Every IsPrintable (filter_map (declaration_kept rules rule) pairs)
          → Every IsPrintable (cons_option found (filter_map (declaration_kept rules rule) pairs))
      go None is later = later
      go (Some kept) is later =
          (value_out rules rule (form_of kept.0) pair.1 kept.1 (kept-of rules rule pair kept is).1, later)

    pub styles-printable : (rules : Rules) (rule : PlainHostRule) (raw out : List ℕ) → style_read rules rule raw ≡ Some out → list_all is_style_character out ≡ true
    unfolding style_read
    styles-printable rules rule raw out e =
        let all = filter_map (declaration_kept rules rule) (declarations_of raw) in
        ap are_printable (sym (written-is (each_once all) out e)) ∙ style_printable (each_once all) (once-every IsPrintable all (kept_out rules rule (declarations_of raw)))

    pub styles-allowed : StyleAllowed
    styles-allowed rules rule raw out e = all-weaker is_printable is_allowed printable_allowed out (styles-printable rules rule raw out e)
