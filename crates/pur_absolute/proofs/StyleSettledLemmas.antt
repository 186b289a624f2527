-- A style that is its own reading, when it becomes absolute.
use Rattle.std.proofs.Common.{◌≡◌, ◌∙◌, ℕ, Bool, true, false, not, List, [], ◌∷◌, map, Option, Some, None, refl, ap, sym, subst, encode_utf8_all, arith}
use Rattle.std.specs.Prelude.{◌==◌, ◌&&◌, ◌||◌, is_some}
use Rattle.std.specs.List.{cons_option, filter_map, list_all}
use Rattle.std.specs.Option.{option_and_then, option_map, option_map_or, option_or}
use Rattle.std.proofs.lemmas.Bool.{and_from, and_parts, cond-true, cond-false}
use Rattle.std.proofs.lemmas.Bool.Decides.{nat_tests}
use Rattle.std.proofs.lemmas.Option.{same_Some}
use Rattle.std.proofs.lemmas.Str.{chars-encodes}
use lib.Utf8.{scalar}
use Rattle.pur_laws.proofs.Lists.{all-weaker}
use Rattle.pur_laws.proofs.Tests.{all-named}
use Rattle.pur_attrlist.proofs.AttributeLaws.{both_false, none_and_all}
use Rattle.pur_names.specs.Properties.{prop_name, same_prop}
use Rattle.pur_names.specs.declared.properties.StyleProp.{StyleProp}
use Rattle.pur_names.proofs.StylePropLaws.{each_prop, prop_named-name}
use Rattle.pur_text.specs.Characters.{is_allowed}
use Rattle.pur_settings.specs.Rules.{Rules, permits_property}
use Rattle.pur_csstok.specs.Cuts.{nothing_open}
use Rattle.pur_csstok.specs.Declarations.{AreClean, IsCleanValue, Pair, declaration_of, declarations_of, has_escape_or_comment, style_text}
use Rattle.pur_csstok.specs.Urls.{breaks_quotes, url_read, url_text}
use Rattle.pur_uri.specs.Escapes.{stays_in_path, stays_in_query}
use Rattle.pur_uri.specs.Laws.{has_comment, is_canonical_byte}
use Rattle.pur_uri.specs.Splitting.{begins_with}
use Rattle.pur_uri.specs.Uris.{PlainUri, uri_text}
use Rattle.pur_uripolicy.specs.Admissible.{uri_under}
use Rattle.pur_uripolicy.specs.HostRules.{PlainHostRule}
use Rattle.pur_uripolicy.specs.declared.uses.UriUse.TheVariants.{Embed}
use Rattle.pur_cssprops.specs.Forms.{embedded, form_read, image_read, value_read}
use Rattle.pur_cssprops.specs.Keywords.{keyword_read, words_in}
use Rattle.pur_cssprops.specs.Laws.{ReadAsItself, StyleAllowed}
use Rattle.pur_cssprops.specs.Properties.{form_of}
use Rattle.pur_cssprops.specs.Styles.{Kept, declaration_kept, each_once, property_read, style_read, style_written}
use Rattle.pur_cssprops.specs.declared.forms.ValueForm.{ValueForm}
use Rattle.pur_cssprops.specs.declared.forms.ValueForm.TheVariants.{Border, Decoration, Families, Image, Word, Words}
use Rattle.pur_cssprops.specs.declared.keywords.Keywords.{Keywords}
use Rattle.pur_cssprops.specs.declared.keywords.Keywords.TheVariants.{Inherit, NoneAlone}
use Rattle.pur_cssprops.proofs.EmbeddedLemmas.{embedded-is}
use Rattle.pur_cssprops.proofs.InnerLaws.{IsPlain, all-inherited}
use Rattle.pur_cssprops.proofs.KeptLemmas.{Every, are_distinct, has, kept-read, named_chars, once-again, once-distinct, once-every, properties_of, written-is}
use Rattle.pur_cssprops.proofs.PropertyLemmas.{names_clean}
use Rattle.pur_cssprops.proofs.ShapeLaws.{CleanLaws, value-clean}
use Rattle.pur_cssprops.proofs.StyleLaws.{IsReadOf, declared-inner, declared-plain, kept-of, pieces-all, unless, when}
use Rattle.pur_cssprops.proofs.UrlLaws.{encoded, scalars_all, url_no_keyword}
use Rattle.pur_cssprops.proofs.WordLaws.{AtomLaws, keyword-out, or_either}
use Rattle.pur_absolute.specs.Absolute.{absolute_declaration, absolute_declared, absolute_style, absolute_text, absolute_uri, style_with, takes_url, url_in, url_without_comment}
use Rattle.pur_absolute.specs.Laws.{IsFitBase, is_absolute_declared, is_absolute_uri}
use Rattle.pur_absolute.proofs.UriLemmas.{IsWritten, mapped, UriLaws, absolute-uri}

-- the laws of styles that all stands on
pub record StyleLaws : Type 0 where
  pub atoms : AtomLaws
  pub clean : CleanLaws
  pub itself : ReadAsItself
  pub allowed : StyleAllowed
  pub declared : (pairs : List Pair) → AreClean pairs → declarations_of (style_text pairs) ≡ pairs
  pub url : (text : List ℕ) → list_all (λ c. not (breaks_quotes 0x22 c)) text ≡ true → url_read (url_text text) ≡ Some text

-- ---- characters

allowed-scalar : (c : ℕ) → is_allowed c ≡ true → scalar c ≡ true
allowed-scalar c is = grind (arith, nat_tests)

byte-whole : (b : ℕ) → is_canonical_byte b ≡ true → not (breaks_quotes 0x22 b) ≡ true
unfolding is_canonical_byte stays_in_query stays_in_path
byte-whole b is = grind (arith, nat_tests)

byte-unquoted : (b : ℕ) → is_canonical_byte b ≡ true → not (b == 0x22) ≡ true
unfolding is_canonical_byte stays_in_query stays_in_path
byte-unquoted b is = grind (arith, nat_tests)

byte-unescaped : (b : ℕ) → is_canonical_byte b ≡ true → (b == 0x5C) ≡ false
unfolding is_canonical_byte stays_in_query stays_in_path
byte-unescaped b is = grind (arith, nat_tests)

-- the text of a URI without a comment is plain
plain-text : (text : List ℕ) → list_all is_canonical_byte text ≡ true → has_comment text ≡ false → has_escape_or_comment text ≡ false
unfolding has_comment has_escape_or_comment
plain-text [] all none = refl
plain-text (b ∷ text) all none =
    let both = and_parts (is_canonical_byte b) (list_all is_canonical_byte text) all in
    go (b == 0x5C) (b == 0x2F && begins_with 0x2A text) (byte-unescaped b both.0) none (plain-text text both.1)
  where
    go : (escape slash : Bool) → escape ≡ false → (slash || has_comment text) ≡ false → (has_comment text ≡ false → has_escape_or_comment text ≡ false)
        → (escape || slash || has_escape_or_comment text) ≡ false
    go false false e none rest = rest none
    go false true e none rest = absurd (cc)
    go true slash e none rest = absurd (cc)

-- ---- what may be a URL

abbrev is_image : ValueForm → Bool
is_image Image = true
is_image form = false

-- the properties that take a URL are those of the form of images
image-form : (property : StyleProp) → takes_url (prop_name property) ≡ true → form_of property ≡ Image
image-form property is = go (form_of property) (decide (takes_url (prop_name property)) (is_image (form_of property)) is
    (each_prop (λ p. not (takes_url (prop_name p)) || is_image (form_of p)) refl property))
  where
    decide : (a b : Bool) → a ≡ true → (not a || b) ≡ true → b ≡ true
    decide true b e is = is
    decide false b e is = absurd (cc e)

    go : (form : ValueForm) → is_image form ≡ true → form ≡ Image
    go Image e = refl
    go (Word form) e = absurd (cc)
    go Families e = absurd (cc)
    go (Words form) e = absurd (cc)
    go Border e = absurd (cc)
    go Decoration e = absurd (cc)

-- a word of these sets is no URL
abbrev no_url : List ℕ → Bool
no_url text = not (is_some (url_read text))

word-no-url : (keywords : Keywords) → list_all no_url (words_in keywords) ≡ true → (text out : List ℕ) → keyword_read keywords text ≡ Some out → url_read out ≡ None
word-no-url keywords none text out is = go (url_read out) (all-named no_url (words_in keywords) out none (keyword-out keywords text out is))
  where
    go : (o : Option (List ℕ)) → not (is_some o) ≡ true → o ≡ None
    go None e = refl
    go (Some url) e = absurd (cc)

inherit-no-url : list_all no_url (words_in Inherit) ≡ true
unfolding url_read
inherit-no-url = refl

none-no-url : list_all no_url (words_in NoneAlone) ≡ true
unfolding url_read
none-no-url = refl

module _ (rules : Rules) (rule : PlainHostRule) (css : StyleLaws) where
  -- ---- what is kept of a style that is its own reading

  pub record IsGood (kept : Kept) : Type 0 where
    pub permits : permits_property rules kept.0 ≡ true
    pub read : value_read rules rule (form_of kept.0) kept.1 ≡ Some kept.1
    pub clean : IsCleanValue kept.1

  good-of : (raw : List ℕ) → list_all scalar raw ≡ true → IsPlain raw → (kept : Kept) → IsReadOf rules rule raw kept → IsGood kept
  good-of raw all plain kept is =
      let form = form_of kept.0 in
      record {
        permits = is.0;
        read = css.itself rules rule form (encode_utf8_all raw) kept.1 (encoded raw all)
            (ap (value_read rules rule form) (chars-encodes raw (scalars_all raw all)) ∙ is.1);
        clean = value-clean css.atoms css.clean rules rule form raw kept.1 plain is.1;
      }

  all-good : (pieces : List (List ℕ)) → list_all (list_all scalar) pieces ≡ true → Every IsGood (filter_map (declaration_kept rules rule) (filter_map declaration_of pieces))
  all-good [] all = tt
  all-good (piece ∷ pieces) all =
      let both = and_parts (list_all scalar piece) (list_all (list_all scalar) pieces) all in
      go (declaration_of piece) refl both.0 (all-good pieces both.1)
    where
      more : List Kept
      more = filter_map (declaration_kept rules rule) (filter_map declaration_of pieces)

      next : (pair : Pair) (found : Option Kept) → declaration_of piece ≡ Some pair → declaration_kept rules rule pair ≡ found → list_all scalar piece ≡ true
          → Every IsGood more → Every IsGood (cons_option found more)
      next pair None cut is characters later = later
      next pair (Some kept) cut is characters later = (
        good-of pair.1 (declared-inner (λ text. list_all scalar text ≡ true) (all-inherited scalar) piece pair characters cut)
            (declared-plain piece pair cut) kept (kept-of rules rule pair kept is),
        later,
      )

      go : (found : Option Pair) → declaration_of piece ≡ found → list_all scalar piece ≡ true → Every IsGood more
          → Every IsGood (filter_map (declaration_kept rules rule) (cons_option found (filter_map declaration_of pieces)))
      go None cut characters later = later
      go (Some pair) cut characters later = next pair (declaration_kept rules rule pair) cut refl characters later

  all-clean : (all : List Kept) → Every IsGood all → AreClean (map named_chars all)
  all-clean [] every = tt
  all-clean (kept ∷ all) every = (record { property = names_clean kept.0; value = every.0.clean }, all-clean all every.1)

  all-again : (all : List Kept) → Every IsGood all → filter_map (declaration_kept rules rule) (map named_chars all) ≡ all
  unfolding property_read
  all-again [] every = refl
  all-again (kept ∷ all) every =
      let one : declaration_kept rules rule (named_chars kept) ≡ Some kept =
      kept-read rules rule (named_chars kept) kept.0 (prop_named-name kept.0)
      ∙ cond-true _ _ _ every.0.permits ∙ ap (option_map (λ out. (kept.0, out))) every.0.read in
      ap (λ o. cons_option o (filter_map (declaration_kept rules rule) (map named_chars all))) one ∙ ap (λ t. kept ∷ t) (all-again all every.1)

  -- the text of good declarations, of distinct properties, is read as itself
  good-read : (all : List Kept) (out : List ℕ) → Every IsGood all → are_distinct (properties_of all) ≡ true → style_written all ≡ Some out → style_read rules rule out ≡ Some out
  unfolding style_read
  good-read all out every distinct is =
      let cut : declarations_of out ≡ map named_chars all = ap declarations_of (sym (written-is all out is)) ∙ css.declared (map named_chars all) (all-clean all every) in
      ap (λ pairs. style_written (each_once (filter_map (declaration_kept rules rule) pairs))) cut
      ∙ ap (λ kept. style_written (each_once kept)) (all-again all every)
      ∙ ap style_written (once-again all distinct)
      ∙ is

  pub record IsOwn (text : List ℕ) : Type 0 where
    pub all : List Kept
    pub good : Every IsGood all
    pub distinct : are_distinct (properties_of all) ≡ true
    pub written : style_written all ≡ Some text
    pub cut : declarations_of text ≡ map named_chars all

  own-of : (text : List ℕ) → style_read rules rule text ≡ Some text → IsOwn text
  unfolding style_read
  own-of text is =
      let kept = filter_map (declaration_kept rules rule) (declarations_of text) in
      let scalars = all-weaker is_allowed scalar allowed-scalar text (css.allowed rules rule text text is) in
      let good = once-every IsGood kept (all-good _ (pieces-all scalar _ nothing_open text scalars)) in
      record {
        all = each_once kept;
        good = good;
        distinct = once-distinct kept;
        written = is;
        cut = ap declarations_of (sym (written-is (each_once kept) text is)) ∙ css.declared (map named_chars (each_once kept)) (all-clean (each_once kept) good);
      }

  -- ---- what becomes of it

  module _ (laws : UriLaws) (allows : PlainUri → Bool) (base : PlainUri) (fit_base : IsFitBase rules rule base) where
    record IsDone (kept : Kept) : Type 0 where
      good : IsGood kept
      absolute : is_absolute_declared allows (named_chars kept) ≡ true
      again : absolute_declared allows base (named_chars kept) ≡ Some kept.1

    -- the URL in a good declaration is one that may be embedded
    url-written : (value text : List ℕ) → value_read rules rule Image value ≡ Some value → url_read value ≡ Some text → (P : Type 0)
        → ((uri : PlainUri) → IsWritten rules rule Embed text uri → P) → P
    unfolding value_read form_read image_read
    url-written value text read found P gives =
        or_either (keyword_read Inherit value) (image_read rules rule value) value read
        (λ word. absurd (cc (word-no-url Inherit inherit-no-url value value word, found)))
        (λ behind. or_either (keyword_read NoneAlone value) (option_and_then (embedded rules rule) (url_read value)) value behind
        (λ word. absurd (cc (word-no-url NoneAlone none-no-url value value word, found)))
        (λ url.
        let is = embedded-is rules rule text value (sym (ap (option_and_then (embedded rules rule)) found) ∙ url) in
        let bytes = laws.bytes (encode_utf8_all text) is.uri is.read in
        let whole = all-weaker is_canonical_byte (λ c. not (breaks_quotes 0x22 c)) byte-whole (uri_text is.uri) bytes in
        let same : uri_text is.uri ≡ text = same_Some (uri_text is.uri) text (sym (css.url (uri_text is.uri) whole) ∙ ap url_read is.written ∙ found) in
        gives is.uri (record { read = is.read; fit = is.fit; written = same })))

    embedded-meant : (out : List ℕ) (meant : PlainUri) → uri_under rules rule Embed out ≡ Some meant → embedded rules rule out ≡ Some (url_text (uri_text meant))
    unfolding embedded
    embedded-meant out meant is = ap (option_map (λ u. url_text (uri_text u))) is

    -- a URL that became absolute
    url-done : (property : StyleProp) (text value : List ℕ) (uri meant : PlainUri) → permits_property rules property ≡ true → takes_url (prop_name property) ≡ true
        → IsWritten rules rule Embed text uri → absolute_uri allows base text ≡ Some meant → has_comment (uri_text meant) ≡ false → url_text (uri_text meant) ≡ value
        → IsDone (property, value)
    unfolding value_read form_read image_read url_in absolute_declared
    url-done property text value uri meant permits takes is made none same =
        let s = absolute-uri rules rule laws allows base fit_base Embed text uri meant is made in
        let out = uri_text meant in
        let bytes = laws.bytes out meant s.canonical in
        let whole = all-weaker is_canonical_byte (λ c. not (breaks_quotes 0x22 c)) byte-whole out bytes in
        let read : url_read (url_text out) ≡ Some out = css.url out whole in
        let form : form_of property ≡ Image = image-form property takes in
        let inside : url_in (prop_name property, url_text out) ≡ Some out = cond-true _ _ _ takes ∙ read in
        let image : value_read rules rule Image (url_text out) ≡ Some (url_text out) =
        ap (λ o. option_or o (image_read rules rule (url_text out))) (url_no_keyword Inherit refl out)
        ∙ ap (λ o. option_or o (option_and_then (embedded rules rule) (url_read (url_text out)))) (url_no_keyword NoneAlone refl out)
        ∙ ap (option_and_then (embedded rules rule)) read
        ∙ embedded-meant out meant s.read in
        let done : IsDone (property, url_text out) = record {
          good = record {
            permits = permits;
            read = ap (λ f. value_read rules rule f (url_text out)) form ∙ image;
            clean = css.clean.urls out (all-weaker is_canonical_byte (λ c. not (c == 0x22)) byte-unquoted out bytes) (plain-text out bytes none);
          };
          absolute = ap (λ o. option_map_or (is_absolute_uri allows) o true) inside ∙ s.absolute;
          again = ap (λ o. option_map_or (λ t. option_and_then url_without_comment (absolute_text allows base t)) o (Some (url_text out))) inside
              ∙ ap (λ o. option_and_then url_without_comment (option_map uri_text o)) s.again
              ∙ cond-false _ _ _ none;
        } in
        subst (λ v. IsDone (property, v)) same done

    kept-done : (kept : Kept) (value : List ℕ) → IsGood kept → absolute_declared allows base (named_chars kept) ≡ Some value → IsDone (kept.0, value)
    unfolding url_in absolute_declared
    kept-done kept value good is = go (url_in (named_chars kept)) refl is
      where
        pair : Pair
        pair = named_chars kept

        one : (text : List ℕ) → url_in pair ≡ Some text → (o : Option (List ℕ)) → absolute_text allows base text ≡ o
            → option_and_then url_without_comment o ≡ Some value → IsDone (kept.0, value)
        one text found None made e = absurd (cc)
        one text found (Some out) made e =
            let takes = when (takes_url (prop_name kept.0)) (url_read kept.1) text found in
            let free = unless (has_comment out) (Some (url_text out)) value e in
            let meant = mapped uri_text (absolute_uri allows base text) out made in
            let form = image-form kept.0 takes.0 in
            url-written kept.1 text (sym (ap (λ f. value_read rules rule f kept.1) form) ∙ good.read) takes.1 (IsDone (kept.0, value))
            (λ uri written.
            url-done kept.0 text value uri meant.from good.permits takes.0 written meant.is
            (ap has_comment meant.same ∙ free.0) (ap url_text meant.same ∙ same_Some (url_text out) value free.1))

        go : (o : Option (List ℕ)) → url_in pair ≡ o
            → option_map_or (λ text. option_and_then url_without_comment (absolute_text allows base text)) o (Some kept.1) ≡ Some value → IsDone (kept.0, value)
        go None none e =
            subst (λ v. IsDone (kept.0, v)) (same_Some kept.1 value e)
            (record {
              good = good;
              absolute = ap (λ o. option_map_or (is_absolute_uri allows) o true) none;
              again = ap (λ o. option_map_or (λ text. option_and_then url_without_comment (absolute_text allows base text)) o (Some kept.1)) none;
            })
        go (Some text) found e = one text found (absolute_text allows base text) refl e

    -- ---- all declarations

    made_of : Kept → Option Kept
    made_of kept = option_map (λ value. (kept.0, value)) (absolute_declared allows base (named_chars kept))

    all-named-made : (all : List Kept) → filter_map (absolute_declaration allows base) (map named_chars all) ≡ map named_chars (filter_map made_of all)
    unfolding made_of
    all-named-made [] = refl
    all-named-made (kept ∷ all) = go (absolute_declared allows base (named_chars kept)) (all-named-made all)
      where
        go : (o : Option (List ℕ)) → filter_map (absolute_declaration allows base) (map named_chars all) ≡ map named_chars (filter_map made_of all)
            → cons_option (option_map {U = Pair} (λ value. (prop_name kept.0, value)) o) (filter_map (absolute_declaration allows base) (map named_chars all))
            ≡ map named_chars (cons_option (option_map {U = Kept} (λ value. (kept.0, value)) o) (filter_map made_of all))
        go None rest = rest
        go (Some value) rest = ap (λ l. (prop_name kept.0, value) ∷ l) rest

    all-done : (all : List Kept) → Every IsGood all → Every IsDone (filter_map made_of all)
    unfolding made_of
    all-done [] every = tt
    all-done (kept ∷ all) every = go (absolute_declared allows base (named_chars kept)) refl (all-done all every.1)
      where
        go : (o : Option (List ℕ)) → absolute_declared allows base (named_chars kept) ≡ o → Every IsDone (filter_map made_of all)
            → Every IsDone (cons_option (option_map {U = Kept} (λ value. (kept.0, value)) o) (filter_map made_of all))
        go None is rest = rest
        go (Some value) is rest = (kept-done kept value every.0 is, rest)

    lacks-made : (property : StyleProp) (all : List Kept) → has (properties_of all) property ≡ false → has (properties_of (filter_map made_of all)) property ≡ false
    unfolding made_of
    lacks-made property [] none = refl
    lacks-made property (kept ∷ all) none =
        let parts = both_false (same_prop property kept.0) (has (properties_of all) property) none in
        go (absolute_declared allows base (named_chars kept)) parts.0 (lacks-made property all parts.1)
      where
        go : (o : Option (List ℕ)) → same_prop property kept.0 ≡ false → has (properties_of (filter_map made_of all)) property ≡ false
            → has (properties_of (cons_option (option_map {U = Kept} (λ value. (kept.0, value)) o) (filter_map made_of all))) property ≡ false
        go None first rest = rest
        go (Some value) first rest = ap (λ b. b || has (properties_of (filter_map made_of all)) property) first ∙ rest

    distinct-made : (all : List Kept) → are_distinct (properties_of all) ≡ true → are_distinct (properties_of (filter_map made_of all)) ≡ true
    unfolding made_of
    distinct-made [] apart = refl
    distinct-made (kept ∷ all) apart =
        let parts = none_and_all (has (properties_of all) kept.0) (are_distinct (properties_of all)) apart in
        go (absolute_declared allows base (named_chars kept)) (lacks-made kept.0 all parts.0) (distinct-made all parts.1)
      where
        go : (o : Option (List ℕ)) → has (properties_of (filter_map made_of all)) kept.0 ≡ false → are_distinct (properties_of (filter_map made_of all)) ≡ true
            → are_distinct (properties_of (cons_option (option_map {U = Kept} (λ value. (kept.0, value)) o) (filter_map made_of all))) ≡ true
        go None first rest = rest
        go (Some value) first rest = and_from _ _ (ap not first) rest

    done-good : (all : List Kept) → Every IsDone all → Every IsGood all
    done-good [] every = tt
    done-good (kept ∷ all) every = (every.0.good, done-good all every.1)

    done-absolute : (all : List Kept) → Every IsDone all → list_all (is_absolute_declared allows) (map named_chars all) ≡ true
    done-absolute [] every = refl
    done-absolute (kept ∷ all) every = and_from _ _ every.0.absolute (done-absolute all every.1)

    done-again : (all : List Kept) → Every IsDone all → filter_map (absolute_declaration allows base) (map named_chars all) ≡ map named_chars all
    done-again [] every = refl
    done-again (kept ∷ all) every =
        ap (λ o. cons_option (option_map {U = Pair} (λ value. (prop_name kept.0, value)) o) (filter_map (absolute_declaration allows base) (map named_chars all))) every.0.again
        ∙ ap (λ l. named_chars kept ∷ l) (done-again all every.1)

    -- the text of what is left, where something is
    written-with : (all : List Kept) (value : List ℕ) → style_with (map named_chars all) ≡ Some value → style_written all ≡ Some value
    unfolding style_written
    written-with [] value is = absurd (cc)
    written-with (kept ∷ all) value is = is

    pub record IsSettledStyle (value : List ℕ) : Type 0 where
      pub read : style_read rules rule value ≡ Some value
      pub absolute : list_all (is_absolute_declared allows) (declarations_of value) ≡ true
      pub again : absolute_style allows base value ≡ Some value

    pub style-settled : (text value : List ℕ) → style_read rules rule text ≡ Some text → absolute_style allows base text ≡ Some value → IsSettledStyle value
    unfolding absolute_style
    style-settled text value is made =
        let own = own-of text is in
        let all = filter_map made_of own.all in
        let done = all-done own.all own.good in
        let good = done-good all done in
        let left : style_with (map named_chars all) ≡ Some value =
        ap style_with (sym (ap (filter_map (absolute_declaration allows base)) own.cut ∙ all-named-made own.all)) ∙ made in
        let written = written-with all value left in
        let cut : declarations_of value ≡ map named_chars all =
        ap declarations_of (sym (written-is all value written)) ∙ css.declared (map named_chars all) (all-clean all good) in
        record {
          read = good-read all value good (distinct-made own.all own.distinct) written;
          absolute = ap (list_all (is_absolute_declared allows)) cut ∙ done-absolute all done;
          again = ap style_with (ap (filter_map (absolute_declaration allows base)) cut ∙ done-again all done) ∙ left;
        }
