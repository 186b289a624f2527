-- What a style is read as is read as itself.
use Rattle.std.proofs.Common.{◌≡◌, ℕ, Bool, true, false, not, cond, List, [], ◌∷◌, map, Option, Some, None, IfSome, IsUtf8, refl, sym, ap, subst, ◌∙◌, encode_utf8_all}
use Rattle.std.specs.Prelude.{◌||◌}
use Rattle.std.specs.List.{list_all, list_any, before_first, after_first, filter_map, cons_option, onto_first}
use Rattle.std.specs.Option.{option_map}
use Rattle.std.specs.Str.{chars}
use Rattle.std.proofs.lemmas.Bool.{cond-true, and_parts, and_from}
use Rattle.std.proofs.lemmas.Option.{option_and_then_some, same_Some}
use Rattle.std.proofs.lemmas.Str.{chars-encodes, scalars-chars}
use lib.Utf8.{scalar}
use Rattle.pur_names.proofs.StylePropLaws.{prop_named-name}
use Rattle.pur_names.specs.Properties.{prop_named}
use Rattle.pur_names.specs.declared.properties.StyleProp.{StyleProp}
use Rattle.pur_text.specs.Trimming.{trimmed}
use Rattle.pur_settings.specs.Rules.{Rules, permits_property}
use Rattle.pur_csstok.specs.Cuts.{nothing_open, is_cut, open_after, heeds_parentheses, pieces_from, pieces}
use Rattle.pur_csstok.specs.Declarations.{Pair, has_escape_or_comment, is_colon, clean_pair, declaration_of, declarations_of, style_text, AreClean}
use Rattle.pur_uripolicy.specs.HostRules.{PlainHostRule}
use Rattle.pur_cssprops.specs.Forms.{value_read}
use Rattle.pur_cssprops.specs.Laws.{ReadAsItself, StyleReadAsItself, IsCleanStyle, is_style_character}
use Rattle.pur_cssprops.specs.Properties.{form_of}
use Rattle.pur_cssprops.specs.Styles.{Kept, property_read, declaration_kept, each_once, style_written, style_read}
use Rattle.pur_cssprops.proofs.InnerLaws.{IsInherited, IsPlain, or_parts, all-inherited, plain-inherited, value-inner}
use Rattle.pur_cssprops.proofs.KeptLemmas.{named_chars, Every, once-every, once-distinct, once-again, written-is, kept-read}
use Rattle.pur_cssprops.proofs.PropertyLemmas.{names_clean}
use Rattle.pur_cssprops.proofs.ShapeLaws.{CleanLaws, value-clean}
use Rattle.pur_cssprops.proofs.UrlLaws.{scalars_all, all_scalars, encoded}
use Rattle.pur_cssprops.proofs.WordLaws.{AtomLaws}

-- ---- what is kept was read

pub when : {X : Type 0} (b : Bool) (one : Option X) (out : X) → cond b one None ≡ Some out → (b ≡ true) × (one ≡ Some out)
when true one out e = (refl, e)
when false one out e = absurd cc

pub unless : {X : Type 0} (b : Bool) (one : Option X) (out : X) → cond b None one ≡ Some out → (b ≡ false) × (one ≡ Some out)
unless false one out e = (refl, e)
unless true one out e = absurd cc

-- the value of a declaration whose value was read
abbrev pub IsReadOf : Rules → PlainHostRule → List ℕ → Kept → Type 0
IsReadOf rules rule raw kept =
    (permits_property rules kept.0 ≡ true) × (value_read rules rule (form_of kept.0) raw ≡ Some kept.1)

read_of : (rules : Rules) (rule : PlainHostRule) (raw : List ℕ) (property : StyleProp) (kept : Kept) → property_read rules rule raw property ≡ Some kept → IsReadOf rules rule raw kept
unfolding property_read
read_of rules rule raw property kept e =
    let value = value_read rules rule (form_of property) raw in
    let is = when (permits_property rules property) (option_map (λ out. (property, out)) value) kept e in
    go value refl is.1 is.0 where
      go : (found : Option (List ℕ)) → value_read rules rule (form_of property) raw ≡ found → option_map (λ out. (property, out)) found ≡ Some kept
          → permits_property rules property ≡ true → IsReadOf rules rule raw kept
      go None found e permitted = absurd cc
      go (Some out) found e permitted =
          let same : (property, out) ≡ kept = same_Some _ kept e in
          subst (IsReadOf rules rule raw) same (permitted, found)

pub kept-of : (rules : Rules) (rule : PlainHostRule) (pair : Pair) (kept : Kept) → declaration_kept rules rule pair ≡ Some kept → IsReadOf rules rule pair.1 kept
unfolding declaration_kept
kept-of rules rule pair kept e =
    option_and_then_some (property_read rules rule pair.1) (prop_named pair.0) kept e (λ property found more. read_of rules rule pair.1 property kept more)

-- a declaration is cut from a plain piece
cut_of : (piece : List ℕ) (pair : Pair) → declaration_of piece ≡ Some pair → IsPlain piece × (trimmed (after_first is_colon piece) ≡ pair.1)
unfolding declaration_of
cut_of piece pair e =
    let cut = clean_pair (before_first is_colon piece) (after_first is_colon piece) in
    let whole = unless (has_escape_or_comment piece || not (list_any is_colon piece)) (Some cut) pair e in
    ((or_parts (has_escape_or_comment piece) (not (list_any is_colon piece)) whole.0).0, ap (λ p. p.1) (same_Some cut pair whole.1))

-- its value inherits what the piece has
pub declared-inner : (P : List ℕ → Type 0) → IsInherited P → (piece : List ℕ) (pair : Pair) → P piece → declaration_of piece ≡ Some pair → P pair.1
declared-inner P inherits piece pair is e = subst P (cut_of piece pair e).1 (value-inner P inherits piece is)

pub declared-plain : (piece : List ℕ) (pair : Pair) → declaration_of piece ≡ Some pair → IsPlain pair.1
declared-plain piece pair e = declared-inner IsPlain plain-inherited piece pair (cut_of piece pair e).0 e

-- ---- the pieces of a style

onto_all : (test : ℕ → Bool) (c : ℕ) (parts : List (List ℕ)) → test c ≡ true → list_all (list_all test) parts ≡ true → list_all (list_all test) (onto_first c parts) ≡ true
onto_all test c [] is all = and_from _ _ (and_from _ _ is refl) refl
onto_all test c (part ∷ parts) is all =
    let both = and_parts (list_all test part) (list_all (list_all test) parts) all in
    and_from _ _ (and_from _ _ is both.0) both.1

-- the pieces of a text have its characters
pub pieces-all : (test : ℕ → Bool) (separator : _) (before : _) (text : List ℕ) → list_all test text ≡ true → list_all (list_all test) (pieces_from separator before text) ≡ true
unfolding pieces_from
pieces-all test separator before [] all = refl
pieces-all test separator before (c ∷ text) all =
    let both = and_parts (test c) (list_all test text) all in
    go (is_cut separator before c) (pieces-all test separator nothing_open text both.1) (pieces-all test separator (open_after (heeds_parentheses separator) before c) text both.1) both.0 where
      go : (b : Bool) → list_all (list_all test) (pieces_from separator nothing_open text) ≡ true
          → list_all (list_all test) (pieces_from separator (open_after (heeds_parentheses separator) before c) text) ≡ true → test c ≡ true
          → list_all (list_all test) (cond b ([] ∷ pieces_from separator nothing_open text) (onto_first c (pieces_from separator (open_after (heeds_parentheses separator) before c) text))) ≡ true
      go true cut on is = cut
      go false cut on is = onto_all test c (pieces_from separator (open_after (heeds_parentheses separator) before c) text) is on

-- ---- what is kept

module _ (rules : Rules) (rule : PlainHostRule) where
  -- a declaration that is kept was read of a plain text of characters
  record IsRead (kept : Kept) : Type 0 where
    pub raw : List ℕ
    pub characters : list_all scalar raw ≡ true
    pub plain : IsPlain raw
    pub read : IsReadOf rules rule raw kept

  all_read : (pieces : List (List ℕ)) → list_all (list_all scalar) pieces ≡ true → Every IsRead (filter_map (declaration_kept rules rule) (filter_map declaration_of pieces))
  all_read [] all = tt
  all_read (piece ∷ pieces) all =
      let both = and_parts (list_all scalar piece) (list_all (list_all scalar) pieces) all in
      go (declaration_of piece) refl both.0 (all_read pieces both.1) where
        more : List Kept
        more = filter_map (declaration_kept rules rule) (filter_map declaration_of pieces)

        next : (pair : Pair) (found : Option Kept) → declaration_of piece ≡ Some pair → declaration_kept rules rule pair ≡ found → list_all scalar piece ≡ true
            → Every IsRead more → Every IsRead (cons_option found more)
        next pair None cut is characters later = later
        next pair (Some kept) cut is characters later = (
          record {
            raw = pair.1;
            characters = declared-inner (λ text. list_all scalar text ≡ true) (all-inherited scalar) piece pair characters cut;
            plain = declared-plain piece pair cut;
            read = kept-of rules rule pair kept is;
          },
          later,
        )

        go : (found : Option Pair) → declaration_of piece ≡ found → list_all scalar piece ≡ true → Every IsRead more
            → Every IsRead (filter_map (declaration_kept rules rule) (cons_option found (filter_map declaration_of pieces)))
        go None cut characters later = later
        go (Some pair) cut characters later = next pair (declaration_kept rules rule pair) cut refl characters later

  -- what is kept of a style of characters
  kept_read : (raw : List ℕ) → list_all scalar raw ≡ true → Every IsRead (each_once (filter_map (declaration_kept rules rule) (declarations_of raw)))
  kept_read raw all =
      let kept = filter_map (declaration_kept rules rule) (declarations_of raw) in
      once-every IsRead kept (all_read _ (pieces-all scalar _ nothing_open raw all))

  -- ---- read again

  module _ (atoms : AtomLaws) (clean : CleanLaws) where
    all_clean : (all : List Kept) → Every IsRead all → AreClean (map named_chars all)
    all_clean [] every = tt
    all_clean (kept ∷ all) every =
        let is = every.0 in
        (record { property = names_clean kept.0; value = value-clean atoms clean rules rule (form_of kept.0) is.raw kept.1 is.plain is.read.1 }, all_clean all every.1)

  module _ (atoms : AtomLaws) (clean : CleanLaws) (itself : ReadAsItself) (declared : (pairs : List Pair) → AreClean pairs → declarations_of (style_text pairs) ≡ pairs) where
    again : (kept : Kept) → IsRead kept → declaration_kept rules rule (named_chars kept) ≡ Some kept
    unfolding property_read
    again kept is =
        let form = form_of kept.0 in
        let read = value_read rules rule form in
        let same : chars (encode_utf8_all is.raw) ≡ is.raw = chars-encodes is.raw (scalars_all is.raw is.characters) in
        let settled : read kept.1 ≡ Some kept.1 =
        itself rules rule form (encode_utf8_all is.raw) kept.1 (encoded is.raw is.characters) (ap read same ∙ is.read.1) in
        kept-read rules rule (named_chars kept) kept.0 (prop_named-name kept.0)
        ∙ cond-true _ _ _ is.read.0 ∙ ap (option_map (λ out. (kept.0, out))) settled

    all_again : (all : List Kept) → Every IsRead all → filter_map (declaration_kept rules rule) (map named_chars all) ≡ all
    all_again [] every = refl
    all_again (kept ∷ all) every =
        ap (λ o. cons_option o (filter_map (declaration_kept rules rule) (map named_chars all))) (again kept every.0) ∙ ap (λ t. kept ∷ t) (all_again all every.1)

    pub style-again : (raw out : List ℕ) → list_all scalar raw ≡ true → style_read rules rule raw ≡ Some out → style_read rules rule out ≡ Some out
    unfolding style_read
    style-again raw out characters e =
        let all = filter_map (declaration_kept rules rule) (declarations_of raw) in
        let once = each_once all in
        let every = kept_read raw characters in
        let cut : declarations_of out ≡ map named_chars once = ap declarations_of (sym (written-is once out e)) ∙ declared (map named_chars once) (all_clean atoms clean once every) in
        ap (λ pairs. style_written (each_once (filter_map (declaration_kept rules rule) pairs))) cut
        ∙ ap (λ kept. style_written (each_once kept)) (all_again once every)
        ∙ ap style_written (once-again once (once-distinct all))
        ∙ e

-- what is kept is written as clean declarations
pub style-clean : AtomLaws → CleanLaws → (rules : Rules) (rule : PlainHostRule) (raw out : List ℕ) → IsUtf8 raw → style_read rules rule (chars raw) ≡ Some out
    → list_all is_style_character out ≡ true → IsCleanStyle out
unfolding style_read
style-clean atoms clean rules rule raw out valid e characters =
    let once = each_once (filter_map (declaration_kept rules rule) (declarations_of (chars raw))) in
    record {
      pairs = map named_chars once;
      clean = all_clean rules rule atoms clean once (kept_read rules rule (chars raw) (all_scalars (chars raw) (scalars-chars raw valid)));
      written = written-is once out e;
      characters = characters;
    }

pub styles-stay : AtomLaws → CleanLaws → ReadAsItself → ((pairs : List Pair) → AreClean pairs → declarations_of (style_text pairs) ≡ pairs) → StyleReadAsItself
styles-stay atoms clean itself declared rules rule raw out valid e =
    style-again rules rule atoms clean itself declared (chars raw) out (all_scalars (chars raw) (scalars-chars raw valid)) e

-- what a text was read as, if it was
pub itself-again : StyleReadAsItself → (rules : Rules) (rule : PlainHostRule) (raw : List ℕ) → IsUtf8 raw → (out : Option (List ℕ))
    → out ≡ style_read rules rule (chars raw) → IfSome out (λ text. style_read rules rule text ≡ Some text)
itself-again law rules rule raw valid None e = tt
itself-again law rules rule raw valid (Some text) e = law rules rule raw text valid (sym e)
