-- No word has two of the forms of a border, or of a decoration: computed for keywords; lengths and colours differ in their
-- first character.
use Rattle.std.proofs.Common.{◌≡◌, ℕ, Bool, true, false, not, List, [], ◌∷◌, codes, length, drop, take, Some, None, refl, sym, ap, ◌∙◌, arith, ⊎_elim}
use Rattle.std.specs.Prelude.{Option, ◌==◌, is_none, ◌||◌}
use Rattle.std.specs.Char.{to_ascii_lowercase}
use Rattle.std.specs.Cmp.Lexicographic.{same_text}
use Rattle.std.specs.List.{list_all}
use Rattle.std.specs.Option.{option_or, option_and_then, option_map_or}
use Rattle.std.specs.Str.{bytes_eq, str_to_ascii_lowercase}
use Rattle.std.proofs.lemmas.Bool.{cases_Bool, cond-false, and_parts}
use Rattle.std.proofs.lemmas.Bool.Decides.{nat_tests}
use Rattle.pur_laws.proofs.Tests.{all-named}
use Rattle.pur_csstok.specs.Atoms.{is_atom, is_color}
use Rattle.pur_csstok.specs.Colors.{Row, rows, is_hex_digit, is_hash, hash_read, color_in, color_named, rgb_read, parts_read, between_commas, lowered_read, color_read}
use Rattle.pur_csstok.specs.Ends.{before, behind_all}
use Rattle.pur_csstok.specs.Lengths.{is_number_character, length_with, length_lowered, length_read}
use Rattle.pur_csstok.specs.Names.{is_one_of}
use Rattle.pur_csstok.specs.Numbers.{number_of}
use Rattle.pur_cssprops.specs.Forms.{word_read, width, style, color}
use Rattle.pur_cssprops.specs.Keywords.{words_in, keyword_read}
use Rattle.pur_cssprops.specs.declared.forms.WordForm.{WordForm}
use Rattle.pur_cssprops.specs.declared.forms.WordForm.TheVariants.{Keyword}
use Rattle.pur_cssprops.specs.declared.keywords.Keywords.{Keywords}
use Rattle.pur_cssprops.specs.declared.keywords.Keywords.TheVariants.{LineWidth, LineStyle, Underline, Overline, LineThrough}
use Rattle.pur_cssprops.proofs.KeywordLemmas.{atom-lowered}
use Rattle.pur_cssprops.proofs.WordLaws.{AtomLaws, keyword-out, or_either}
use Rattle.pur_cssprops.proofs.SequenceLaws.{Apart}

differ : (found : Option (List ℕ)) (out : List ℕ) → is_none found ≡ true → found ≡ Some out → ⊥
differ None out is e = absurd cc
differ (Some x) out is e = absurd cc

nothing : (found : Option (List ℕ)) → is_none found ≡ true → found ≡ None
nothing None is = refl
nothing (Some x) is = absurd cc

-- a form that reads no word of a set
pub keyword_apart : (keywords : Keywords) (other : WordForm) → list_all (λ w. is_none (word_read other w)) (words_in keywords) ≡ true
    → (text out : List ℕ) → keyword_read keywords text ≡ Some out → word_read other out ≡ None
keyword_apart keywords other none text out e =
    nothing (word_read other out) (all-named (λ w. is_none (word_read other w)) (words_in keywords) out none (keyword-out keywords text out e))

-- ---- decorations

lines_apart : (one other : Keywords) → list_all (λ w. is_none (word_read (Keyword other) w)) (words_in one) ≡ true
    → list_all (λ w. is_none (word_read (Keyword one) w)) (words_in other) ≡ true → Apart (Keyword one) (Keyword other)
unfolding word_read
lines_apart one other first second = record { first = keyword_apart one (Keyword other) first; second = keyword_apart other (Keyword one) second }

pub under_over : Apart (Keyword Underline) (Keyword Overline)
unfolding word_read keyword_read
under_over = lines_apart Underline Overline refl refl

pub under_through : Apart (Keyword Underline) (Keyword LineThrough)
unfolding word_read keyword_read
under_through = lines_apart Underline LineThrough refl refl

pub over_through : Apart (Keyword Overline) (Keyword LineThrough)
unfolding word_read keyword_read
over_through = lines_apart Overline LineThrough refl refl

-- ---- borders

-- a length begins with a digit, a sign or a point
first_of_length : (c : ℕ) (text out : List ℕ) → length_lowered false false (c ∷ text) ≡ Some out → is_number_character c ≡ true
unfolding length_lowered number_of
first_of_length c text out e = go (is_number_character c) refl where
  go : (is : Bool) → is_number_character c ≡ is → is_number_character c ≡ true
  go true is = is
  go false is =
      let none : length_lowered false false (c ∷ text) ≡ None
      = ap (λ n. option_map_or (λ number. length_with false number (drop n (c ∷ text))) (number_of false (take n (c ∷ text))) None) (cond-false _ _ _ is) in
      let bad : None ≡ Some out = sym none ∙ e in
      absurd cc

-- a length is the name of no colour
no_name : (rows : List Row) (text out : List ℕ) → list_all (λ row. is_none (length_lowered false false row.0)) rows ≡ true → length_lowered false false text ≡ Some out → color_in rows text ≡ None
no_name [] text out none e = refl
no_name (row ∷ rows) text out none e =
    let both = and_parts (is_none (length_lowered false false row.0)) (list_all (λ r. is_none (length_lowered false false r.0)) rows) none in
    ⊎_elim
    (λ (same : bytes_eq text row.0 ≡ true). absurd (differ (length_lowered false false row.0) out both.0 (ap (length_lowered false false) (sym (same_text text row.0 (sym same))) ∙ e)))
    (λ (other : bytes_eq text row.0 ≡ false). cond-false _ _ _ other ∙ no_name rows text out both.1 e)
    (cases_Bool (bytes_eq text row.0))

no_hash : (c : ℕ) → is_number_character c ≡ true → (c == 0x23) ≡ true → ⊥
no_hash c is hash = grind (arith, nat_tests)

no_letter : (c : ℕ) → is_number_character c ≡ true → (to_ascii_lowercase c == 0x72) ≡ false
no_letter c is = grind (arith, nat_tests)

hash_none : (c : ℕ) (text : List ℕ) → is_number_character c ≡ true → hash_read (c ∷ text) ≡ None
unfolding hash_read
hash_none c text is = ⊎_elim
    (λ (hash : is_hash (c ∷ text) ≡ true). absurd (no_hash c is (and_parts (c == 0x23) (length (c ∷ text) == 4 || length (c ∷ text) == 7) (and_parts _ (list_all is_hex_digit text) hash).0).0))
    (λ (other : is_hash (c ∷ text) ≡ false). cond-false _ _ _ other)
    (cases_Bool (is_hash (c ∷ text)))

rgb_none : (c : ℕ) (text : List ℕ) → is_number_character c ≡ true → rgb_read (c ∷ text) ≡ None
unfolding rgb_read
rgb_none c text is =
    ap (λ o. option_and_then (λ inside. parts_read (between_commas inside)) (option_and_then (before 0x29) (option_and_then (behind_all (codes "gb(")) o)))
    (cond-false _ _ _ (no_letter c is))

names_none : list_all (λ row. is_none (length_lowered false false row.0)) rows ≡ true
unfolding length_lowered number_of
names_none = refl

no_length : length_lowered false false [] ≡ None
unfolding length_lowered number_of
no_length = refl

-- a length is no colour
pub no_color : (text out : List ℕ) → length_lowered false false text ≡ Some out → lowered_read text ≡ None
unfolding color_named
no_color [] out e = let bad : None ≡ Some out = sym no_length ∙ e in absurd cc
no_color (c ∷ text) out e =
    let is = first_of_length c text out e in
    ap (λ o. option_or o (option_or (color_named (c ∷ text)) (rgb_read (c ∷ text)))) (hash_none c text is)
    ∙ ap (λ o. option_or o (rgb_read (c ∷ text))) (no_name rows (c ∷ text) out names_none e) ∙ rgb_none c text is

-- a length is no style
styles_none : list_all (λ w. is_none (length_lowered false false w)) (words_in LineStyle) ≡ true
unfolding length_lowered number_of
styles_none = refl

no_style : (out : List ℕ) → length_read false false out ≡ Some out → keyword_read LineStyle out ≡ None
unfolding keyword_read
no_style out e =
    let low = str_to_ascii_lowercase out in
    ⊎_elim
    (λ (one : is_one_of (words_in LineStyle) low ≡ true).
    absurd (differ (length_lowered false false low) out (all-named (λ w. is_none (length_lowered false false w)) (words_in LineStyle) low styles_none one) e))
    (λ (other : is_one_of (words_in LineStyle) low ≡ false). cond-false _ _ _ other)
    (cases_Bool (is_one_of (words_in LineStyle) low))

-- a colour is no keyword, and no length
no_keyword : (keywords : Keywords) → list_all (λ w. not (is_color w)) (words_in keywords) ≡ true → (out : List ℕ) → is_atom out ≡ true → is_color out ≡ true → keyword_read keywords out ≡ None
unfolding keyword_read
no_keyword keywords none out atom is =
    let low = str_to_ascii_lowercase out in
    ⊎_elim
    (λ (one : is_one_of (words_in keywords) low ≡ true).
    let bad : not (is_color low) ≡ true = all-named (λ w. not (is_color w)) (words_in keywords) low none one in
    let other : not true ≡ true = sym (ap not (ap is_color (atom-lowered out atom) ∙ is)) ∙ bad in
    absurd cc)
    (λ (other : is_one_of (words_in keywords) low ≡ false). cond-false _ _ _ other)
    (cases_Bool (is_one_of (words_in keywords) low))

color_first : (out : List ℕ) → is_color out ≡ true → length_lowered false false out ≡ None
color_first [] is = absurd cc
color_first (c ∷ text) is = go (length_lowered false false (c ∷ text)) refl where
  go : (found : Option (List ℕ)) → length_lowered false false (c ∷ text) ≡ found → length_lowered false false (c ∷ text) ≡ None
  go None e = e
  go (Some out) e = absurd (no_hash c (first_of_length c text out e) (and_parts (c == 0x23) (length (c ∷ text) == 7) (and_parts _ (list_all is_hex_digit text) is).0).0)

-- ---- words computed

widths_no_style : list_all (λ w. is_none (word_read style w)) (words_in LineWidth) ≡ true
unfolding word_read keyword_read
widths_no_style = refl

pub widths_no_color : list_all (λ w. is_none (word_read color w)) (words_in LineWidth) ≡ true
unfolding word_read color_read hash_read color_named rgb_read
widths_no_color = refl

pub styles_no_width : list_all (λ w. is_none (word_read width w)) (words_in LineStyle) ≡ true
unfolding word_read keyword_read length_lowered number_of
styles_no_width = refl

pub styles_no_color : list_all (λ w. is_none (word_read color w)) (words_in LineStyle) ≡ true
unfolding word_read color_read hash_read color_named rgb_read
styles_no_color = refl

module _ (laws : AtomLaws) where
  pub width_style : Apart width style
  unfolding word_read
  width_style = record {
    first = λ text out e. or_either (keyword_read LineWidth text) (length_read false false text) out e
        (keyword_apart LineWidth style widths_no_style text out) (λ length. no_style out (laws.length false false text out length));
    second = keyword_apart LineStyle width styles_no_width;
  }

  pub width_color : Apart width color
  unfolding word_read color_read
  width_color = record {
    first = λ text out e. or_either (keyword_read LineWidth text) (length_read false false text) out e
        (keyword_apart LineWidth color widths_no_color text out)
        (λ length. no_color (str_to_ascii_lowercase out) out (laws.length false false text out length));
    second = λ text out e.
        let atom = laws.color_atom false text out e in
        let is = laws.color_digits text out e in
        ap (λ o. option_or o (length_read false false out)) (no_keyword LineWidth refl out atom is)
        ∙ ap (length_lowered false false) (atom-lowered out atom) ∙ color_first out is;
  }

  pub style_color : Apart style color
  unfolding word_read
  style_color = record {
    first = keyword_apart LineStyle color styles_no_color;
    second = λ text out e. no_keyword LineStyle refl out (laws.color_atom false text out e) (laws.color_digits text out e);
  }
