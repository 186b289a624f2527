-- Numbers, lengths and colours in their one forms are atoms, and atoms are words of a clean value.
use Rattle.std.proofs.Common.{◌≡◌, ℕ, ◌<◌, Bool, true, false, List, [], ◌∷◌, ◌++◌, length, Some, None, refl, sym, ap, subst, ◌∙◌, arith}
use Rattle.std.specs.Prelude.{◌==◌, ◌||◌, not, Option, option_map}
use Rattle.pur_laws.proofs.Texts.{is_ascii}
use Rattle.std.specs.List.{list_all, join_with_byte}
use Rattle.std.proofs.lemmas.Bool.{and_parts, and_from}
use Rattle.std.proofs.lemmas.Bool.Decides.{nat_tests}
use Rattle.std.proofs.lemmas.List.{length-append}
use Rattle.pur_text.specs.Characters.{is_space}
use Rattle.pur_csstok.specs.Atoms.{is_atom_character, is_atom, is_color}
use Rattle.pur_csstok.specs.Colors.{is_hex_digit, color_read}
use Rattle.pur_csstok.specs.Cuts.{is_plain}
use Rattle.pur_csstok.specs.Declarations.{is_plain_word, IsCleanValue}
use Rattle.pur_csstok.specs.Lengths.{length_read}
use Rattle.pur_csstok.specs.Numbers.{Number, is_digit, number_of, sign_text, whole_text, fraction_text, number_text, number_read}
use Rattle.pur_csstok.specs.declared.cuts.Separator.TheVariants.{Semicolon, Space}
use Rattle.pur_csstok.proofs.ColorLaws.{IsColor, color_is}
use Rattle.pur_csstok.proofs.CutLaws.{plain_whole}
use Rattle.pur_csstok.proofs.DigitLemmas.{number_of-all, number-ascii}
use Rattle.pur_csstok.proofs.EndLaws.{is_tight, joined-trimmed, spaceless-tight, all-joined, is_harmless, harmless}
use Rattle.pur_csstok.proofs.LengthLaws.{unit_text, length_is, atom-ascii, length-ascii}
use Rattle.pur_laws.proofs.Lists.{all-weaker, all-append}
use Rattle.pur_laws.proofs.Tests.{not_empty}
use Rattle.pur_csstok.proofs.NumberLaws.{IsSettled, number_is, whole-all, whole-some, fraction-text}
use Rattle.pur_csstok.proofs.TextLemmas.{ReadsAscii}

-- ---- what is an atom

some_characters : (text : List ℕ) → 0 < length text → not (length text == 0) ≡ true
some_characters text some = grind (arith, nat_tests)

digit-atom : (c : ℕ) → is_digit c ≡ true → is_atom_character c ≡ true
digit-atom c is = grind (arith, nat_tests)

hex-atom : (c : ℕ) → is_hex_digit c ≡ true → is_atom_character c ≡ true
hex-atom c is = grind (arith, nat_tests)

sign-atom : (negative : Bool) → list_all is_atom_character (sign_text negative) ≡ true
sign-atom true = refl
sign-atom false = refl

fraction-atom : (digits : List ℕ) → list_all is_digit digits ≡ true → list_all is_atom_character (fraction_text digits) ≡ true
fraction-atom [] all = refl
fraction-atom (c ∷ digits) all = ap (list_all is_atom_character) (fraction-text c digits) ∙ all-weaker is_digit is_atom_character digit-atom (c ∷ digits) all

number-characters : (signed : Bool) (number : Number) → IsSettled signed number → list_all is_atom_character (number_text number) ≡ true
unfolding number_text
number-characters signed number is =
    all-append is_atom_character (sign_text number.negative) (whole_text number.whole ++ fraction_text number.fraction) (sign-atom number.negative)
    (all-append is_atom_character (whole_text number.whole) (fraction_text number.fraction)
    (all-weaker is_digit is_atom_character digit-atom (whole_text number.whole) (whole-all number.whole is.whole)) (fraction-atom number.fraction is.fraction))

number-some : (number : Number) → 0 < length (number_text number)
unfolding number_text
number-some number =
    omega (
      arith,
      whole-some number.whole,
      length-append (sign_text number.negative) (whole_text number.whole ++ fraction_text number.fraction),
      length-append (whole_text number.whole) (fraction_text number.fraction),
    )

pub number-atom : (signed : Bool) (text out : List ℕ) → number_read signed text ≡ Some out → is_atom out ≡ true
number-atom signed = number_is signed (λ t. is_atom t ≡ true)
    (λ number is. and_from _ _ (some_characters (number_text number) (number-some number)) (number-characters signed number is))

pub length-atom : (signed percent : Bool) (text out : List ℕ) → length_read signed percent text ≡ Some out → is_atom out ≡ true
length-atom signed percent = length_is signed percent (λ t. is_atom t ≡ true) refl
    (λ number unit settled other is.
    and_from _ _ (some_characters (number_text number ++ unit) (omega (arith, number-some number, length-append (number_text number) unit)))
    (all-append is_atom_character (number_text number) unit (number-characters signed number settled) (unit_text percent unit is).atom))

color_atom : (out : List ℕ) → IsColor out → is_atom out ≡ true
color_atom out is =
    subst (λ t. is_atom t ≡ true) (sym is.text)
    (and_from _ _ (ap not (not_empty 0x23 is.digits)) (all-weaker is_hex_digit is_atom_character hex-atom is.digits is.all))

pub color-atom : (transparent : Bool) (text out : List ℕ) → color_read transparent text ≡ Some out → is_atom out ≡ true
color-atom transparent = color_is transparent (λ t. is_atom t ≡ true) color_atom (λ is. refl)

seven : (digits : List ℕ) → length digits ≡ 6 → (length (0x23 ∷ digits) == 7) ≡ true
seven digits six = grind (arith, nat_tests)

digits_color : (out : List ℕ) → IsColor out → is_color out ≡ true
digits_color out is = subst (λ t. is_color t ≡ true) (sym is.text) (and_from _ _ (seven is.digits is.six) is.all)

pub color-digits : (text out : List ℕ) → color_read false text ≡ Some out → is_color out ≡ true
color-digits = color_is false (λ t. is_color t ≡ true) digits_color (λ is. absurd cc)

-- ---- numbers and lengths are read from texts in ASCII, and are such texts

atom_text-ascii : (text : List ℕ) → is_atom text ≡ true → list_all is_ascii text ≡ true
atom_text-ascii text is = all-weaker is_atom_character is_ascii atom-ascii text (and_parts (not (length text == 0)) (list_all is_atom_character text) is).1

number-input : (signed : Bool) (text out : List ℕ) (found : Option Number) → number_of signed text ≡ found → option_map number_text found ≡ Some out → list_all is_ascii text ≡ true
number-input signed text out None is e = absurd cc
number-input signed text out (Some number) is e = all-weaker _ is_ascii number-ascii text (number_of-all signed text number is)

pub number-reads_ascii : (signed : Bool) → ReadsAscii (number_read signed)
number-reads_ascii signed = record {
  input = λ text out e. number-input signed text out (number_of signed text) refl e;
  output = λ text out e. atom_text-ascii out (number-atom signed text out e);
}

pub length-reads_ascii : (signed percent : Bool) → ReadsAscii (length_read signed percent)
length-reads_ascii signed percent = record {
  input = length-ascii signed percent;
  output = λ text out e. atom_text-ascii out (length-atom signed percent text out e);
}

-- ---- atoms are words, and words of a clean value

-- an atom's character, or a space
abbrev is_value_character : ℕ → Bool
is_value_character c = is_atom_character c || c == 0x20

atom-plain : (c : ℕ) → is_atom_character c ≡ true → is_plain Space c ≡ true
atom-plain c is = grind (arith, nat_tests)

atom-value : (c : ℕ) → is_atom_character c ≡ true → is_value_character c ≡ true
atom-value c is = grind (arith, nat_tests)

atom-space : (c : ℕ) → is_atom_character c ≡ true → is_space c ≡ false
atom-space c is = grind (arith, nat_tests)

value-plain : (c : ℕ) → is_value_character c ≡ true → is_plain Semicolon c ≡ true
value-plain c is = grind (arith, nat_tests)

value-harmless : (c : ℕ) → is_value_character c ≡ true → is_harmless c ≡ true
value-harmless c is = grind (arith, nat_tests)

pub atom-word : (text : List ℕ) → is_atom text ≡ true → is_plain_word text ≡ true
atom-word text is =
    let both = and_parts (not (length text == 0)) (list_all is_atom_character text) is in
    and_from _ _ both.0 (all-weaker is_atom_character (is_plain Space) atom-plain text both.1)

atoms_tight : (words : List (List ℕ)) → list_all is_atom words ≡ true → list_all is_tight words ≡ true
atoms_tight [] all = refl
atoms_tight (word ∷ words) all =
    let both = and_parts (is_atom word) (list_all is_atom words) all in
    let parts = and_parts (not (length word == 0)) (list_all is_atom_character word) both.0 in
    and_from _ _ (spaceless-tight is_atom_character atom-space word parts.0 parts.1) (atoms_tight words both.1)

value_characters : (words : List (List ℕ)) → list_all is_atom words ≡ true → list_all (list_all is_value_character) words ≡ true
value_characters [] all = refl
value_characters (word ∷ words) all =
    let both = and_parts (is_atom word) (list_all is_atom words) all in
    and_from _ _ (all-weaker is_atom_character is_value_character atom-value word (and_parts (not (length word == 0)) (list_all is_atom_character word) both.0).1)
    (value_characters words both.1)

pub atoms-clean : (word : List ℕ) (words : List (List ℕ)) → list_all is_atom (word ∷ words) ≡ true → IsCleanValue (join_with_byte 0x20 (word ∷ words))
atoms-clean word words all =
    let value = join_with_byte 0x20 (word ∷ words) in
    let characters = all-joined is_value_character 0x20 refl (word ∷ words) (value_characters (word ∷ words) all) in
    record {
      whole = plain_whole Semicolon value (all-weaker is_value_character (is_plain Semicolon) value-plain value characters);
      trim = joined-trimmed 0x20 word words (atoms_tight (word ∷ words) all);
      plain = harmless value (all-weaker is_value_character is_harmless value-harmless value characters);
    }
