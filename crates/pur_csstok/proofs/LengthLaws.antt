-- A length in its one form is read as itself.
use Rattle.std.proofs.Common.{◌≡◌, ℕ, Bool, true, false, List, [], ◌∷◌, ◌++◌, length, take, drop, codes, Some, None, refl, sym, ap, subst, ◌∙◌, arith, ⊎_elim}
use Rattle.std.specs.Prelude.{◌==◌, ◌&&◌, ◌||◌, Option}
use Rattle.std.specs.List.{list_all, prefix_len}
use Rattle.std.specs.Option.{option_map_or}
use Rattle.std.specs.Char.{to_ascii_lowercase}
use Rattle.pur_laws.proofs.Texts.{is_ascii}
use Rattle.std.specs.Str.{bytes_eq, str_to_ascii_lowercase}
use Rattle.std.proofs.lemmas.Bool.{cases_Bool, cond-true, cond-false, and_parts, or_cases, eqb-true}
use Rattle.std.proofs.lemmas.Bool.Decides.{nat_tests}
use Rattle.std.proofs.lemmas.List.{take_at, drop_at, take-append-drop, map-append}
use Rattle.pur_csstok.specs.Numbers.{Number, is_nought, number_of, number_text}
use Rattle.pur_csstok.specs.Atoms.{is_atom_character}
use Rattle.pur_csstok.specs.Names.{is_one_of}
use Rattle.pur_csstok.specs.Lengths.{is_number_character, units, is_unit, length_with, number_len, length_lowered, length_read}
use Rattle.std.specs.Cmp.Lexicographic.{same_text}
use Rattle.pur_csstok.proofs.DigitLemmas.{number_of-all, number-ascii}
use Rattle.pur_laws.proofs.Lists.{all-weaker, all-append, all-prefix}
use Rattle.pur_laws.proofs.Cases.{lowered-same, lowered-ascii}
use Rattle.pur_laws.proofs.Ends.{front_len}
use Rattle.pur_laws.proofs.Tests.{kept, not_empty, all-named}
use Rattle.pur_csstok.proofs.NumberLaws.{IsSettled, read_settled, settled_read}

-- ---- what a unit is

-- no character of a number begins it, it is in lower case, and it is made of what atoms are made of
is_unit_text : List ℕ → Bool
is_unit_text unit = prefix_len is_number_character unit == 0 && bytes_eq (str_to_ascii_lowercase unit) unit && list_all is_atom_character unit

pub record IsUnitText (unit : List ℕ) : Type 0 where
  pub stops : prefix_len is_number_character unit ≡ 0
  pub lowered : str_to_ascii_lowercase unit ≡ unit
  pub atom : list_all is_atom_character unit ≡ true

unit_names : list_all is_unit_text units ≡ true
unfolding is_unit_text
unit_names = refl

percent_sign : is_unit_text (codes "%") ≡ true
unfolding is_unit_text
percent_sign = refl

pub unit_text : (percent : Bool) (unit : List ℕ) → is_unit percent unit ≡ true → IsUnitText unit
unfolding is_unit_text
unit_text percent unit e =
    let is : is_unit_text unit ≡ true = ⊎_elim
    (λ (named : is_one_of units unit ≡ true). all-named is_unit_text units unit unit_names named)
    (λ (percentage : (percent && bytes_eq unit (codes "%")) ≡ true). ap is_unit_text (same_text unit (codes "%") (sym (and_parts _ _ percentage).1)) ∙ percent_sign)
    (or_cases _ _ e) in
    let both = and_parts (prefix_len is_number_character unit == 0 && bytes_eq (str_to_ascii_lowercase unit) unit) (list_all is_atom_character unit) is in
    let front = and_parts (prefix_len is_number_character unit == 0) (bytes_eq (str_to_ascii_lowercase unit) unit) both.0 in
    record { stops = eqb-true _ _ front.0; lowered = same_text _ _ (sym front.1); atom = both.1 }

-- ---- what a number's text is made of

number-lowered : (c : ℕ) → is_number_character c ≡ true → to_ascii_lowercase c ≡ c
number-lowered c is = grind (arith, nat_tests)

pub number-all : (signed : Bool) (number : Number) → IsSettled signed number → list_all is_number_character (number_text number) ≡ true
number-all signed number is = number_of-all signed (number_text number) number (settled_read signed number is)

-- ---- the law

-- what is read is zero, or such a number and a unit
length_found : (signed percent : Bool) (P : List ℕ → Type 0) → P (codes "0")
    → ((number : Number) (unit : List ℕ) → IsSettled signed number → is_nought number.whole number.fraction ≡ false → is_unit percent unit ≡ true → P (number_text number ++ unit))
    → (digits unit out : List ℕ) (found : Option Number) → number_of signed digits ≡ found → option_map_or (λ n. length_with percent n unit) found None ≡ Some out → P out
unfolding length_with
length_found signed percent P zero other digits unit out None is e = absurd cc
length_found signed percent P zero other digits unit out (Some number) is e = ⊎_elim
    (λ (none : is_nought number.whole number.fraction ≡ true).
    subst P (kept (length unit == 0 || is_unit percent unit) (codes "0") out (sym (cond-true _ _ _ none) ∙ e)).1 zero)
    (λ (some : is_nought number.whole number.fraction ≡ false).
    let both = kept (is_unit percent unit) (number_text number ++ unit) out (sym (cond-false _ _ _ some) ∙ e) in
    subst P both.1 (other number unit (read_settled signed digits number is) some both.0))
    (cases_Bool (is_nought number.whole number.fraction))

pub length_is : (signed percent : Bool) (P : List ℕ → Type 0) → P (codes "0")
    → ((number : Number) (unit : List ℕ) → IsSettled signed number → is_nought number.whole number.fraction ≡ false → is_unit percent unit ≡ true → P (number_text number ++ unit))
    → (text out : List ℕ) → length_read signed percent text ≡ Some out → P out
unfolding length_lowered
length_is signed percent P zero other text out e =
    let low = str_to_ascii_lowercase text in
    length_found signed percent P zero other (take (number_len low) low) (drop (number_len low) low) out (number_of signed (take (number_len low) low)) refl e

zero_read : (signed percent : Bool) → length_read signed percent (codes "0") ≡ Some (codes "0")
unfolding length_lowered length_with number_of
zero_read true percent = refl
zero_read false percent = refl

unit_read : (signed percent : Bool) (number : Number) (unit : List ℕ) → IsSettled signed number → is_nought number.whole number.fraction ≡ false → is_unit percent unit ≡ true
    → length_read signed percent (number_text number ++ unit) ≡ Some (number_text number ++ unit)
unfolding length_lowered length_with
unit_read signed percent number unit settled other is =
    let text = number_text number in
    let whole = text ++ unit in
    let all = number-all signed number settled in
    let unit_is = unit_text percent unit is in
    let low : str_to_ascii_lowercase whole ≡ whole =
    map-append to_ascii_lowercase text unit ∙ ap (λ t. t ++ str_to_ascii_lowercase unit) (lowered-same is_number_character number-lowered text all)
    ∙ ap (λ t. text ++ t) unit_is.lowered in
    let len : number_len whole ≡ length text = front_len is_number_character text unit all unit_is.stops in
    let front : take (number_len whole) whole ≡ text = take_at text unit (number_len whole) (sym len) in
    let back : drop (number_len whole) whole ≡ unit = drop_at text unit (number_len whole) (sym len) in
    let found : number_of signed (take (number_len whole) whole) ≡ Some number = ap (number_of signed) front ∙ settled_read signed number settled in
    ap (length_lowered signed percent) low
    ∙ ap (λ o. option_map_or (λ n. length_with percent n (drop (number_len whole) whole)) o None) found
    ∙ ap (length_with percent number) back
    ∙ cond-false _ _ _ other ∙ cond-true _ _ _ is

pub length-again : (signed percent : Bool) (text out : List ℕ) → length_read signed percent text ≡ Some out → length_read signed percent out ≡ Some out
length-again signed percent = length_is signed percent (λ t. length_read signed percent t ≡ Some t) (zero_read signed percent) (unit_read signed percent)

-- ---- a text that is read is in ASCII

pub atom-ascii : (c : ℕ) → is_atom_character c ≡ true → is_ascii c ≡ true
atom-ascii c is = grind (arith, nat_tests)

unit-ascii : (percent : Bool) (number : Number) (unit out : List ℕ) → length_with percent number unit ≡ Some out → list_all is_ascii unit ≡ true
unfolding length_with
unit-ascii percent number [] out e = refl
unit-ascii percent number (c ∷ unit) out e =
    let is : is_unit percent (c ∷ unit) ≡ true = ⊎_elim
    (λ (none : is_nought number.whole number.fraction ≡ true).
    sym (ap (λ b. b || is_unit percent (c ∷ unit)) (not_empty c unit))
    ∙ (kept (length (c ∷ unit) == 0 || is_unit percent (c ∷ unit)) (codes "0") out (sym (cond-true _ _ _ none) ∙ e)).0)
    (λ (some : is_nought number.whole number.fraction ≡ false).
    (kept (is_unit percent (c ∷ unit)) (number_text number ++ c ∷ unit) out (sym (cond-false _ _ _ some) ∙ e)).0)
    (cases_Bool (is_nought number.whole number.fraction)) in
    all-weaker is_atom_character is_ascii atom-ascii (c ∷ unit) (unit_text percent (c ∷ unit) is).atom

length_found-ascii : (percent : Bool) (unit out : List ℕ) (found : Option Number) → option_map_or (λ n. length_with percent n unit) found None ≡ Some out → list_all is_ascii unit ≡ true
length_found-ascii percent unit out None e = absurd cc
length_found-ascii percent unit out (Some number) e = unit-ascii percent number unit out e

pub length-ascii : (signed percent : Bool) (text out : List ℕ) → length_read signed percent text ≡ Some out → list_all is_ascii text ≡ true
unfolding length_lowered
length-ascii signed percent text out e =
    let low = str_to_ascii_lowercase text in
    let n = number_len low in
    let front = all-weaker is_number_character is_ascii number-ascii (take n low) (all-prefix is_number_character low) in
    let back = length_found-ascii percent (drop n low) out (number_of signed (take n low)) e in
    lowered-ascii text (ap (list_all is_ascii) (sym (take-append-drop n low)) ∙ all-append is_ascii (take n low) (drop n low) front back)
