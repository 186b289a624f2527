-- Clean declarations are read from the style that writes them.
use Rattle.std.proofs.Common.{◌≡◌, ℕ, ◌++◌, true, false, List, [], ◌∷◌, Some, None, refl, ap, ◌∙◌, arith, append_assoc}
use Rattle.std.specs.Prelude.{◌==◌, not, Option, is_none}
use Rattle.std.specs.List.{filter_map, cons_option}
use Rattle.std.specs.Char.{to_ascii_lowercase}
use Rattle.std.specs.Str.{str_to_ascii_lowercase}
use Rattle.std.proofs.lemmas.Bool.{and_parts, eqb-true}
use Rattle.std.proofs.lemmas.Bool.Decides.{nat_tests}
use Rattle.pur_text.specs.Characters.{is_space}
use Rattle.pur_text.specs.Trimming.{trimmed}
use Rattle.pur_csstok.specs.Cuts.{nothing_open, is_outside, open_after, is_cut, pieces_from, stays_whole, is_whole, is_plain}
use Rattle.pur_csstok.specs.Declarations.{Pair, has_escape_or_comment, is_colon, declaration_of, declarations_of, declaration_body, style_text, is_property_character, IsClean, AreClean}
use Rattle.pur_csstok.specs.Open.{open_behind}
use Rattle.pur_csstok.specs.declared.cuts.Nesting.{Nesting}
use Rattle.pur_csstok.specs.declared.cuts.Separator.TheVariants.{Semicolon}
use Rattle.pur_csstok.proofs.CutLaws.{plain_front, whole_cut}
use Rattle.pur_csstok.proofs.DeclarationLemmas.{escape_none, piece_read}
use Rattle.pur_csstok.proofs.EndLaws.{is_harmless, harmless_before, harmless_front, spaceless-trimmed}
use Rattle.pur_laws.proofs.Lists.{all-weaker}
use Rattle.pur_laws.proofs.Cases.{lowered-same}

-- ---- what a property's name hasn't

property-plain : (c : ℕ) → is_property_character c ≡ true → is_plain Semicolon c ≡ true
property-plain c is = grind (arith, nat_tests)

property-low : (c : ℕ) → is_property_character c ≡ true → to_ascii_lowercase c ≡ c
property-low c is = grind (arith, nat_tests)

property-colon : (c : ℕ) → is_property_character c ≡ true → not (is_colon c) ≡ true
property-colon c is = grind (arith, nat_tests)

property-space : (c : ℕ) → is_property_character c ≡ true → is_space c ≡ false
property-space c is = grind (arith, nat_tests)

property-harmless : (c : ℕ) → is_property_character c ≡ true → is_harmless c ≡ true
property-harmless c is = grind (arith, nat_tests)

-- ---- one declaration

body-whole : (pair : Pair) → IsClean pair → is_whole Semicolon (declaration_body pair) ≡ true
body-whole pair is =
    plain_front Semicolon pair.0 (0x3A ∷ pair.1) (all-weaker is_property_character (is_plain Semicolon) property-plain pair.0 is.property)
    ∙ plain_front Semicolon (0x3A ∷ []) pair.1 refl ∙ is.value.whole

abbrev some_pair : List ℕ → List ℕ → Option Pair
some_pair property value = Some (property, value)

both_same : (a b c d : List ℕ) → a ≡ b → c ≡ d → some_pair a c ≡ some_pair b d
both_same a b c d p q = ap (λ t. some_pair t c) p ∙ ap (λ t. some_pair b t) q

body-plain : (pair : Pair) → IsClean pair → has_escape_or_comment (declaration_body pair) ≡ false
body-plain pair is =
    harmless_front pair.0 (0x3A ∷ pair.1) (all-weaker is_property_character is_harmless property-harmless pair.0 is.property)
    ∙ harmless_front (0x3A ∷ []) pair.1 refl ∙ is.value.plain

body-read : (pair : Pair) → IsClean pair → declaration_of (declaration_body pair) ≡ Some pair
body-read pair is =
    let property : str_to_ascii_lowercase (trimmed pair.0) ≡ pair.0 =
    ap str_to_ascii_lowercase (spaceless-trimmed is_property_character property-space pair.0 is.property)
    ∙ lowered-same is_property_character property-low pair.0 is.property in
    piece_read (declaration_body pair) pair.0 pair.1 (body-plain pair is) refl (all-weaker is_property_character (λ c. not (is_colon c)) property-colon pair.0 is.property)
    ∙ both_same _ _ _ _ property is.value.trim

-- ---- all of them

nil_read : declaration_of [] ≡ None
unfolding declaration_of has_escape_or_comment
nil_read = refl

pub declarations-again : (pairs : List Pair) → AreClean pairs → declarations_of (style_text pairs) ≡ pairs
unfolding pieces_from
declarations-again [] all = ap (λ o. cons_option o []) nil_read
declarations-again (pair ∷ pairs) all =
    let body = declaration_body pair in
    ap declarations_of (append_assoc body (0x3B ∷ []) (style_text pairs))
    ∙ ap (filter_map declaration_of) (whole_cut Semicolon body 0x3B (style_text pairs) refl (body-whole pair all.0))
    ∙ ap (λ o. cons_option o (declarations_of (style_text pairs))) (body-read pair all.0)
    ∙ ap (λ t. pair ∷ t) (declarations-again pairs all.1)

-- ---- what is open behind them

none_is : (o : Option ℕ) → is_none o ≡ true → o ≡ None
none_is None is = refl
none_is (Some x) is = absurd cc

outside_is : (before : Nesting) → is_outside before ≡ true → before ≡ nothing_open
outside_is before is =
    let both = and_parts (is_none before.quote) (before.depth == 0) is in
    go before.quote before.depth (none_is before.quote both.0) (eqb-true before.depth 0 both.1) where
      go : (quote : Option ℕ) (depth : ℕ) → quote ≡ None → depth ≡ 0 → (let n : Nesting = record { quote = quote; depth = depth } in n) ≡ nothing_open
      go quote depth q d = rw (q, d) refl

whole_closed : (before : Nesting) (text : List ℕ) → stays_whole Semicolon before text ≡ true → open_behind before text ≡ nothing_open
unfolding stays_whole
whole_closed before [] whole = outside_is before whole
whole_closed before (c ∷ text) whole =
    whole_closed (open_after true before c) text (and_parts (not (is_cut Semicolon before c)) (stays_whole Semicolon (open_after true before c) text) whole).1

open-append : (before : Nesting) (front text : List ℕ) → open_behind before (front ++ text) ≡ open_behind (open_behind before front) text
open-append before [] text = refl
open-append before (c ∷ front) text = open-append (open_after true before c) front text

pub declarations-closed : (pairs : List Pair) → AreClean pairs → open_behind nothing_open (style_text pairs) ≡ nothing_open
declarations-closed [] all = refl
declarations-closed (pair ∷ pairs) all =
    let body = declaration_body pair in
    open-append nothing_open (body ++ 0x3B ∷ []) (style_text pairs)
    ∙ ap (λ n. open_behind n (style_text pairs)) (open-append nothing_open body (0x3B ∷ []) ∙ ap (λ n. open_behind n (0x3B ∷ [])) (whole_closed nothing_open body (body-whole pair all.0)))
    ∙ declarations-closed pairs all.1

pub declarations-plain : (pairs : List Pair) → AreClean pairs → has_escape_or_comment (style_text pairs) ≡ false
declarations-plain [] all = escape_none
declarations-plain (pair ∷ pairs) all =
    ap has_escape_or_comment (append_assoc (declaration_body pair) (0x3B ∷ []) (style_text pairs))
    ∙ harmless_before (declaration_body pair) (0x3B ∷ style_text pairs) refl (body-plain pair all.0)
    (harmless_front (0x3B ∷ []) (style_text pairs) refl ∙ declarations-plain pairs all.1)
