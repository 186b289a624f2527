-- A colour in its one form is read as itself.
use Rattle.std.proofs.Common.{◌≡◌, ℕ, ◌+◌, ◌<◌, ◌≤◌, ◌/◌, ◌%◌, Bool, true, false, cond, List, [], ◌∷◌, ◌++◌, length, take, drop, codes, Some, None, refl, sym, ap, subst, ◌∙◌, arith, ⊎_elim}
use Rattle.std.specs.Prelude.{◌==◌, ◌&&◌, ◌||◌, Option}
use Rattle.std.specs.List.{list_all, flat_map}
use Rattle.std.specs.Char.{to_ascii_lowercase, digit_char}
use Rattle.pur_laws.proofs.Texts.{is_ascii, chars_ascii}
use Rattle.std.specs.Str.{bytes_eq, chars, str_to_ascii_lowercase}
use Rattle.std.proofs.lemmas.Bool.{cases_Bool, cases_lt, cond-true, cond-false, and_parts, and_from, eqb-true}
use Rattle.std.proofs.lemmas.Bool.Decides.{nat_tests}
use Rattle.std.specs.Cmp.Lexicographic.{same_text}
use Rattle.pur_csstok.specs.Colors.{is_hex_digit, is_hash, six_digits, hash_read, Row, rows, color_in, color_named, part_value, two_digits, is_part, parts_read, between_commas, rgb_read, lowered_read, color_read}
use Rattle.std.specs.Option.{option_or}
use Rattle.std.proofs.lemmas.Option.{option_and_then_some, same_Some}
use Rattle.pur_csstok.specs.Ends.{argument_of}
use Rattle.pur_laws.proofs.Lists.{all-weaker}
use Rattle.pur_csstok.proofs.ColorLemmas.{hex-ascii}
use Rattle.pur_laws.proofs.Cases.{lowered-same}
use Rattle.pur_laws.proofs.Tests.{kept}
use Rattle.pur_csstok.proofs.TextLemmas.{ReadsAscii}

-- `#` and six digits
is_six : List ℕ → Bool
is_six digits = length digits == 6 && list_all is_hex_digit digits

pub record IsColor (out : List ℕ) : Type 0 where
  pub digits : List ℕ
  pub text : out ≡ 0x23 ∷ digits
  pub six : length digits ≡ 6
  pub all : list_all is_hex_digit digits ≡ true

-- ---- what is read is such a text

hash-digits : (digits : List ℕ) → list_all is_hex_digit digits ≡ true → (length (0x23 ∷ digits) == 4 || length (0x23 ∷ digits) == 7) ≡ true → IsColor (0x23 ∷ six_digits digits)
hash-digits (a ∷ b ∷ c ∷ []) all long =
    let one = and_parts (is_hex_digit a) _ all in
    let two = and_parts (is_hex_digit b) _ one.1 in
    let three = and_parts (is_hex_digit c) true two.1 in
    record {
      digits = a ∷ a ∷ b ∷ b ∷ c ∷ c ∷ [];
      text = refl;
      six = omega arith;
      all = rw (one.0, two.0, three.0) refl;
    }
hash-digits [] all long = absurd cc
hash-digits (a ∷ []) all long = absurd cc
hash-digits (a ∷ b ∷ []) all long = absurd cc
hash-digits (a ∷ b ∷ c ∷ d ∷ rest) all long =
    let digits = a ∷ b ∷ c ∷ d ∷ rest in
    let other : (length digits == 3) ≡ false = grind (arith, nat_tests) in
    let six : length digits ≡ 6 = grind (arith, nat_tests) in
    record { digits = digits; text = ap (λ t. 0x23 ∷ t) (cond-false _ _ _ other); six = six; all = all }

hash_color : (text : List ℕ) → is_hash text ≡ true → IsColor (0x23 ∷ six_digits (drop 1 text))
hash_color [] is = absurd cc
hash_color (c ∷ text) is =
    let both = and_parts _ _ is in
    hash-digits text both.1 (and_parts _ _ both.0).1

hash_is : (text out : List ℕ) → hash_read text ≡ Some out → IsColor out
unfolding hash_read
hash_is text out e =
    let both = kept (is_hash text) (0x23 ∷ six_digits (drop 1 text)) out e in
    subst IsColor both.1 (hash_color text both.0)

-- a text that is a colour, as a test that computes on the table
is_colored : List ℕ → Bool
is_colored out = bytes_eq (take 1 out) (codes "#") && is_six (drop 1 out)

colored : (out : List ℕ) → is_colored out ≡ true → IsColor out
unfolding is_colored is_six
colored [] is = absurd cc
colored (c ∷ digits) is =
    let both = and_parts _ _ is in
    let six = and_parts (length digits == 6) (list_all is_hex_digit digits) both.1 in
    let first : c ∷ [] ≡ 0x23 ∷ [] = same_text (c ∷ []) (codes "#") (sym both.0) in
    record { digits = digits; text = ap (λ t. t ++ digits) first; six = eqb-true _ _ six.0; all = six.1 }

named_in : (table : List Row) (name out : List ℕ) → list_all (λ row. is_colored row.1) table ≡ true → color_in table name ≡ Some out → is_colored out ≡ true
named_in [] name out all e = absurd cc
named_in (row ∷ table) name out all e =
    let both = and_parts (is_colored row.1) (list_all (λ row. is_colored row.1) table) all in
    ⊎_elim
    (λ (hit : bytes_eq name row.0 ≡ true). ap is_colored (sym (same_Some row.1 out (sym (cond-true _ _ _ hit) ∙ e))) ∙ both.0)
    (λ (miss : bytes_eq name row.0 ≡ false). named_in table name out both.1 (sym (cond-false _ _ _ miss) ∙ e))
    (cases_Bool (bytes_eq name row.0))

rows_colored : list_all (λ row. is_colored row.1) rows ≡ true
unfolding is_colored is_six
rows_colored = refl

named_is : (name out : List ℕ) → color_named name ≡ Some out → IsColor out
unfolding color_named
named_is name out e = colored out (named_in rows name out rows_colored e)

digit_hex : (d : ℕ) → d < 16 → is_hex_digit (digit_char d) ≡ true
digit_hex d low = ⊎_elim
    (λ (small : d < 10). let e : digit_char d ≡ 48 + d = grind (arith, nat_tests) in ap is_hex_digit e ∙ grind (arith, nat_tests))
    (λ (large : 10 ≤ d). let e : digit_char d ≡ 87 + d = grind (arith, nat_tests) in ap is_hex_digit e ∙ grind (arith, nat_tests))
    (cases_lt d 10)

three_color : (r g b : ℕ) → r < 256 → g < 256 → b < 256 → IsColor (0x23 ∷ flat_map two_digits (r ∷ g ∷ b ∷ []))
three_color r g b rl gl bl = record {
  digits = flat_map two_digits (r ∷ g ∷ b ∷ []);
  text = refl;
  six = omega arith;
  all = rw (
    digit_hex (r / 16) (omega arith),
    digit_hex (r % 16) (omega arith),
    digit_hex (g / 16) (omega arith),
    digit_hex (g % 16) (omega arith),
    digit_hex (b / 16) (omega arith),
    digit_hex (b % 16) (omega arith),
  ) refl;
}

parts_color : (parts : List (List ℕ)) → (length parts == 3) ≡ true → IsColor (0x23 ∷ flat_map (λ part. two_digits (part_value part)) parts)
parts_color [] three = absurd cc
parts_color (a ∷ []) three = absurd cc
parts_color (a ∷ b ∷ []) three = absurd cc
parts_color (a ∷ b ∷ c ∷ []) three = three_color (part_value a) (part_value b) (part_value c) (omega arith) (omega arith) (omega arith)
parts_color (a ∷ b ∷ c ∷ d ∷ rest) three = absurd (omega (arith, eqb-true _ _ three))

parts_is : (parts : List (List ℕ)) (out : List ℕ) → parts_read parts ≡ Some out → IsColor out
unfolding parts_read
parts_is parts out e =
    let both = kept (length parts == 3 && list_all is_part parts) (0x23 ∷ flat_map (λ part. two_digits (part_value part)) parts) out e in
    subst IsColor both.1 (parts_color parts (and_parts _ _ both.0).0)

rgb_is : (text out : List ℕ) → rgb_read text ≡ Some out → IsColor out
unfolding rgb_read
rgb_is text out e =
    option_and_then_some (λ inside. parts_read (between_commas inside)) (argument_of (codes "rgb(") text) out e
    (λ inside found read. parts_is (between_commas inside) out read)

one_of : (P : List ℕ → Type 0) (first second : Option (List ℕ)) (out : List ℕ) → (first ≡ Some out → P out) → (second ≡ Some out → P out) → option_or first second ≡ Some out → P out
one_of P None second out one two e = two e
one_of P (Some color) second out one two e = one e

lowered_is : (text out : List ℕ) → lowered_read text ≡ Some out → IsColor out
lowered_is text out =
    one_of IsColor (hash_read text) (option_or (color_named text) (rgb_read text)) out (hash_is text out)
    (one_of IsColor (color_named text) (rgb_read text) out (named_is text out) (rgb_is text out))

-- ---- such a text is read as itself

hex-low : (c : ℕ) → is_hex_digit c ≡ true → to_ascii_lowercase c ≡ c
hex-low c is = grind (arith, nat_tests)

six_is_hash : (digits : List ℕ) → length digits ≡ 6 → list_all is_hex_digit digits ≡ true → hash_read (0x23 ∷ digits) ≡ Some (0x23 ∷ digits)
unfolding hash_read
six_is_hash digits six all =
    let long : (length (0x23 ∷ digits) == 4 || length (0x23 ∷ digits) == 7) ≡ true = grind (arith, nat_tests) in
    let hash : is_hash (0x23 ∷ digits) ≡ true = and_from _ _ long all in
    let other : (length digits == 3) ≡ false = grind (arith, nat_tests) in
    cond-true _ _ _ hash ∙ ap (λ t. Some (0x23 ∷ t)) (cond-false _ _ _ other)

not_transparent : (transparent : Bool) (digits : List ℕ) → (transparent && bytes_eq (0x23 ∷ digits) (codes "transparent")) ≡ false
not_transparent true digits = refl
not_transparent false digits = refl

digits_again : (transparent : Bool) (digits : List ℕ) → length digits ≡ 6 → list_all is_hex_digit digits ≡ true → color_read transparent (0x23 ∷ digits) ≡ Some (0x23 ∷ digits)
unfolding color_read
digits_again transparent digits six all =
    let low : str_to_ascii_lowercase (0x23 ∷ digits) ≡ 0x23 ∷ digits = ap (λ t. 0x23 ∷ t) (lowered-same is_hex_digit hex-low digits all) in
    ap (λ t. cond (transparent && bytes_eq t (codes "transparent")) (Some t) (lowered_read t)) low
    ∙ cond-false _ _ _ (not_transparent transparent digits)
    ∙ ap (λ o. option_or o (option_or (color_named (0x23 ∷ digits)) (rgb_read (0x23 ∷ digits)))) (six_is_hash digits six all)

color_again : (transparent : Bool) (out : List ℕ) → IsColor out → color_read transparent out ≡ Some out
color_again transparent out is =
    subst (λ t. color_read transparent t ≡ Some t) (sym is.text) (digits_again transparent is.digits is.six is.all)

-- ---- the law

-- what is read is such a text, or the one word
pub color_is : (transparent : Bool) (P : List ℕ → Type 0) → ((out : List ℕ) → IsColor out → P out) → (transparent ≡ true → P (codes "transparent"))
    → (text out : List ℕ) → color_read transparent text ≡ Some out → P out
unfolding color_read
color_is transparent P color word text out e =
    let low = str_to_ascii_lowercase text in
    let test = transparent && bytes_eq low (codes "transparent") in
    ⊎_elim
    (λ (hit : test ≡ true).
    let both = and_parts transparent (bytes_eq low (codes "transparent")) hit in
    let same : codes "transparent" ≡ out = sym (same_text low (codes "transparent") (sym both.1)) ∙ same_Some low out (sym (cond-true _ _ _ hit) ∙ e) in
    subst P same (word both.0))
    (λ (miss : test ≡ false). color out (lowered_is low out (sym (cond-false _ _ _ miss) ∙ e)))
    (cases_Bool test)

word_again : (transparent : Bool) → transparent ≡ true → color_read transparent (codes "transparent") ≡ Some (codes "transparent")
unfolding color_read
word_again true is = refl
word_again false is = absurd cc

pub color-again : (transparent : Bool) (text out : List ℕ) → color_read transparent text ≡ Some out → color_read transparent out ≡ Some out
color-again transparent = color_is transparent (λ t. color_read transparent t ≡ Some t) (color_again transparent) (word_again transparent)

-- ---- a text that is read by its digits or its name is in ASCII

hash_char : (c : ℕ) → (c == 0x23) ≡ true → is_ascii c ≡ true
hash_char c is = grind (arith, nat_tests)

hash_text-ascii : (text : List ℕ) → is_hash text ≡ true → list_all is_ascii text ≡ true
hash_text-ascii [] is = refl
hash_text-ascii (c ∷ text) is =
    let both = and_parts _ (list_all is_hex_digit text) is in
    and_from _ _ (hash_char c (and_parts (c == 0x23) _ both.0).0) (all-weaker is_hex_digit is_ascii hex-ascii text both.1)

color_ascii : (out : List ℕ) → IsColor out → list_all is_ascii out ≡ true
color_ascii out is = subst (λ t. list_all is_ascii t ≡ true) (sym is.text) (all-weaker is_hex_digit is_ascii hex-ascii is.digits is.all)

pub hash-reads_ascii : ReadsAscii hash_read
unfolding hash_read
hash-reads_ascii = record {
  input = λ text out e. hash_text-ascii text (kept (is_hash text) (0x23 ∷ six_digits (drop 1 text)) out e).0;
  output = λ text out e. color_ascii out (hash_is text out e);
}

named-ascii : (table : List Row) (name out : List ℕ) → list_all (λ row. list_all is_ascii row.0) table ≡ true → color_in table name ≡ Some out → list_all is_ascii name ≡ true
named-ascii [] name out all e = absurd cc
named-ascii (row ∷ table) name out all e =
    let both = and_parts (list_all is_ascii row.0) (list_all (λ row. list_all is_ascii row.0) table) all in
    ⊎_elim
    (λ (hit : bytes_eq name row.0 ≡ true). ap (list_all is_ascii) (same_text name row.0 (sym hit)) ∙ both.0)
    (λ (miss : bytes_eq name row.0 ≡ false). named-ascii table name out both.1 (sym (cond-false _ _ _ miss) ∙ e))
    (cases_Bool (bytes_eq name row.0))

pub name-reads_ascii : ReadsAscii color_named
unfolding color_named
name-reads_ascii = record {
  input = λ text out e. named-ascii rows text out refl e;
  output = λ text out e. color_ascii out (named_is text out e);
}

pub digits-chars : (r g b : ℕ) → r < 256 → g < 256 → b < 256
    → chars (0x23 ∷ flat_map two_digits (r ∷ g ∷ b ∷ [])) ≡ 0x23 ∷ flat_map two_digits (r ∷ g ∷ b ∷ [])
digits-chars r g b rl gl bl = chars_ascii _ (color_ascii _ (three_color r g b rl gl bl))

pub transparent-ascii : (text : List ℕ) → bytes_eq text (codes "transparent") ≡ true → list_all is_ascii text ≡ true
transparent-ascii text is = ap (list_all is_ascii) (same_text text (codes "transparent") (sym is))
