-- Values and attributes, byte by byte and character by character.
use Rattle.std.proofs.Common.{◌≡◌, ℕ, zero, suc, ◌<◌, ◌+◌, Bool, true, false, List, [], ◌∷◌, ◌++◌, drop, get_or, slice_get, codes, encode_utf8, encode_utf8_all, refl, sym, ap, subst, ◌∙◌, arith, append-nil, append_assoc, add-one}
use Rattle.std.specs.Prelude.{◌==◌, not, if◌then◌else◌, Some}
use Rattle.std.specs.List.{list_all}
use Rattle.std.specs.Str.{chars, IsUtf8}
use Rattle.std.proofs.lemmas.Bool.{and_parts, eqb-true}
use Rattle.std.proofs.lemmas.Bool.Decides.{nat_tests}
use Rattle.std.proofs.Math.Utf8.{encode}
use Rattle.std.proofs.lemmas.Grind.{flat_map-append}
use Rattle.std.proofs.lemmas.Str.{encodes-append, encodes-chars, inside_one}
use Rattle.std.proofs.lemmas.Option.{same_Some}
use Rattle.pur_text.specs.Escapes.{escape, escaped}
use Rattle.pur_attrlist.specs.Attributes.{Attribute, names_of, values_of}
use Rattle.pur_tree.specs.Spelling.{escape_in_value, escaped_value, attribute_text, attributes_text}
use Rattle.pur_writer.specs.Private.Bytes.{is_no_quote}
use Rattle.pur_laws.proofs.Places.{none_at_all}
use Rattle.pur_writer.proofs.EscapedLemmas.{encode-escape}

pub escaped_value-append : (xs ys : List ℕ) → escaped_value (xs ++ ys) ≡ escaped_value xs ++ escaped_value ys
unfolding escaped_value
escaped_value-append xs ys = flat_map-append escape_in_value xs ys

-- another character than a quotation mark is written as in a text
escape_other : (c : ℕ) → is_no_quote c ≡ true → escape_in_value c ≡ escape c
escape_other c = go (c == 0x22)
  where
    go : (q : Bool) → not q ≡ true → (if q then codes "&quot;" else escape c) ≡ escape c
    go true h = absurd (cc)
    go false h = refl

-- so is a run of them
pub escaped_value-run : (run : List ℕ) → list_all is_no_quote run ≡ true → escaped_value run ≡ escaped run
unfolding escaped_value escaped
escaped_value-run [] all = refl
escaped_value-run (b ∷ run) all =
    let parts = and_parts (is_no_quote b) (list_all is_no_quote run) all in
    ap (λ l. l ++ escaped_value run) (escape_other b parts.0) ∙ ap (λ l. escape b ++ l) (escaped_value-run run parts.1)

-- a run, a quotation mark, and what stands behind them
pub escaped_value-cut : (run behind : List ℕ) → list_all is_no_quote run ≡ true → escaped_value (run ++ 0x22 ∷ behind) ≡ escaped run ++ (codes "&quot;" ++ escaped_value behind)
unfolding escaped_value
escaped_value-cut run behind all =
    escaped_value-append run (0x22 ∷ behind) ∙ ap (λ l. l ++ (codes "&quot;" ++ escaped_value behind)) (escaped_value-run run all)

-- a run and the reference behind it are written where their bytes are
pub quote_written : (o a b run behind rest whole : List ℕ) → a ≡ o ++ escaped run → b ≡ a ++ codes "&quot;"
    → rest ≡ run ++ 0x22 ∷ behind → list_all is_no_quote run ≡ true → o ++ escaped_value rest ≡ whole → b ++ escaped_value behind ≡ whole
quote_written o a b run behind rest whole p q s all before =
    ap (λ x. x ++ escaped_value behind) (q ∙ ap (λ x. x ++ codes "&quot;") p)
    ∙ regroup o (escaped run) (codes "&quot;") (escaped_value behind)
    ∙ ap (λ x. o ++ x) (sym (ap escaped_value s ∙ escaped_value-cut run behind all))
    ∙ before
  where
    regroup : (o u e v : List ℕ) → ((o ++ u) ++ e) ++ v ≡ o ++ (u ++ (e ++ v))
    regroup o u e v = simp append_assoc

-- the bytes of another character have no quotation mark
no_quote_bytes : (c : ℕ) → (c == 0x22) ≡ false → list_all is_no_quote (encode_utf8 c) ≡ true
no_quote_bytes c other =
    none_at_all (λ b. b == 0x22) (encode_utf8 c) (λ k low high yes.
    let same = inside_one c [] (encode_utf8 c) k (sym (append-nil (encode_utf8 c))) high (is_low (get_or (encode_utf8 c) k 0) yes) in
    let quote : (c == 0x22) ≡ true = ap (λ d. d == 0x22) same ∙ yes in
    absurd (cc))
  where
    is_low : (b : ℕ) → (b == 0x22) ≡ true → b < 128
    is_low b h = grind (arith, nat_tests)

encode-quote : encode_utf8_all (escape_in_value 0x22) ≡ escaped_value (encode_utf8 0x22)
unfolding encode escaped_value
encode-quote = refl

-- the UTF-8 of a character of a value
encode-escape_in_value : (c : ℕ) → encode_utf8_all (escape_in_value c) ≡ escaped_value (encode_utf8 c)
encode-escape_in_value c = go (c == 0x22) refl
  where
    go : (q : Bool) → (c == 0x22) ≡ q → encode_utf8_all (escape_in_value c) ≡ escaped_value (encode_utf8 c)
    go true h = subst (λ x. encode_utf8_all (escape_in_value x) ≡ escaped_value (encode_utf8 x)) (sym (eqb-true c 0x22 h)) encode-quote
    go false h =
        ap encode_utf8_all (escape_other c (ap not h)) ∙ encode-escape c ∙ sym (escaped_value-run (encode_utf8 c) (no_quote_bytes c h))

-- the UTF-8 of a value with escapes is its UTF-8 with escapes
pub encode-escaped_value : (text : List ℕ) → encode_utf8_all (escaped_value text) ≡ escaped_value (encode_utf8_all text)
unfolding escaped_value
encode-escaped_value [] = refl
encode-escaped_value (c ∷ text) =
    encodes-append (escape_in_value c) (escaped_value text)
    ∙ ap (λ l. l ++ encode_utf8_all (escaped_value text)) (encode-escape_in_value c)
    ∙ ap (λ l. escaped_value (encode_utf8 c) ++ l) (encode-escaped_value text)
    ∙ sym (escaped_value-append (encode_utf8 c) (encode_utf8_all text))

-- the bytes of an attribute, by those of its name and its value
pub encode-attribute : (name value : List ℕ) → IsUtf8 name → IsUtf8 value
    → encode_utf8_all (attribute_text (chars name, chars value)) ≡ codes " " ++ (name ++ (codes "=\"" ++ (escaped_value value ++ codes "\"")))
unfolding encode
encode-attribute name value u v =
    encodes-append (codes " ") (chars name ++ (codes "=\"" ++ (escaped_value (chars value) ++ codes "\"")))
    ∙ ap (λ l. codes " " ++ l) (encodes-append (chars name) (codes "=\"" ++ (escaped_value (chars value) ++ codes "\""))
    ∙ ap (λ l. l ++ encode_utf8_all (codes "=\"" ++ (escaped_value (chars value) ++ codes "\""))) (encodes-chars name u)
    ∙ ap (λ l. name ++ l) (encodes-append (codes "=\"") (escaped_value (chars value) ++ codes "\"")
    ∙ ap (λ l. codes "=\"" ++ l) (encodes-append (escaped_value (chars value)) (codes "\"")
    ∙ ap (λ l. l ++ codes "\"") (encode-escaped_value (chars value) ∙ ap escaped_value (encodes-chars value v)))))

-- what is left of attributes is the next one and what is left behind it
pub attributes-next : (pairs : List Attribute) (place : ℕ) (name value : List ℕ) → slice_get (names_of pairs) place ≡ Some name
    → slice_get (values_of pairs) place ≡ Some value → attributes_text (drop place pairs) ≡ attribute_text (name, value) ++ attributes_text (drop (suc place) pairs)
attributes-next [] place name value n v = cc
attributes-next (pair ∷ pairs) zero name value n v =
    ap (λ x. attribute_text (x, pair.1) ++ attributes_text pairs) (same_Some pair.0 name n)
    ∙ ap (λ x. attribute_text (name, x) ++ attributes_text pairs) (same_Some pair.1 value v)
attributes-next (pair ∷ pairs) (suc place) name value n v = attributes-next pairs place name value n v

-- an attribute is written where its bytes are, with what is left
pub attribute_written : (pairs : List Attribute) (place : ℕ) (name value o a whole : List ℕ) → slice_get (names_of pairs) place ≡ Some name
    → slice_get (values_of pairs) place ≡ Some value → a ≡ o ++ encode_utf8_all (attribute_text (name, value))
    → o ++ encode_utf8_all (attributes_text (drop place pairs)) ≡ whole → a ++ encode_utf8_all (attributes_text (drop (place + 1) pairs)) ≡ whole
attribute_written pairs place name value o a whole n v p before =
    rw add-one (ap (λ x. x ++ encode_utf8_all (attributes_text (drop (suc place) pairs))) p
    ∙ append_assoc o (encode_utf8_all (attribute_text (name, value))) (encode_utf8_all (attributes_text (drop (suc place) pairs)))
    ∙ ap (λ x. o ++ x) (sym (encodes-append (attribute_text (name, value)) (attributes_text (drop (suc place) pairs))) ∙ ap encode_utf8_all (sym (attributes-next pairs place name value n v)))
    ∙ before)
