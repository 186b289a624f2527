-- Texts as bytes and as characters, where they are cut at ASCII characters.
use Rattle.std.proofs.Common.{◌≡◌, ◌≢◌, ℕ, ◌<◌, ◌+◌, Bool, true, false, List, [], ◌∷◌, ◌++◌, length, take, drop, Option, None, Some, subst, refl, sym, ap, ◌∙◌, arith, IsUtf8, encode_utf8_all, MatchOption, Bor, append-nil}
use Rattle.std.specs.Prelude.{◌==◌, ◌||◌}
use Rattle.std.specs.List.{list_all, list_any}
use Rattle.std.specs.Char.{IsScalar, encode_utf8}
use Rattle.std.specs.Str.{chars, NonePass}
use Rattle.std.specs.Str.Pattern.{FindsChar, FindsTextPrefix, SplitsAroundMatch}
use Rattle.std.proofs.lemmas.Bool.Decides.{nat_tests}
use Rattle.std.proofs.lemmas.List.{take-append-drop}
use Rattle.std.proofs.lemmas.Str.{chars-nil, chars-append, chars_past_char, chars_from_encodes, encodes-chars, IsUtf8-encode}
use Rattle.std.proofs.lemmas.Slice.Eq.{bytes_eq-Decides}
use Rattle.std.specs.Str.{bytes_eq}
use Rattle.pur_laws.proofs.Texts.{is_ascii, chars_ascii, chars_past, encodes_past, same_chars}
use Rattle.pur_laws.proofs.Tests.{same_number}
use Rattle.pur_names.specs.declared.elements.Element.{Element}
use Rattle.pur_names.specs.declared.attributes.Attr.{Attr}
use Rattle.pur_names.specs.Elements.{element_name}
use Rattle.pur_names.specs.Attributes.{attr_name, all_attrs}
use Rattle.pur_names.proofs.ElementLaws.{element_name-ascii}
use Rattle.pur_names.proofs.AttrLaws.{each_attr}
use Rattle.pur_tree.proofs.CutLemmas.{is_stop}
use Rattle.pur_tree.specs.Spelling.{is_attr_name}

-- ---- a mark in front

pub mark_behind : (mark text rest : List ℕ) → list_all is_ascii mark ≡ true → text ≡ mark ++ rest → chars text ≡ mark ++ chars rest
mark_behind mark text rest all e = ap chars e ∙ chars_past mark rest all

pub no_mark : (mark text : List ℕ) → IsUtf8 text → list_all is_ascii mark ≡ true → ((rest : List ℕ) → text ≢ mark ++ rest) → (rest : List ℕ) → chars text ≡ mark ++ rest → ⊥
no_mark mark text is all apart rest e =
    apart (encode_utf8_all rest) (sym (encodes-chars text is) ∙ ap encode_utf8_all e ∙ encodes_past mark rest all)

-- what `strip_prefix` says of a text
pub prefix_parts : (tag text : List ℕ) (r : Option (Bor (List ℕ))) → MatchOption r (FindsTextPrefix tag text None) (λ x. (n : ℕ) × FindsTextPrefix tag text (Some n) × (x.now ≡ drop n text) × (length x.now + n ≡ length text)) → MatchOption r ((rest : List ℕ) → text ≢ tag ++ rest) (λ x. text ≡ tag ++ x.now)
prefix_parts tag text None h = h
prefix_parts tag text (Some x) h = h.1.1 ∙ ap (λ rest. tag ++ rest) (sym h.2)

-- ---- a cut at a character

low_scalar : (c : ℕ) → c < 128 → IsScalar c
low_scalar c low = grind (arith, nat_tests)

chars-char : (c : ℕ) → IsScalar c → chars (encode_utf8 c) ≡ c ∷ []
chars-char c is = chars_past_char (encode_utf8 c) [] c (IsUtf8-encode c is) (sym (append-nil (encode_utf8 c))) ∙ ap (λ t. c ∷ t) chars-nil

chars-first : (c : ℕ) (behind : List ℕ) → c < 128 → chars (encode_utf8 c ++ behind) ≡ c ∷ chars behind
chars-first c behind low =
    chars-append (encode_utf8 c) behind (IsUtf8-encode c (low_scalar c low)) ∙ ap (λ t. t ++ chars behind) (chars-char c (low_scalar c low))

none_in : (c : ℕ) (cs : List ℕ) → NonePass (λ d. d == c) cs → list_any (λ d. d == c) cs ≡ false
none_in c [] none = refl
none_in c (d ∷ cs) none = rw none.0 (none_in c cs none.1)

pub split_cut : (c : ℕ) (text front behind : List ℕ) → c < 128 → IsUtf8 front → SplitsAroundMatch (FindsChar c) text front behind
    → chars text ≡ chars front ++ c ∷ chars behind
split_cut c text front behind low is split =
    let i = split.0 in
    let at = split.2.1 in
    let whole : text ≡ front ++ (encode_utf8 c ++ behind) =
    sym (take-append-drop i text) ∙ ap (λ t. take i text ++ t) (at.split ∙ ap (λ t. encode_utf8 c ++ t) (sym split.4)) ∙ ap (λ t. t ++ (encode_utf8 c ++ behind)) (sym split.3) in
    ap chars whole ∙ chars-append front (encode_utf8 c ++ behind) is ∙ ap (λ t. chars front ++ t) (chars-first c behind low)

pub split_first : (c : ℕ) (text front behind : List ℕ) → IsUtf8 front → SplitsAroundMatch (FindsChar c) text front behind
    → list_any (λ d. d == c) (chars front) ≡ false
split_first c text front behind is split =
    let none = split.2.0 in
    let same : none.0 ≡ chars front = chars_from_encodes none.0 front is (none.1 ∙ sym split.3) in
    subst (λ cs. list_any (λ d. d == c) cs ≡ false) same (none_in c none.0 none.2)

pub split_none : (c : ℕ) (text : List ℕ) → IsUtf8 text → FindsChar c text None → list_any (λ d. d == c) (chars text) ≡ false
split_none c text is none =
    subst (λ cs. list_any (λ d. d == c) cs ≡ false) (chars_from_encodes none.0 text is none.1) (none_in c none.0 none.2)

-- what stands before the first space, and what stands from there on
pub found_run : (c : ℕ) (text front : List ℕ) (i j : ℕ) → IsUtf8 front → front ≡ take i text → FindsChar c text (Some (i, j)) → list_any (λ d. d == c) (chars front) ≡ false
found_run c text front i j is e finds =
    let none = finds.0 in
    let same : none.0 ≡ chars front = chars_from_encodes none.0 front is (none.1 ∙ sym e) in
    subst (λ cs. list_any (λ d. d == c) cs ≡ false) same (none_in c none.0 none.2)

pub found_rest : (c : ℕ) (text rest : List ℕ) (i j : ℕ) → c < 128 → rest ≡ drop i text → FindsChar c text (Some (i, j)) → is_stop (λ d. d == c) (chars rest) ≡ true
found_rest c text rest i j low e finds =
    let at = finds.1 in
    ap (λ t. is_stop (λ d. d == c) (chars t)) (e ∙ at.split) ∙ ap (is_stop (λ d. d == c)) (chars-first c (drop j text) low) ∙ same_number c

pub found_parts : (text front rest : List ℕ) (i : ℕ) → IsUtf8 front → front ≡ take i text → rest ≡ drop i text → chars text ≡ chars front ++ chars rest
found_parts text front rest i is e f =
    ap chars (sym (take-append-drop i text)) ∙ ap (λ t. chars (t ++ drop i text)) (sym e) ∙ ap (λ t. chars (front ++ t)) (sym f) ∙ chars-append front rest is

-- ---- names

-- an ASCII name has the characters of a text where it has its bytes
pub name_chars : (name text : List ℕ) → list_all is_ascii name ≡ true → name ≡ text → name ≡ chars text
name_chars name text all e = sym (chars_ascii name all) ∙ ap chars e

pub chars_name : (name text : List ℕ) → IsUtf8 text → list_all is_ascii name ≡ true → name ≡ chars text → name ≡ text
chars_name name text is all e = e ∙ same_chars text is (ap (list_all is_ascii) (sym e) ∙ all)

pub attr_ascii : (a : Attr) → list_all is_ascii (attr_name a) ≡ true
attr_ascii a = each_attr (λ d. list_all is_ascii (attr_name d)) refl a

-- a test of the names of some attributes
pub some_named : (as' : List Attr) (text : List ℕ) (A : Type 0) → ((a : Attr) → attr_name a ≡ text → A) → list_any (λ a. bytes_eq (attr_name a) text) as' ≡ true → A
some_named [] text A use' h = absurd (cc)
some_named (a ∷ as') text A use' h = go (bytes_eq (attr_name a) text) refl h (some_named as' text A use')
  where
    go : (b : Bool) → bytes_eq (attr_name a) text ≡ b → (b || list_any (λ a. bytes_eq (attr_name a) text) as') ≡ true
        → (list_any (λ a. bytes_eq (attr_name a) text) as' ≡ true → A) → A
    go true is s more = use' a ((bytes_eq-Decides (attr_name a) text).0 is)
    go false is s more = more s

pub no_attr : (text : List ℕ) → IsUtf8 text → ((a : Attr) → attr_name a ≡ text → ⊥) → is_attr_name (chars text) ≡ false
no_attr text is none = go (is_attr_name (chars text)) refl
  where
    go : (b : Bool) → is_attr_name (chars text) ≡ b → is_attr_name (chars text) ≡ false
    go false e = e
    go true e = absurd (some_named all_attrs (chars text) ⊥ (λ a same. none a (chars_name (attr_name a) text is (attr_ascii a) same)) e)

named : (a : Attr) → is_attr_name (attr_name a) ≡ true
named a = each_attr (λ d. is_attr_name (attr_name d)) refl a

pub an_attr : (text : List ℕ) (a : Attr) → attr_name a ≡ text → is_attr_name (chars text) ≡ true
an_attr text a e = ap is_attr_name (sym (name_chars (attr_name a) text (attr_ascii a) e)) ∙ named a

pub element_chars : (text : List ℕ) (e : Element) → element_name e ≡ text → element_name e ≡ chars text
element_chars text e is = name_chars (element_name e) text (element_name-ascii e) is

pub chars_element : (text : List ℕ) → IsUtf8 text → (e : Element) → element_name e ≡ chars text → element_name e ≡ text
chars_element text is e same = chars_name (element_name e) text is (element_name-ascii e) same
