-- The text of a URI, and names, as bytes and as characters.
use Rattle.std.proofs.Common.{◌≡◌, ℕ, Bool, true, false, cond, subst, List, [], ◌∷◌, Some, IsUtf8, refl, sym, ap, ◌∙◌, arith}
use Rattle.std.specs.List.{find, list_all, list_any}
use Rattle.std.specs.Str.{bytes_eq, chars}
use Rattle.std.proofs.lemmas.Bool.Decides.{nat_tests}
use Rattle.std.proofs.lemmas.Option.{same_Some}
use Rattle.std.proofs.lemmas.Slice.Eq.{bytes_eq-Decides}
use Rattle.pur_laws.proofs.Cases.{read-chars}
use Rattle.pur_laws.proofs.Lists.{all-weaker, any-same}
use Rattle.pur_laws.proofs.Texts.{is_ascii, bytes_eq-ascii, chars_ascii}
use Rattle.pur_names.specs.Attributes.{all_attrs, attr_name, attr_named}
use Rattle.pur_names.specs.declared.attributes.Attr.{Attr}
use Rattle.pur_names.specs.declared.elements.Element.{Element}
use Rattle.pur_names.proofs.AttrLaws.{each_attr}
use Rattle.pur_modules.specs.AttributeLists.{required_of}
use Rattle.pur_uri.specs.Escapes.{stays_in_path, stays_in_query}
use Rattle.pur_uri.specs.Laws.{is_canonical_byte}
use Rattle.pur_absolute.specs.Absolute.{is_required}

-- ---- URIs

byte-ascii : (b : ℕ) → is_canonical_byte b ≡ true → is_ascii b ≡ true
unfolding is_canonical_byte stays_in_query stays_in_path
byte-ascii b is = grind (arith, nat_tests)

pub canonical-ascii : (text : List ℕ) → list_all is_canonical_byte text ≡ true → list_all is_ascii text ≡ true
canonical-ascii = all-weaker is_canonical_byte is_ascii byte-ascii

pub canonical-chars : (bytes text : List ℕ) → bytes ≡ text → list_all is_canonical_byte text ≡ true → chars bytes ≡ text
canonical-chars bytes text is canonical = ap chars is ∙ chars_ascii text (canonical-ascii text canonical)

-- ---- names

name-ascii : (attr : Attr) → list_all is_ascii (attr_name attr) ≡ true
name-ascii = each_attr (λ attr. list_all is_ascii (attr_name attr)) refl

-- a name is required as characters where it is as bytes
pub required-chars : (element : Element) (name : List ℕ) → IsUtf8 name
    → list_any (λ attr. bytes_eq name (attr_name attr)) (required_of element) ≡ is_required element (chars name)
unfolding is_required
required-chars element name is =
    any-same (λ attr. bytes_eq name (attr_name attr)) (λ attr. bytes_eq (chars name) (attr_name attr))
    (λ attr. sym (bytes_eq-ascii name (attr_name attr) is (name-ascii attr))) (required_of element)

found-passes : (test : Attr → Bool) (attrs : List Attr) (found : Attr) → find test attrs ≡ Some found → test found ≡ true
found-passes test [] found is = absurd (cc)
found-passes test (attr ∷ attrs) found is = go (test attr) refl is (found-passes test attrs found)
  where
    go : (b : Bool) → test attr ≡ b → cond b (Some attr) (find test attrs) ≡ Some found → (find test attrs ≡ Some found → test found ≡ true)
        → test found ≡ true
    go true e here rest = ap test (sym (same_Some attr found here)) ∙ e
    go false e here rest = rest here

named-plain : (text : List ℕ) (found : Attr) → attr_named text ≡ Some found → list_all is_ascii text ≡ true
unfolding attr_named
named-plain text found is =
    let same : attr_name found ≡ text = (bytes_eq-Decides (attr_name found) text).0 (found-passes (λ a. bytes_eq (attr_name a) text) all_attrs found is) in
    subst (λ t. list_all is_ascii t ≡ true) same (name-ascii found)

-- what is looked up by bytes is looked up by characters
pub named-chars : (text : List ℕ) → IsUtf8 text → attr_named text ≡ attr_named (chars text)
named-chars = read-chars attr_named named-plain
