-- An attribute that is looked up by its name, and the text of a URI.
use Rattle.std.proofs.Common.{◌≡◌, ℕ, Bool, true, false, cond, List, [], ◌∷◌, Some, None, IsUtf8, sym, ap, subst, ◌∙◌, arith, refl}
use Rattle.std.specs.List.{find, list_all}
use Rattle.std.specs.Str.{bytes_eq, chars}
use Rattle.std.specs.Option.{option_and_then}
use Rattle.std.proofs.lemmas.Bool.{cond-true, cond-false}
use Rattle.std.proofs.lemmas.Bool.Decides.{nat_tests}
use Rattle.std.proofs.lemmas.Option.{same_Some}
use Rattle.std.proofs.lemmas.Slice.Eq.{bytes_eq-Decides}
use Rattle.pur_laws.proofs.Cases.{read-chars}
use Rattle.pur_laws.proofs.Lists.{all-weaker}
use Rattle.pur_laws.proofs.Texts.{is_ascii}
use Rattle.pur_names.specs.Attributes.{attr_name, attr_named, all_attrs}
use Rattle.pur_names.proofs.AttrLaws.{each_attr}
use Rattle.pur_names.specs.declared.attributes.Attr.{Attr}
use Rattle.pur_names.specs.declared.elements.Element.{Element}
use Rattle.pur_settings.specs.Rules.{Rules, permits_attribute}
use Rattle.pur_uri.specs.Escapes.{stays_in_path, stays_in_query}
use Rattle.pur_uri.specs.Laws.{is_canonical_byte}
use Rattle.pur_uripolicy.specs.HostRules.{PlainHostRule}
use Rattle.pur_validity.specs.Attributes.{attribute_read, value_on}

-- ---- names as bytes

found-passes : (test : Attr → Bool) (attrs : List Attr) (found : Attr) → find test attrs ≡ Some found → test found ≡ true
found-passes test [] found is = absurd (cc)
found-passes test (attr ∷ attrs) found is = go (test attr) refl is (found-passes test attrs found)
  where
    go : (b : Bool) → test attr ≡ b → cond b (Some attr) (find test attrs) ≡ Some found → (find test attrs ≡ Some found → test found ≡ true)
        → test found ≡ true
    go true e here rest = ap test (sym (same_Some attr found here)) ∙ e
    go false e here rest = rest here

names-plain : (attr : Attr) → list_all is_ascii (attr_name attr) ≡ true
names-plain = each_attr (λ attr. list_all is_ascii (attr_name attr)) refl

-- what is looked up has the name
pub named-is : (text : List ℕ) (found : Attr) → attr_named text ≡ Some found → attr_name found ≡ text
unfolding attr_named
named-is text found is = (bytes_eq-Decides (attr_name found) text).0 (found-passes (λ a. bytes_eq (attr_name a) text) all_attrs found is)

named-plain : (text : List ℕ) (found : Attr) → attr_named text ≡ Some found → list_all is_ascii text ≡ true
named-plain text found is = subst (λ t. list_all is_ascii t ≡ true) (named-is text found is) (names-plain found)

-- what is looked up by bytes is looked up by characters
pub named-chars : (text : List ℕ) → IsUtf8 text → attr_named text ≡ attr_named (chars text)
named-chars = read-chars attr_named named-plain

-- what a value is read as, where its attribute is permitted and where it isn't, and where no attribute has the name
module _ (rules : Rules) (rule : PlainHostRule) (element : Element) (name raw : List ℕ) where
  pub read-permitted : (attr : Attr) → attr_named name ≡ Some attr → permits_attribute rules element attr ≡ true
      → value_on rules rule element attr raw ≡ attribute_read rules rule element name raw
  read-permitted attr found permits =
      sym (ap (option_and_then (λ a. cond (permits_attribute rules element a) (value_on rules rule element a raw) None)) found
      ∙ cond-true (permits_attribute rules element attr) (value_on rules rule element attr raw) None permits)

  pub read-forbidden : (attr : Attr) → attr_named name ≡ Some attr → permits_attribute rules element attr ≡ false
      → None ≡ attribute_read rules rule element name raw
  read-forbidden attr found permits =
      sym (ap (option_and_then (λ a. cond (permits_attribute rules element a) (value_on rules rule element a raw) None)) found
      ∙ cond-false (permits_attribute rules element attr) (value_on rules rule element attr raw) None permits)

  pub read-unknown : attr_named name ≡ None → None ≡ attribute_read rules rule element name raw
  read-unknown none = sym (ap (option_and_then (λ a. cond (permits_attribute rules element a) (value_on rules rule element a raw) None)) none)

-- ---- the text of a URI

canonical-ascii : (b : ℕ) → is_canonical_byte b ≡ true → is_ascii b ≡ true
unfolding is_canonical_byte stays_in_query stays_in_path
canonical-ascii b is = grind (arith, nat_tests)

-- it is plain
pub plain-characters : (text : List ℕ) → list_all is_canonical_byte text ≡ true → list_all is_ascii text ≡ true
plain-characters = all-weaker is_canonical_byte is_ascii canonical-ascii
