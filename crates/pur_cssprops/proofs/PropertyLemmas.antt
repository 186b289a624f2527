-- Properties and their names: which name is found, in bytes and in characters, and what names are made of.
use Rattle.std.proofs.Common.{◌≡◌, ℕ, Bool, true, false, List, [], ◌∷◌, Some, refl, sym, ap, ◌∙◌, IsUtf8, ⊎_elim}
use Rattle.std.specs.List.{find, list_all}
use Rattle.std.specs.Str.{bytes_eq, chars}
use Rattle.std.proofs.lemmas.Bool.{cases_Bool, cond-true, cond-false}
use Rattle.std.proofs.lemmas.Option.{same_Some}
use Rattle.std.proofs.lemmas.Slice.Eq.{bytes_eq-Decides}
use Rattle.pur_laws.proofs.Cases.{read-chars}
use Rattle.pur_laws.proofs.Texts.{is_ascii}
use Rattle.pur_laws.proofs.Truth.{true_together}
use Rattle.pur_names.proofs.StylePropLaws.{each_prop, prop_named-name, same_prop-Decides}
use Rattle.pur_names.specs.Properties.{prop_name, prop_named, all_props, same_prop}
use Rattle.pur_names.specs.declared.properties.StyleProp.{StyleProp}
use Rattle.pur_csstok.specs.Declarations.{is_property_character}

-- ---- names

pub names_ascii : (property : StyleProp) → list_all is_ascii (prop_name property) ≡ true
names_ascii = each_prop (λ property. list_all is_ascii (prop_name property)) refl

-- a name can stand in a style
pub names_clean : (property : StyleProp) → list_all is_property_character (prop_name property) ≡ true
names_clean = each_prop (λ property. list_all is_property_character (prop_name property)) refl

-- what is found passes the test
found_passes : (test : StyleProp → Bool) (all : List StyleProp) (property : StyleProp) → find test all ≡ Some property → test property ≡ true
found_passes test [] property found = absurd cc
found_passes test (first ∷ more) property found =
    ⊎_elim
    (λ (here : test first ≡ true).
    let same : first ≡ property = same_Some first property (sym (cond-true _ _ _ here) ∙ found) in
    ap test (sym same) ∙ here)
    (λ (behind : test first ≡ false). found_passes test more property (sym (cond-false _ _ _ behind) ∙ found))
    (cases_Bool (test first))

-- the property that is found for a name has it
pub prop_named-is : (name : List ℕ) (property : StyleProp) → prop_named name ≡ Some property → prop_name property ≡ name
unfolding prop_named
prop_named-is name property found =
    (bytes_eq-Decides (prop_name property) name).0 (found_passes (λ p. bytes_eq (prop_name p) name) all_props property found)

named_ascii : (name : List ℕ) (property : StyleProp) → prop_named name ≡ Some property → list_all is_ascii name ≡ true
named_ascii name property found = ap (list_all is_ascii) (sym (prop_named-is name property found)) ∙ names_ascii property

-- names are in ASCII, so the bytes of a text find what its characters find
pub prop_named-chars : (name : List ℕ) → IsUtf8 name → prop_named name ≡ prop_named (chars name)
prop_named-chars = read-chars prop_named named_ascii

-- ---- the same property

pub same-self : (property : StyleProp) → same_prop property property ≡ true
same-self property = (same_prop-Decides property property).1 refl

pub same-is : (one other : StyleProp) → same_prop one other ≡ true → one ≡ other
same-is one other = (same_prop-Decides one other).0

pub same-turned : (one other : StyleProp) → same_prop one other ≡ same_prop other one
same-turned one other =
    true_together (same_prop one other) (same_prop other one)
    (λ same. ap (λ p. same_prop p one) (sym (same-is one other same)) ∙ same-self one)
    (λ same. ap (λ p. same_prop p other) (sym (same-is other one same)) ∙ same-self other)

-- two properties have one name where they are the same
pub names_same : (one other : StyleProp) → bytes_eq (prop_name one) (prop_name other) ≡ same_prop one other
names_same one other =
    true_together (bytes_eq (prop_name one) (prop_name other)) (same_prop one other)
    (λ same.
    let named = (bytes_eq-Decides (prop_name one) (prop_name other)).0 same in
    (same_prop-Decides one other).1 (same_Some one other (sym (prop_named-name one) ∙ ap prop_named named ∙ prop_named-name other)))
    (λ same. (bytes_eq-Decides (prop_name one) (prop_name other)).1 (ap prop_name (same-is one other same)))
