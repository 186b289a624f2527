-- Attributes that are judged, one by one.
use Rattle.std.proofs.Common.{◌≡◌, ℕ, zero, suc, Bool, true, false, List, [], ◌∷◌, drop, Option, Some, None, slice_get, refl, ap, ◌∙◌}
use Rattle.std.specs.Prelude.{◌&&◌, ◌||◌, if◌then◌else◌}
use Rattle.std.specs.Option.{option_and_then, option_map_or}
use Rattle.std.specs.Str.{chars}
use Rattle.std.proofs.lemmas.Option.{same_Some}
use Rattle.pur_laws.proofs.Texts.{chars_ascii}
use Rattle.pur_names.specs.Attributes.{attr_name, attr_named}
use Rattle.pur_names.specs.declared.attributes.Attr.{Attr}
use Rattle.pur_names.specs.declared.elements.Element.{Element}
use Rattle.pur_settings.specs.Rules.{Rules, permits_attribute}
use Rattle.pur_attrlist.specs.Attributes.{Attribute, is_same_text, has_name, value_of, names_of, values_of}
use Rattle.pur_uripolicy.specs.HostRules.{PlainHostRule}
use Rattle.pur_validity.specs.Attributes.{attribute_read, value_on, is_canonical, is_valid_attribute}
use Rattle.pur_reader.proofs.CharacterLemmas.{attr_ascii}

pub told : (attrs : List Attribute) (name v : List ℕ) → Some v ≡ value_of attrs name → has_name attrs name ≡ true
told [] name v e = absurd (cc)
told (p ∷ attrs) name v e = go (is_same_text name p.0) refl e (told attrs name v)
  where
    go : (b : Bool) → is_same_text name p.0 ≡ b → Some v ≡ (if is_same_text name p.0 then Some p.1 else value_of attrs name)
        → (Some v ≡ value_of attrs name → has_name attrs name ≡ true) → (is_same_text name p.0 || has_name attrs name) ≡ true
    go true h e more = rw h refl
    go false h e more = rw h (more (rw h at e))

pub untold : (attrs : List Attribute) (name : List ℕ) → None ≡ value_of attrs name → has_name attrs name ≡ false
untold [] name e = refl
untold (p ∷ attrs) name e = go (is_same_text name p.0) refl e (untold attrs name)
  where
    go : (b : Bool) → is_same_text name p.0 ≡ b → None ≡ (if is_same_text name p.0 then Some p.1 else value_of attrs name)
        → (None ≡ value_of attrs name → has_name attrs name ≡ false) → (is_same_text name p.0 || has_name attrs name) ≡ false
    go true h e more = absurd (let w : None ≡ Some p.1 = rw h at e in cc)
    go false h e more = rw h (more (rw h at e))

pub attr_text : (text : List ℕ) (a : Attr) → text ≡ attr_name a → chars text ≡ attr_name a
attr_text text a e = ap chars e ∙ chars_ascii (attr_name a) (attr_ascii a)

-- an attribute is valid where its value is read as itself
pub valid-read : (rules : Rules) (rule : PlainHostRule) (e : Element) (name value : List ℕ)
    → option_map_or (is_same_text value) (attribute_read rules rule e name value) false ≡ is_valid_attribute rules rule e (name, value)
valid-read rules rule e name value = go (attr_named name)
  where
    permitted : (b : Bool) (read : Option (List ℕ))
        → option_map_or (is_same_text value) (if b then read else None) false ≡ (b && option_map_or (is_same_text value) read false)
    permitted true read = refl
    permitted false read = refl

    go : (found : Option Attr)
        → option_map_or (is_same_text value) (option_and_then (λ attr. if permits_attribute rules e attr then value_on rules rule e attr value else None) found) false
        ≡ option_map_or (λ attr. permits_attribute rules e attr && is_canonical rules rule e attr value) found false
    go None = refl
    go (Some attr) = permitted (permits_attribute rules e attr) (value_on rules rule e attr value)

-- the attribute at a place
pub attribute_at : (attrs : List Attribute) (at : ℕ) (n v : List ℕ) → slice_get (names_of attrs) at ≡ Some n → slice_get (values_of attrs) at ≡ Some v
    → drop at attrs ≡ (n, v) ∷ drop (suc at) attrs
attribute_at [] at n v e f = absurd (cc)
attribute_at (p ∷ attrs) zero n v e f = ap (λ x. (x, p.1) ∷ attrs) (same_Some _ _ e) ∙ ap (λ x. (n, x) ∷ attrs) (same_Some _ _ f)
attribute_at (p ∷ attrs) (suc at) n v e f = attribute_at attrs at n v e f
