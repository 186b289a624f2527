-- Attributes that are neither a URI nor a style stay as they are, and an element that needs no URI stays with them.
use Rattle.std.proofs.Common.{◌≡◌, ◌∙◌, ℕ, Bool, true, false, not, cond, List, [], ◌∷◌, Option, Some, None, refl, ap, sym, subst}
use Rattle.std.specs.Prelude.{◌&&◌, ◌||◌, if◌then◌else◌, codes, is_some}
use Rattle.std.specs.List.{cons_option, filter_map, list_all, list_any}
use Rattle.std.specs.Option.{option_map, option_map_or}
use Rattle.std.proofs.lemmas.Bool.{and_from, and_parts}
use Rattle.std.proofs.lemmas.Option.{same_Some}
use Rattle.pur_names.specs.Attributes.{attr_name}
use Rattle.pur_names.specs.declared.attributes.Attr.{Attr}
use Rattle.pur_names.specs.declared.attributes.Attr.TheVariants.{Action, Cite, Href, Id, Lang, Longdesc, Src, Style, XmlLang}
use Rattle.pur_names.proofs.AttrLaws.{attr_named-name}
use Rattle.pur_names.specs.declared.elements.Element.{Element}
use Rattle.pur_names.specs.declared.elements.Element.TheVariants.{Form, Img}
use Rattle.pur_names.proofs.ElementLaws.{each_element}
use Rattle.pur_modules.specs.AttributeLists.{required_of}
use Rattle.pur_modules.specs.Groups.{is_among}
use Rattle.pur_attrlist.specs.Attributes.{Attribute, has_name, is_same_text, value_of}
use Rattle.pur_attrlist.proofs.AttributeLaws.{both_false}
use Rattle.pur_attrlist.proofs.TextLaws.{same_text}
use Rattle.pur_tree.specs.Nodes.{PlainElem, plain_elem}
use Rattle.pur_uri.specs.Uris.{PlainUri}
use Rattle.pur_validity.specs.Attributes.{are_alike, has_one_language, has_required, ids_in}
use Rattle.pur_absolute.specs.Absolute.{absolute_attribute, absolute_attributes, absolute_on, absolute_value, is_missed, is_required}

-- the attributes that are neither a URI nor a style
abbrev is_left : Attr → Bool
is_left Action = false
is_left Cite = false
is_left Href = false
is_left Longdesc = false
is_left Src = false
is_left Style = false
is_left attr = true

-- the elements that must have a URI
abbrev pub needs_uri : Element → Bool
needs_uri element = is_among (Img ∷ Form ∷ []) element

all-left : (element : Element) → (needs_uri element || list_all is_left (required_of element)) ≡ true
all-left = each_element (λ element. needs_uri element || list_all is_left (required_of element)) refl

-- what an element must have is required of it
all-required : (element : Element) → list_all (λ attr. is_required element (attr_name attr)) (required_of element) ≡ true
unfolding is_required
all-required = each_element (λ element. list_all (λ attr. list_any (λ other. is_same_text (attr_name attr) (attr_name other)) (required_of element)) (required_of element)) refl

module _ (allows : PlainUri → Bool) (base : PlainUri) where
  left-on : (attr : Attr) (value : List ℕ) → is_left attr ≡ true → absolute_on allows base attr value ≡ Some value
  left-on Action value is = absurd (cc)
  left-on Cite value is = absurd (cc)
  left-on Href value is = absurd (cc)
  left-on Longdesc value is = absurd (cc)
  left-on Src value is = absurd (cc)
  left-on Style value is = absurd (cc)
  left-on attr value is = refl

  left-value : (attr : Attr) (value : List ℕ) → is_left attr ≡ true → absolute_value allows base (attr_name attr, value) ≡ Some value
  unfolding absolute_value
  left-value attr value is = ap (λ o. option_map_or (λ found. absolute_on allows base found value) o (Some value)) (attr_named-name attr) ∙ left-on attr value is

  left-named : (name value : List ℕ) (attrs : List Attr) → list_all is_left attrs ≡ true → list_any (λ attr. is_same_text name (attr_name attr)) attrs ≡ true
      → absolute_value allows base (name, value) ≡ Some value
  left-named name value [] all is = absurd (cc)
  left-named name value (attr ∷ attrs) all is =
      let parts = and_parts (is_left attr) (list_all is_left attrs) all in go (is_same_text name (attr_name attr)) refl parts.0 is (left-named name value attrs parts.1)
    where
      go : (b : Bool) → is_same_text name (attr_name attr) ≡ b → is_left attr ≡ true → (b || list_any (λ attr. is_same_text name (attr_name attr)) attrs) ≡ true
          → (list_any (λ attr. is_same_text name (attr_name attr)) attrs ≡ true → absolute_value allows base (name, value) ≡ Some value)
          → absolute_value allows base (name, value) ≡ Some value
      go true same left is rest =
          ap (λ n. absolute_value allows base (n, value)) (same_text name (attr_name attr) same) ∙ left-value attr value left
      go false other left is rest = rest is

  -- only an element that must have a URI goes
  missed-needs : (element : Element) (attrs : List Attribute) → list_all is_left (required_of element) ≡ true → list_any (is_missed allows base element) attrs ≡ false
  unfolding is_required
  missed-needs element [] all = refl
  missed-needs element (pair ∷ attrs) all =
      go (absolute_value allows base pair) refl (is_required element pair.0) refl (missed-needs element attrs all)
    where
      go : (o : Option (List ℕ)) → absolute_value allows base pair ≡ o → (b : Bool) → is_required element pair.0 ≡ b
          → list_any (is_missed allows base element) attrs ≡ false → (not (is_some o) && b || list_any (is_missed allows base element) attrs) ≡ false
      go (Some value) e b f rest = rest
      go None e false f rest = rest
      go None e true f rest =
          let never : None ≡ Some pair.1 = sym e ∙ left-named pair.0 pair.1 (required_of element) all f in absurd (cc)

  pub gone-needs : (element : Element) (attrs : List Attribute) → absolute_attributes allows base element attrs ≡ None → needs_uri element ≡ true
  gone-needs element attrs gone = go (needs_uri element) refl (all-left element)
    where
      go : (b : Bool) → needs_uri element ≡ b → (b || list_all is_left (required_of element)) ≡ true → needs_uri element ≡ true
      go true is all = is
      go false is all =
          let never : Some (filter_map (absolute_attribute allows base) attrs) ≡ None =
          ap (λ b. cond b None (Some (filter_map (absolute_attribute allows base) attrs))) (sym (missed-needs element attrs all)) ∙ gone in
          absurd (cc)

  -- ---- what stays

  value-stays : (attr : Attr) → is_left attr ≡ true → (attrs : List Attribute)
      → value_of (filter_map (absolute_attribute allows base) attrs) (attr_name attr) ≡ value_of attrs (attr_name attr)
  value-stays attr left [] = refl
  value-stays attr left (pair ∷ attrs) =
      go (is_same_text (attr_name attr) pair.0) refl (absolute_value allows base pair) refl (value-stays attr left attrs)
    where
      made : List Attribute
      made = filter_map (absolute_attribute allows base) attrs

      go : (b : Bool) → is_same_text (attr_name attr) pair.0 ≡ b → (o : Option (List ℕ)) → absolute_value allows base pair ≡ o
          → value_of made (attr_name attr) ≡ value_of attrs (attr_name attr)
          → value_of (cons_option (option_map {U = Attribute} (λ value. (pair.0, value)) o) made) (attr_name attr)
          ≡ (if b then Some pair.1 else value_of attrs (attr_name attr))
      go true same o e rest =
          let stays : o ≡ Some pair.1 =
          sym e ∙ ap (λ n. absolute_value allows base (n, pair.1)) (sym (same_text (attr_name attr) pair.0 same)) ∙ left-value attr pair.1 left in
          ap (λ o. value_of (cons_option (option_map {U = Attribute} (λ value. (pair.0, value)) o) made) (attr_name attr)) stays
          ∙ ap (λ (b : Bool). if b then Some pair.1 else value_of made (attr_name attr)) same
      go false other None e rest = rest
      go false other (Some value) e rest = ap (λ (b : Bool). if b then Some value else value_of made (attr_name attr)) other ∙ rest

  -- a name that is required stays, where none of that kind is missed
  name-stays : (element : Element) (name : List ℕ) → is_required element name ≡ true → (attrs : List Attribute)
      → list_any (is_missed allows base element) attrs ≡ false → has_name attrs name ≡ true → has_name (filter_map (absolute_attribute allows base) attrs) name ≡ true
  name-stays element name needs [] none is = is
  name-stays element name needs (pair ∷ attrs) none is =
      let parts = both_false (is_missed allows base element pair) (list_any (is_missed allows base element) attrs) none in
      go (absolute_value allows base pair) parts.0 (is_same_text name pair.0) refl is (name-stays element name needs attrs parts.1)
    where
      go : (o : Option (List ℕ)) → (not (is_some o) && is_required element pair.0) ≡ false → (b : Bool) → is_same_text name pair.0 ≡ b
          → (b || has_name attrs name) ≡ true → (has_name attrs name ≡ true → has_name (filter_map (absolute_attribute allows base) attrs) name ≡ true)
          → has_name (cons_option (option_map {U = Attribute} (λ value. (pair.0, value)) o) (filter_map (absolute_attribute allows base) attrs)) name ≡ true
      go (Some value) kept true same is rest = ap (λ b. b || has_name (filter_map (absolute_attribute allows base) attrs) name) same
      go (Some value) kept false other is rest = ap (λ b. b || has_name (filter_map (absolute_attribute allows base) attrs) name) other ∙ rest is
      go None kept false other is rest = rest is
      go None kept true same is rest =
          let bad : true ≡ false = sym (ap (is_required element) (sym (same_text name pair.0 same)) ∙ needs) ∙ kept in absurd (cc)

  all-stay : (element : Element) (have : List Attribute) → list_any (is_missed allows base element) have ≡ false
      → (attrs : List Attr) → list_all (λ attr. is_required element (attr_name attr)) attrs ≡ true
      → list_all (λ attr. has_name have (attr_name attr)) attrs ≡ true → list_all (λ attr. has_name (filter_map (absolute_attribute allows base) have) (attr_name attr)) attrs ≡ true
  all-stay element have none [] needs all = refl
  all-stay element have none (attr ∷ attrs) needs all =
      let need = and_parts (is_required element (attr_name attr)) (list_all (λ attr. is_required element (attr_name attr)) attrs) needs in
      let has = and_parts (has_name have (attr_name attr)) (list_all (λ attr. has_name have (attr_name attr)) attrs) all in
      and_from _ _ (name-stays element (attr_name attr) need.0 have none has.0) (all-stay element have none attrs need.1 has.1)

  -- what an element has whose attributes became absolute
  pub record KeepsAttributes (e : PlainElem) (attrs : List Attribute) : Type 0 where
    pub required : has_required e ≡ true → has_required (plain_elem e.name attrs) ≡ true
    pub languages : has_one_language e ≡ true → has_one_language (plain_elem e.name attrs) ≡ true
    pub ids : ids_in attrs ≡ ids_in e.attrs

  pub keeps-attributes : (e : PlainElem) (attrs : List Attribute) → absolute_attributes allows base e.name e.attrs ≡ Some attrs → KeepsAttributes e attrs
  keeps-attributes e attrs is = go (list_any (is_missed allows base e.name) e.attrs) refl is
    where
      made : List Attribute
      made = filter_map (absolute_attribute allows base) e.attrs

      go : (b : Bool) → list_any (is_missed allows base e.name) e.attrs ≡ b → cond b None (Some made) ≡ Some attrs → KeepsAttributes e attrs
      go true missed e' = absurd (cc)
      go false none e' =
          subst (KeepsAttributes e) (same_Some made attrs e')
          (record {
            required = λ has. all-stay e.name e.attrs none (required_of e.name) (all-required e.name) has;
            languages = λ alike.
                ap (λ o. are_alike o (value_of made (codes "xml:lang"))) (value-stays Lang refl e.attrs)
                ∙ ap (are_alike (value_of e.attrs (codes "lang"))) (value-stays XmlLang refl e.attrs) ∙ alike;
            ids = ap (λ o. option_map_or (λ id. id ∷ []) o []) (value-stays Id refl e.attrs);
          })
