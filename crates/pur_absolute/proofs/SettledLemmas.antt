-- An attribute whose value is its own reading, when it becomes absolute.
use Rattle.std.proofs.Common.{◌≡◌, ◌∙◌, ℕ, Bool, true, false, not, List, [], ◌∷◌, Option, Some, None, cond, refl, ap, sym, subst}
use Rattle.std.specs.Prelude.{◌&&◌, ◌||◌, is_some}
use Rattle.std.specs.List.{cons_option, filter_map, list_all, list_any}
use Rattle.std.specs.Option.{option_map, option_map_or}
use Rattle.std.proofs.lemmas.Bool.{and_from, and_parts}
use Rattle.std.proofs.lemmas.Option.{same_Some}
use Rattle.pur_names.specs.Attributes.{attr_named}
use Rattle.pur_names.specs.declared.attributes.Attr.{Attr}
use Rattle.pur_names.specs.declared.attributes.Attr.TheVariants.{Action, Cite, Href, Longdesc, Src, Style}
use Rattle.pur_names.specs.declared.elements.Element.{Element}
use Rattle.pur_settings.specs.Rules.{Rules, permits_attribute}
use Rattle.pur_attrlist.specs.Attributes.{Attribute, is_same_text}
use Rattle.pur_attrlist.proofs.TextLaws.{same_text, is_same_text-refl}
use Rattle.pur_cssprops.specs.Styles.{style_read}
use Rattle.pur_tree.specs.Nodes.{PlainElem, plain_elem}
use Rattle.pur_uri.specs.Uris.{PlainUri, uri_text}
use Rattle.pur_uripolicy.specs.Admissible.{uri_under}
use Rattle.pur_uripolicy.specs.HostRules.{PlainHostRule}
use Rattle.pur_uripolicy.specs.declared.uses.UriUse.{UriUse}
use Rattle.pur_uripolicy.specs.declared.uses.UriUse.TheVariants.{Embed, Link}
use Rattle.pur_validity.specs.Attributes.{has_valid_values, is_canonical, is_valid_attribute, uri_on, value_on}
use Rattle.pur_absolute.specs.Absolute.{absolute_attribute, absolute_attributes, absolute_on, absolute_style, absolute_text, absolute_uri, absolute_value, is_missed, is_required}
use Rattle.pur_absolute.specs.Laws.{IsFitBase, has_absolute_uris, is_absolute_attribute, is_absolute_on, is_absolute_uri}
use Rattle.pur_absolute.proofs.EachLemmas.{Stays}
use Rattle.pur_absolute.proofs.UriLemmas.{mapped, UriLaws, absolute-uri, under-written}

module _ (rules : Rules) (rule : PlainHostRule) (allows : PlainUri → Bool) (base : PlainUri) where
  -- a value of an attribute, when it is absolute
  pub record IsSettled (element : Element) (attr : Attr) (value : List ℕ) : Type 0 where
    pub read : value_on rules rule element attr value ≡ Some value
    pub absolute : is_absolute_on allows attr value ≡ true
    pub again : absolute_on allows base attr value ≡ Some value

  pub record IsSettledUri (purpose : UriUse) (value : List ℕ) : Type 0 where
    pub read : uri_on rules rule purpose value ≡ Some value
    pub absolute : is_absolute_uri allows value ≡ true
    pub again : absolute_text allows base value ≡ Some value

  -- what is known of styles
  abbrev pub StylesSettle : Type 0
  StylesSettle = (element : Element) (text value : List ℕ) → style_read rules rule text ≡ Some text → absolute_style allows base text ≡ Some value
      → IsSettled element Style value

  module _ (laws : UriLaws) (fit_base : IsFitBase rules rule base) (styles : StylesSettle) where
    uri-settled : (purpose : UriUse) (text value : List ℕ) → uri_on rules rule purpose text ≡ Some text → absolute_text allows base text ≡ Some value
        → IsSettledUri purpose value
    uri-settled purpose text value is e =
        let own = mapped uri_text (uri_under rules rule purpose text) text is in
        let made = mapped uri_text (absolute_uri allows base text) value e in
        let settled = absolute-uri rules rule laws allows base fit_base purpose text own.from made.from
        (under-written rules rule purpose text own.from own.is own.same) made.is in
        subst (IsSettledUri purpose) made.same
        (record { read = ap (option_map uri_text) settled.read; absolute = settled.absolute; again = ap (option_map uri_text) settled.again })

    on-settled : (element : Element) (attr : Attr) (text value : List ℕ) → value_on rules rule element attr text ≡ Some text → absolute_on allows base attr text ≡ Some value
        → IsSettled element attr value
    on-settled element Action text value is e = let s = uri-settled Link text value is e in record { read = s.read; absolute = s.absolute; again = s.again }
    on-settled element Cite text value is e = let s = uri-settled Link text value is e in record { read = s.read; absolute = s.absolute; again = s.again }
    on-settled element Href text value is e = let s = uri-settled Link text value is e in record { read = s.read; absolute = s.absolute; again = s.again }
    on-settled element Longdesc text value is e = let s = uri-settled Link text value is e in record { read = s.read; absolute = s.absolute; again = s.again }
    on-settled element Src text value is e = let s = uri-settled Embed text value is e in record { read = s.read; absolute = s.absolute; again = s.again }
    on-settled element Style text value is e = styles element text value is e
    on-settled element attr text value is e =
        subst (IsSettled element attr) (same_Some text value e) (record { read = is; absolute = refl; again = refl })

    -- ---- an attribute

    record IsFine (element : Element) (pair : Attribute) : Type 0 where
      valid : is_valid_attribute rules rule element pair ≡ true
      absolute : is_absolute_attribute allows pair ≡ true
      again : absolute_value allows base pair ≡ Some pair.1

    canonical-is : (element : Element) (attr : Attr) (value : List ℕ) → is_canonical rules rule element attr value ≡ true → value_on rules rule element attr value ≡ Some value
    canonical-is element attr value is = go (value_on rules rule element attr value) is
      where
        go : (o : Option (List ℕ)) → option_map_or (is_same_text value) o false ≡ true → o ≡ Some value
        go None e = absurd (cc)
        go (Some found) e = ap Some (sym (same_text value found e))

    pair-fine : (element : Element) (pair : Attribute) (value : List ℕ) → is_valid_attribute rules rule element pair ≡ true → absolute_value allows base pair ≡ Some value
        → IsFine element (pair.0, value)
    unfolding absolute_value
    pair-fine element pair value is e = go (attr_named pair.0) refl is e
      where
        go : (o : Option Attr) → attr_named pair.0 ≡ o
            → option_map_or (λ attr. permits_attribute rules element attr && is_canonical rules rule element attr pair.1) o false ≡ true
            → option_map_or (λ attr. absolute_on allows base attr pair.1) o (Some pair.1) ≡ Some value → IsFine element (pair.0, value)
        go None named valid made = absurd (cc)
        go (Some attr) named valid made =
            let parts = and_parts (permits_attribute rules element attr) (is_canonical rules rule element attr pair.1) valid in
            let s = on-settled element attr pair.1 value (canonical-is element attr pair.1 parts.1) made in
            let own : is_canonical rules rule element attr value ≡ true = ap (λ o. option_map_or (is_same_text value) o false) s.read ∙ is_same_text-refl value in
            record {
              valid = ap (λ o. option_map_or (λ attr. permits_attribute rules element attr && is_canonical rules rule element attr value) o false) named ∙ and_from _ _ parts.0 own;
              absolute = ap (λ o. option_map_or (λ attr. is_absolute_on allows attr value) o true) named ∙ s.absolute;
              again = ap (λ o. option_map_or (λ attr. absolute_on allows base attr value) o (Some value)) named ∙ s.again;
            }

    -- ---- the attributes of an element

    record AreFine (element : Element) (attrs : List Attribute) : Type 0 where
      valid : list_all (is_valid_attribute rules rule element) attrs ≡ true
      absolute : list_all (is_absolute_attribute allows) attrs ≡ true
      same : filter_map (absolute_attribute allows base) attrs ≡ attrs
      none_missed : list_any (is_missed allows base element) attrs ≡ false

    all-fine : (element : Element) (attrs : List Attribute) → list_all (is_valid_attribute rules rule element) attrs ≡ true
        → AreFine element (filter_map (absolute_attribute allows base) attrs)
    all-fine element [] all = record { valid = refl; absolute = refl; same = refl; none_missed = refl }
    all-fine element (pair ∷ attrs) all =
        let parts = and_parts (is_valid_attribute rules rule element pair) (list_all (is_valid_attribute rules rule element) attrs) all in
        go (absolute_value allows base pair) refl parts.0 (all-fine element attrs parts.1)
      where
        more : List Attribute
        more = filter_map (absolute_attribute allows base) attrs

        go : (o : Option (List ℕ)) → absolute_value allows base pair ≡ o → is_valid_attribute rules rule element pair ≡ true → AreFine element more
            → AreFine element (cons_option (option_map (λ value. (pair.0, value)) o) more)
        go None e valid rest = rest
        go (Some value) e valid rest =
            let fine = pair-fine element pair value valid e in
            record {
              valid = and_from _ _ fine.valid rest.valid;
              absolute = and_from _ _ fine.absolute rest.absolute;
              same = ap (λ o. cons_option (option_map {U = Attribute} (λ found. (pair.0, found)) o) (filter_map (absolute_attribute allows base) more)) fine.again
                  ∙ ap (λ l. (pair.0, value) ∷ l) rest.same;
              none_missed = ap (λ o. (not (is_some o) && is_required element pair.0) || list_any (is_missed allows base element) more) fine.again ∙ rest.none_missed;
            }

    -- what is known of an element whose attributes became absolute
    pub record IsFineElem (e : PlainElem) : Type 0 where
      pub valid : has_valid_values rules rule e ≡ true
      pub absolute : has_absolute_uris allows e ≡ true
      pub stays : Stays allows base e

    pub elem-fine : (e : PlainElem) (attrs : List Attribute) → has_valid_values rules rule e ≡ true → absolute_attributes allows base e.name e.attrs ≡ Some attrs
        → IsFineElem (plain_elem e.name attrs)
    elem-fine e attrs valid is = go (list_any (is_missed allows base e.name) e.attrs) is
      where
        made : List Attribute
        made = filter_map (absolute_attribute allows base) e.attrs

        fine : AreFine e.name made
        fine = all-fine e.name e.attrs valid

        own : IsFineElem (plain_elem e.name made)
        own = record {
          valid = fine.valid;
          absolute = fine.absolute;
          stays = ap (λ b. cond b None (Some (filter_map (absolute_attribute allows base) made))) fine.none_missed ∙ ap Some fine.same;
        }

        go : (b : Bool) → cond b None (Some made) ≡ Some attrs → IsFineElem (plain_elem e.name attrs)
        go true e' = absurd (cc)
        go false e' = subst (λ l. IsFineElem (plain_elem e.name l)) (same_Some made attrs e') own
