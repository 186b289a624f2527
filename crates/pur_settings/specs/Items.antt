-- The items of lists of attributes: an attribute wherever it stands, or on one element alone, as `title` and `a.href`.
use Rattle.std.specs.Prelude.{ℕ, suc, ◌+◌, ◌*◌, ◌==◌, ◌&&◌, ◌||◌, not, Bool, List, ◌++◌, map, Option, Some, None, if◌then◌else◌}
use Rattle.std.specs.List.{after_first, before_first, flat_map, list_any}
use Rattle.std.specs.Option.{option_and_then, option_map}
use Rattle.pur_names.specs.Attributes.{all_attrs, attr_named, attr_rank, same_attr}
use Rattle.pur_names.specs.Elements.{all_elements, element_named, element_rank, same_element}
use Rattle.pur_names.specs.declared.attributes.Attr.{Attr}
use Rattle.pur_names.specs.declared.attributes.Attr.TheVariants.{Lang, XmlLang}
use Rattle.pur_names.specs.declared.elements.Element.{Element}
use Rattle.pur_modules.specs.AttributeLists.{attributes_of, is_outside_forms}
use Rattle.pur_modules.specs.Groups.{is_among, of_forms}
use Rattle.pur_modules.specs.declared.kinds.Doctype.TheVariants.{Transitional}
use Rattle.pur_settings.specs.declared.editions.Version.{Version}
use Rattle.pur_settings.specs.declared.editions.Version.TheVariants.{One, Two}
use Rattle.pur_settings.specs.declared.items.Item.{Item}
use Rattle.pur_settings.specs.declared.items.Item.TheVariants.{Everywhere, On}

-- all of them: the attributes, and for each element each attribute on it
unfoldable pub all_items : List Item
all_items = map Everywhere all_attrs ++ flat_map (λ element. map (On element) all_attrs) all_elements

-- the place in the list of all, counted from 0
abbrev pub item_rank : Item → ℕ
item_rank (Everywhere attr) = attr_rank attr
item_rank (On element attr) = 54 * suc (element_rank element) + attr_rank attr

-- whether an attribute is `lang` or `xml:lang`
abbrev pub is_language : Attr → Bool
is_language attr = same_attr attr Lang || same_attr attr XmlLang

-- whether an attribute is meant by a listed one: it is that one, or the two are `lang` and `xml:lang`
abbrev pub is_meant : Attr → Attr → Bool
is_meant attr listed = same_attr attr listed || (is_language attr && is_language listed)

-- whether an item covers an attribute on an element
abbrev pub covers : Element → Attr → Item → Bool
covers element attr (Everywhere listed) = is_meant attr listed
covers element attr (On holder listed) = same_element element holder && is_meant attr listed

-- the attribute that has this name, if it is one of those that the filter writes: all that stand outside of forms, and so
-- not `name`
abbrev pub attribute_of : List ℕ → Option Attr
attribute_of text = option_and_then (λ attr. if is_outside_forms attr then Some attr else None) (attr_named text)

-- the attribute of this name, if Transitional declares it on the element, and the element is none of forms
abbrev pub attribute_on : Element → List ℕ → Option Item
attribute_on element text =
    option_and_then (λ attr. if not (is_among of_forms element) && list_any (same_attr attr) (attributes_of Transitional element) then Some (On element attr) else None)
    (attr_named text)

-- whether a byte is a full stop
abbrev pub is_stop : ℕ → Bool
is_stop byte = byte == 0x2E

-- the item of this name in a document of a version: an attribute; in version 2 also an element and an attribute that it
-- has, with the first full stop between them
abbrev pub item_of : Version → List ℕ → Option Item
item_of One text = option_map Everywhere (attribute_of text)
item_of Two text =
    if list_any is_stop text
    then option_and_then (λ element. attribute_on element (after_first is_stop text)) (element_named (before_first is_stop text))
    else option_map Everywhere (attribute_of text)
