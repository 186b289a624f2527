-- Whether an item of a list of attributes names an attribute, `lang` and `xml:lang` apart.
use Rattle.std.specs.Prelude.{◌&&◌, Bool}
use Rattle.pur_names.specs.Attributes.{same_attr}
use Rattle.pur_names.specs.Elements.{same_element}
use Rattle.pur_names.specs.declared.attributes.Attr.{Attr}
use Rattle.pur_names.specs.declared.elements.Element.{Element}
use Rattle.pur_settings.specs.declared.items.Item.{Item}
use Rattle.pur_settings.specs.declared.items.Item.TheVariants.{Everywhere, On}

-- everywhere, or on this element
abbrev pub is_named : Element → Attr → Item → Bool
is_named element attr (Everywhere listed) = same_attr attr listed
is_named element attr (On holder listed) = same_element element holder && same_attr attr listed
