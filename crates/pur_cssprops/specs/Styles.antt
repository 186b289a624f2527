-- The one text of a style (CSS 2.1, section 4.1.8, for its declarations; section 6.4.1: of two declarations of a property the later counts).
use Rattle.std.specs.Prelude.{ℕ, ◌∷◌, not, map, filter, List, [], Option, Some, None, if◌then◌else◌}
use Rattle.std.specs.List.{filter_map}
use Rattle.std.specs.Option.{option_and_then, option_map, option_or}
use Rattle.pur_names.specs.Properties.{prop_name, prop_named, same_prop}
use Rattle.pur_names.specs.declared.properties.StyleProp.{StyleProp}
use Rattle.pur_settings.specs.Rules.{Rules, permits_property}
use Rattle.pur_csstok.specs.Declarations.{Pair, declarations_of, style_text}
use Rattle.pur_uripolicy.specs.HostRules.{PlainHostRule}
use Rattle.pur_cssprops.specs.Forms.{value_read}
use Rattle.pur_cssprops.specs.Properties.{form_of}

-- a property, and what a value of it is read as
abbrev pub Kept : Type 0
Kept = StyleProp × List ℕ

-- a property with what its value is read as; none where the property isn't permitted, or its value isn't read
unfoldable pub property_read : Rules → PlainHostRule → List ℕ → StyleProp → Option Kept
property_read rules rule value property =
    if permits_property rules property
    then option_map (λ out. (property, out)) (value_read rules rule (form_of property) value) else None

-- what is kept of a declaration; nothing where no property has its name
unfoldable pub declaration_kept : Rules → PlainHostRule → Pair → Option Kept
declaration_kept rules rule pair = option_and_then (property_read rules rule pair.1) (prop_named pair.0)

-- the properties, each where it comes first
unfoldable pub firsts : List Kept → List StyleProp
firsts [] = []
firsts (kept ∷ more) = kept.0 ∷ filter (λ property. not (same_prop kept.0 property)) (firsts more)

-- the last value of a property
unfoldable pub last_value : StyleProp → List Kept → Option (List ℕ)
last_value property [] = None
last_value property (kept ∷ more) =
    option_or (last_value property more) (if same_prop property kept.0 then Some kept.1 else None)

-- each property once, where it comes first, with its last value
unfoldable pub each_once : List Kept → List Kept
each_once all = filter_map (λ property. option_map (λ value. (property, value)) (last_value property all)) (firsts all)

-- the text of declarations; none where there are none
unfoldable pub style_written : List Kept → Option (List ℕ)
style_written [] = None
style_written (kept ∷ more) = Some (style_text (map (λ one. (prop_name one.0, one.1)) (kept ∷ more)))

-- what a style is read as: its declarations that are kept, each property once; none where nothing is kept
unfoldable pub style_read : Rules → PlainHostRule → List ℕ → Option (List ℕ)
style_read rules rule raw = style_written (each_once (filter_map (declaration_kept rules rule) (declarations_of raw)))
