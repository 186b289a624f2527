-- The table of keys: this filter's own. Each row has a key, the kind and the members of its values, and what a value says
-- of the settings; its default is that of the settings of a site that sets nothing.
use Rattle.std.specs.Prelude.{ℕ, ℤ, pos, ◌||◌, ◌&&◌, not, Bool, List, [], ◌∷◌, Option, Some, None, Err, if◌then◌else◌, codes}
use Rattle.std.specs.Option.{option_and_then}
use Rattle.std.specs.Ordering.{int_eq}
use Rattle.std.specs.Str.{bytes_eq}
use Rattle.toml.specs.Data.{Data}
use Rattle.pur_text.specs.Hosts.{is_host}
use Rattle.pur_names.specs.Elements.{all_elements, element_named, element_rank}
use Rattle.pur_names.specs.Properties.{all_props, prop_named, prop_rank}
use Rattle.pur_names.specs.Schemes.{all_schemes, scheme_named, scheme_rank}
use Rattle.pur_names.specs.declared.elements.Element.{Element}
use Rattle.pur_modules.specs.Groups.{is_among, elements_of, of_forms}
use Rattle.pur_modules.specs.declared.kinds.Content.{Content}
use Rattle.pur_modules.specs.declared.kinds.Content.TheVariants.{Flow, Inline}
use Rattle.pur_modules.specs.declared.kinds.Doctype.{Doctype}
use Rattle.pur_modules.specs.declared.kinds.Doctype.TheVariants.{Strict, Transitional}
use Rattle.pur_settings.specs.Items.{all_items, item_of, item_rank}
use Rattle.pur_settings.specs.Prefixes.{is_id_prefix}
use Rattle.pur_settings.specs.Reading.{Reading, reading_map, truth_in, text_in, list_in, number_in}
use Rattle.pur_settings.specs.Rules.{Rules}
use Rattle.pur_settings.specs.Sets.{each_once}
use Rattle.pur_settings.specs.declared.editions.Edition.{Edition}
use Rattle.pur_settings.specs.declared.editions.Version.{Version}
use Rattle.pur_settings.specs.declared.editions.Version.TheVariants.{One, Two}
use Rattle.pur_settings.specs.declared.faults.SettingsFault.TheVariants.{UnknownKey}

-- a row: a key, and what a value of it says of the settings
pub record Row : Type 0 where
  pub key : List ℕ
  pub says : Data → Reading (Rules → Rules)

-- the row of a key whose value is read, and what was read is put into the settings
abbrev pub row : {A : Type 0} → List ℕ → (Data → Reading A) → (A → Rules → Rules) → Row
row key reads put = record { key = key; says = λ value. reading_map put (reads value) }

-- what stands in a document of version 2; in one of version 1 its key isn't known
abbrev pub in_two : {A : Type 0} → Version → Reading A → Reading A
in_two One reading = Err UnknownKey
in_two Two reading = reading

-- the row of a key of version 2
abbrev pub row_in_two : {A : Type 0} → Version → List ℕ → (Data → Reading A) → (A → Rules → Rules) → Row
row_in_two version key reads put = row key (λ value. in_two version (reads value)) put

-- the doctype of this name
abbrev pub doctype_named : List ℕ → Option Doctype
doctype_named text =
    if bytes_eq text (codes "strict") then Some Strict else
    if bytes_eq text (codes "transitional") then Some Transitional else None

-- what the fragment may hold in a parent of this name
abbrev pub content_in_parent : List ℕ → Option Content
content_in_parent text =
    if bytes_eq text (codes "div") then Some Flow else
    if bytes_eq text (codes "span") then Some Inline else None

-- the element of the doctype that has this name, if it is none of forms
abbrev pub element_of : Doctype → List ℕ → Option Element
element_of doctype text =
    option_and_then (λ element. if is_among (elements_of doctype) element && not (is_among of_forms element) then Some element else None) (element_named text)

-- a text that is a canonical host, as it stands
abbrev pub host_named : List ℕ → Option (List ℕ)
host_named text = if is_host text then Some text else None

-- a text that may stand in front of ids, as it stands
abbrev pub prefix_named : List ℕ → Option (List ℕ)
prefix_named text = if is_id_prefix text then Some text else None

-- a version that there is
abbrev pub is_version : ℤ → Bool
is_version number = int_eq (pos 1) number || int_eq (pos 2) number

-- the table, in the order of the bytes of its keys, for a document of this edition
abbrev pub table_for : Edition → List Row
table_for edition =
    row (codes "attributes") (list_in (item_of edition.version)) (λ items rules. record rules { attributes = Some (each_once item_rank all_items items) })
    ∷ row (codes "auto_paragraph") truth_in (λ wanted rules. record rules { auto_paragraph = wanted })
    ∷ row_in_two edition.version (codes "denied_attributes") (list_in (item_of edition.version)) (λ items rules. record rules { denied_attributes = each_once item_rank all_items items })
    ∷ row_in_two edition.version (codes "denied_elements") (list_in (element_of Transitional)) (λ elements rules. record rules { denied_elements = each_once element_rank all_elements elements })
    ∷ row (codes "denied_hosts") (list_in host_named) (λ hosts rules. record rules { denied_hosts = hosts })
    ∷ row_in_two edition.version (codes "denied_properties") (list_in prop_named) (λ properties rules. record rules { denied_properties = each_once prop_rank all_props properties })
    ∷ row_in_two edition.version (codes "denied_schemes") (list_in scheme_named) (λ schemes rules. record rules { denied_schemes = each_once scheme_rank all_schemes schemes })
    ∷ row (codes "doctype") (text_in doctype_named) (λ doctype rules. record rules { doctype = doctype })
    ∷ row (codes "elements") (list_in (element_of edition.doctype)) (λ elements rules. record rules { elements = Some (each_once element_rank all_elements elements) })
    ∷ row (codes "external") truth_in (λ external rules. record rules { external = external })
    ∷ row (codes "host") (text_in host_named) (λ host rules. record rules { host = Some host })
    ∷ row (codes "id_prefix") (text_in prefix_named) (λ prefix rules. record rules { id_prefix = prefix })
    ∷ row (codes "ids") truth_in (λ ids rules. record rules { ids = ids })
    ∷ row (codes "linkify") truth_in (λ wanted rules. record rules { linkify = wanted })
    ∷ row (codes "parent") (text_in content_in_parent) (λ content rules. record rules { parent = content })
    ∷ row (codes "properties") (list_in prop_named) (λ properties rules. record rules { properties = Some (each_once prop_rank all_props properties) })
    ∷ row (codes "schemes") (list_in scheme_named) (λ schemes rules. record rules { schemes = Some (each_once scheme_rank all_schemes schemes) })
    ∷ row (codes "version") (number_in is_version) (λ version rules. rules)
    ∷ []
