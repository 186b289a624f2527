-- Worked examples of valid attributes, and beside each a neighbour that one rule refuses.
use Rattle.std.specs.Prelude.{ℕ, ◌≡◌, true, false, List, [], ◌∷◌, Some, None, codes}
use Rattle.pur_names.specs.declared.attributes.Attr.TheVariants.{Lang}
use Rattle.pur_names.specs.declared.elements.Element.{Element}
use Rattle.pur_names.specs.declared.elements.Element.TheVariants.{A, Bdo, Div, Form, Img, P, Textarea}
use Rattle.pur_settings.specs.Rules.{Rules, default_rules}
use Rattle.pur_settings.specs.declared.items.Item.TheVariants.{Everywhere}
use Rattle.pur_attrlist.specs.Attributes.{Attribute}
use Rattle.pur_tree.specs.Nodes.{Nodes, no_nodes, elem_first, plain_elem}
use Rattle.pur_uripolicy.specs.HostRules.{PlainHostRule}
use Rattle.pur_validity.specs.Deciding.{have_valid_attributes}

-- an element with attributes, round nodes
abbrev round : Element → List Attribute → Nodes → Nodes
round name attrs kids = elem_first (plain_elem name attrs) kids no_nodes

-- one round nothing
abbrev el : Element → List Attribute → Nodes
el name attrs = round name attrs no_nodes

abbrev english : Attribute
english = (codes "xml:lang", codes "en")

-- ids are on, with this prefix
abbrev prefixed : List ℕ → Rules
prefixed prefix = record default_rules { ids = true; id_prefix = prefix }

-- `lang` alone is listed
abbrev languages_alone : Rules
languages_alone = record default_rules { attributes = Some (Everywhere Lang ∷ []) }

-- no host is denied
abbrev any_host : PlainHostRule
any_host = record { denied = []; host = None; external = true }

-- what is valid in its attributes, and a neighbour that isn't
pub record Beside (rules : Rules) (fragment neighbour : Nodes) : Type 0 where
  pub valid : have_valid_attributes rules any_host fragment ≡ true
  pub other : have_valid_attributes rules any_host neighbour ≡ false

-- `<p title="t"></p>`; `<p onclick="t"></p>`
abbrev pub AttributesAreDeclared : Type 0
AttributesAreDeclared = Beside default_rules (el P ((codes "title", codes "t") ∷ [])) (el P ((codes "onclick", codes "t") ∷ []))

-- where `lang` alone is listed, `<bdo dir="ltr" lang="en" xml:lang="en"></bdo>`; a title
abbrev pub AttributesAreListed : Type 0
AttributesAreListed =
    Beside languages_alone (el Bdo ((codes "dir", codes "ltr") ∷ (codes "lang", codes "en") ∷ english ∷ [])) (el P ((codes "title", codes "t") ∷ []))

-- `<p class="a b"></p>`; `<p class="a  b"></p>`
abbrev pub ValuesAreReadAsThemselves : Type 0
ValuesAreReadAsThemselves = Beside default_rules (el P ((codes "class", codes "a b") ∷ [])) (el P ((codes "class", codes "a  b") ∷ []))

-- `<bdo dir="rtl"></bdo>`; `<bdo></bdo>`
abbrev pub RequiredOnesAreThere : Type 0
RequiredOnesAreThere = Beside default_rules (el Bdo ((codes "dir", codes "rtl") ∷ [])) (el Bdo [])

-- `<p lang="en" xml:lang="en"></p>`; `<p xml:lang="en"></p>`
abbrev pub LanguagesAreTheSame : Type 0
LanguagesAreTheSame = Beside default_rules (el P ((codes "lang", codes "en") ∷ english ∷ [])) (el P (english ∷ []))

-- where ids are off, `<p></p>`; `<p id="a"></p>`
abbrev pub IdsNeedTheSetting : Type 0
IdsNeedTheSetting = Beside default_rules (el P []) (el P ((codes "id", codes "a") ∷ []))

-- with the prefix `u-`, `<p id="u-a"></p>`; `<p id="a"></p>`
abbrev pub IdsHaveThePrefix : Type 0
IdsHaveThePrefix = Beside (prefixed (codes "u-")) (el P ((codes "id", codes "u-a") ∷ [])) (el P ((codes "id", codes "a") ∷ []))

-- `<div id="a"><p id="b"></p></div>`; `<div id="a"><p id="a"></p></div>`
abbrev pub IdsAreDistinct : Type 0
IdsAreDistinct =
    Beside (prefixed []) (round Div ((codes "id", codes "a") ∷ []) (el P ((codes "id", codes "b") ∷ [])))
    (round Div ((codes "id", codes "a") ∷ []) (el P ((codes "id", codes "a") ∷ [])))

-- `<a href="http://example.com/"></a>`; `<a href="HTTP://example.com/"></a>`
abbrev pub LinksAreCanonical : Type 0
LinksAreCanonical = Beside default_rules (el A ((codes "href", codes "http://example.com/") ∷ [])) (el A ((codes "href", codes "HTTP://example.com/") ∷ []))

-- `<img src="x.png" alt="x" />`; one without `alt`
abbrev pub PicturesHaveATextInTheirPlace : Type 0
PicturesHaveATextInTheirPlace = Beside default_rules (el Img ((codes "src", codes "x.png") ∷ (codes "alt", codes "x") ∷ [])) (el Img ((codes "src", codes "x.png") ∷ []))

-- `<a href="mailto:a@b.c"></a>`; a picture with that source
abbrev pub SourcesAreFetched : Type 0
SourcesAreFetched = Beside default_rules (el A ((codes "href", codes "mailto:a@b.c") ∷ [])) (el Img ((codes "src", codes "mailto:a@b.c") ∷ (codes "alt", codes "x") ∷ []))

-- `<p style="color:#ff0000;"></p>`; `<p style="color:red"></p>`
abbrev pub StylesAreCanonical : Type 0
StylesAreCanonical = Beside default_rules (el P ((codes "style", codes "color:#ff0000;") ∷ [])) (el P ((codes "style", codes "color:red") ∷ []))

-- `<form action="http://example.com/"></form>`; a scheme that isn't permitted
abbrev pub FormsAreSentToLinks : Type 0
FormsAreSentToLinks =
    Beside default_rules (el Form ((codes "action", codes "http://example.com/") ∷ [])) (el Form ((codes "action", codes "javascript:x") ∷ []))

-- `<textarea rows="4" cols="40"></textarea>`; one without `cols`
abbrev pub FieldsOfTextHaveASize : Type 0
FieldsOfTextHaveASize =
    Beside default_rules (el Textarea ((codes "rows", codes "4") ∷ (codes "cols", codes "40") ∷ [])) (el Textarea ((codes "rows", codes "4") ∷ []))
