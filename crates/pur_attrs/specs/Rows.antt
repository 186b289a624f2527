-- Worked examples of attributes.
use Rattle.std.specs.Prelude.{ℕ, ◌≡◌, true, List, [], ◌∷◌, Some, None, codes}
use Rattle.pur_names.specs.declared.attributes.Attr.TheVariants.{Lang}
use Rattle.pur_names.specs.declared.elements.Element.{Element}
use Rattle.pur_names.specs.declared.elements.Element.TheVariants.{A, Bdo, Div, Form, Img, Input, Optgroup, P, Table, Td, Textarea, Tr}
use Rattle.pur_modules.specs.declared.kinds.Doctype.TheVariants.{Strict, Transitional}
use Rattle.pur_settings.specs.Rules.{Rules, default_rules}
use Rattle.pur_settings.specs.declared.items.Item.TheVariants.{Everywhere}
use Rattle.pur_attrlist.specs.Attributes.{Attribute}
use Rattle.pur_tree.specs.Nodes.{Nodes, no_nodes, text_first, elem_first, nodes_append, plain_elem}
use Rattle.pur_uripolicy.specs.HostRules.{PlainHostRule}
use Rattle.pur_attrs.specs.Attributes.{with_valid_attributes}
use Rattle.pur_attrs.specs.Steps.{with_style_in}

-- nodes one after another
abbrev all_of : List Nodes → Nodes
all_of [] = no_nodes
all_of (nodes ∷ more) = nodes_append nodes (all_of more)

-- an element with attributes, round nodes
abbrev round : Element → List Attribute → Nodes → Nodes
round name attrs kids = elem_first (plain_elem name attrs) kids no_nodes

-- one round the text `x`
abbrev el : Element → List Attribute → Nodes
el name attrs = round name attrs (text_first (codes "x") no_nodes)

-- `title="t"`, `xml:lang="fr"` and `dir="rtl"`
abbrev title : Attribute
title = (codes "title", codes "t")

abbrev french : Attribute
french = (codes "xml:lang", codes "fr")

abbrev to_the_left : Attribute
to_the_left = (codes "dir", codes "rtl")

-- ids are on, with this prefix
abbrev prefixed : List ℕ → Rules
prefixed prefix = record default_rules { ids = true; id_prefix = prefix }

abbrev with_ids_on : Rules
with_ids_on = prefixed []

abbrev strict : Rules
strict = record default_rules { doctype = Strict }

-- no host is denied
abbrev any_host : PlainHostRule
any_host = record { denied = []; host = None; external = true }

-- nodes after their attributes were gone through, where no host is denied
abbrev valid_under : Rules → Nodes → Nodes
valid_under rules nodes = with_valid_attributes rules any_host nodes

-- `<p id="a">x</p><p id="a">x</p>` gives `<p id="a">x</p><p>x</p>`
abbrev pub LeavesOutTheSecondId : Type 0
LeavesOutTheSecondId =
    let first = el P ((codes "id", codes "a") ∷ []) in
    valid_under with_ids_on (all_of (first ∷ first ∷ [])) ≡ all_of (first ∷ el P [] ∷ [])

-- with the prefix `u-`, `<p id="a">x</p>` gives `<p id="u-a">x</p>`
abbrev pub PutsThePrefix : Type 0
PutsThePrefix = valid_under (prefixed (codes "u-")) (el P ((codes "id", codes "a") ∷ [])) ≡ el P ((codes "id", codes "u-a") ∷ [])

-- and that stays as it is
abbrev pub PutsThePrefixOnce : Type 0
PutsThePrefixOnce =
    let nodes = el P ((codes "id", codes "u-a") ∷ []) in
    valid_under (prefixed (codes "u-")) nodes ≡ nodes

-- with it, `<p id="a">x</p><p id="u-a">x</p>` gives `<p id="u-a">x</p><p>x</p>`
abbrev pub PutsThePrefixFirst : Type 0
PutsThePrefixFirst =
    let second = el P ((codes "id", codes "u-a") ∷ []) in
    valid_under (prefixed (codes "u-")) (all_of (el P ((codes "id", codes "a") ∷ []) ∷ second ∷ [])) ≡ all_of (second ∷ el P [] ∷ [])

-- `<div id="a"><p id="a">x</p></div><p id="b">x</p>` gives `<div id="a"><p>x</p></div><p id="b">x</p>`
abbrev pub GoesInDocumentOrder : Type 0
GoesInDocumentOrder =
    let a = (codes "id", codes "a") ∷ [] in
    let last = el P ((codes "id", codes "b") ∷ []) in
    valid_under with_ids_on (all_of (round Div a (el P a) ∷ last ∷ [])) ≡ all_of (round Div a (el P []) ∷ last ∷ [])

-- where ids are off, `<p id="a">x</p>` gives `<p>x</p>`
abbrev pub KeepsNoIdUnlessIdsAreOn : Type 0
KeepsNoIdUnlessIdsAreOn = valid_under default_rules (el P ((codes "id", codes "a") ∷ [])) ≡ el P []

-- with the prefix `u-`, `<a name="t">x</a>` gives `<a id="u-t">x</a>`
abbrev pub MakesANameAnId : Type 0
MakesANameAnId = valid_under (prefixed (codes "u-")) (el A ((codes "name", codes "t") ∷ [])) ≡ el A ((codes "id", codes "u-t") ∷ [])

-- `<a name="t" id="s">x</a>` gives `<a id="s">x</a>`
abbrev pub DropsANameBesideAnId : Type 0
DropsANameBesideAnId =
    valid_under with_ids_on (el A ((codes "name", codes "t") ∷ (codes "id", codes "s") ∷ [])) ≡ el A ((codes "id", codes "s") ∷ [])

-- `<a name="t" id="1">x</a>` gives `<a>x</a>`
abbrev pub DropsANameBesideAnUnreadId : Type 0
DropsANameBesideAnUnreadId = valid_under with_ids_on (el A ((codes "name", codes "t") ∷ (codes "id", codes "1") ∷ [])) ≡ el A []

-- `<p name="t">x</p>` gives `<p>x</p>`
abbrev pub DropsOtherNames : Type 0
DropsOtherNames = valid_under with_ids_on (el P ((codes "name", codes "t") ∷ [])) ≡ el P []

-- `<p lang="EN">x</p>` gives `<p lang="en" xml:lang="en">x</p>`
abbrev pub TellsBothLanguages : Type 0
TellsBothLanguages =
    valid_under default_rules (el P ((codes "lang", codes "EN") ∷ []))
    ≡ el P ((codes "lang", codes "en") ∷ (codes "xml:lang", codes "en") ∷ [])

-- `<p lang="de" title="t" xml:lang="fr">x</p>` gives `<p lang="fr" title="t" xml:lang="fr">x</p>`
abbrev pub TellsTheLanguageOfXml : Type 0
TellsTheLanguageOfXml =
    valid_under default_rules (el P ((codes "lang", codes "de") ∷ title ∷ french ∷ []))
    ≡ el P ((codes "lang", codes "fr") ∷ title ∷ french ∷ [])

-- `<p xml:lang="fr" title="t">x</p>` gives `<p xml:lang="fr" title="t" lang="fr">x</p>`
abbrev pub TellsTheLanguageAtTheEnd : Type 0
TellsTheLanguageAtTheEnd =
    valid_under default_rules (el P (french ∷ title ∷ [])) ≡ el P (french ∷ title ∷ (codes "lang", codes "fr") ∷ [])

-- `<bdo>x</bdo>` gives `<bdo dir="ltr">x</bdo>`
abbrev pub PutsADirection : Type 0
PutsADirection = valid_under default_rules (el Bdo []) ≡ el Bdo ((codes "dir", codes "ltr") ∷ [])

-- `<bdo dir="RTL">x</bdo>` gives `<bdo dir="rtl">x</bdo>`
abbrev pub KeepsADirection : Type 0
KeepsADirection = valid_under default_rules (el Bdo ((codes "dir", codes "RTL") ∷ [])) ≡ el Bdo ((codes "dir", codes "rtl") ∷ [])

-- `<form action="javascript:x">x</form>` gives `<form action="">x</form>`
abbrev pub PutsAnAction : Type 0
PutsAnAction = valid_under default_rules (el Form ((codes "action", codes "javascript:x") ∷ [])) ≡ el Form ((codes "action", []) ∷ [])

-- `<form action="HTTP://example.com/" method="POST">x</form>` gives `<form action="http://example.com/" method="post">x</form>`
abbrev pub KeepsAnAction : Type 0
KeepsAnAction =
    valid_under default_rules (el Form ((codes "action", codes "HTTP://example.com/") ∷ (codes "method", codes "POST") ∷ []))
    ≡ el Form ((codes "action", codes "http://example.com/") ∷ (codes "method", codes "post") ∷ [])

-- `<textarea cols="9">x</textarea>` gives `<textarea cols="9" rows="4">x</textarea>`
abbrev pub PutsASize : Type 0
PutsASize =
    valid_under default_rules (el Textarea ((codes "cols", codes "9") ∷ [])) ≡ el Textarea ((codes "cols", codes "9") ∷ (codes "rows", codes "4") ∷ [])

-- `<textarea>x</textarea>` gives `<textarea rows="4" cols="40">x</textarea>`
abbrev pub PutsRowsAndColumns : Type 0
PutsRowsAndColumns = valid_under default_rules (el Textarea []) ≡ el Textarea ((codes "rows", codes "4") ∷ (codes "cols", codes "40") ∷ [])

-- `<optgroup>x</optgroup>` gives `<optgroup label="">x</optgroup>`
abbrev pub PutsALabel : Type 0
PutsALabel = valid_under default_rules (el Optgroup []) ≡ el Optgroup ((codes "label", []) ∷ [])

-- `<input name="n">x</input>` gives `<input>x</input>`: nothing must be there
abbrev pub PutsNothingElse : Type 0
PutsNothingElse = valid_under default_rules (el Input ((codes "name", codes "n") ∷ [])) ≡ el Input []

-- where no attributes are listed, `<bdo dir="rtl" title="t">x</bdo>` gives `<bdo dir="rtl">x</bdo>`
abbrev pub KeepsWhatIsRequired : Type 0
KeepsWhatIsRequired =
    valid_under (record default_rules { attributes = Some [] }) (el Bdo (to_the_left ∷ title ∷ [])) ≡ el Bdo (to_the_left ∷ [])

-- where `lang` alone is listed, `<p title="t" xml:lang="fr">x</p>` gives `<p xml:lang="fr" lang="fr">x</p>`
abbrev pub KeepsWhatIsListed : Type 0
KeepsWhatIsListed =
    valid_under (record default_rules { attributes = Some (Everywhere Lang ∷ []) }) (el P (title ∷ french ∷ []))
    ≡ el P (french ∷ (codes "lang", codes "fr") ∷ [])

-- `<table border="007px" width="150%"><tr><td colspan="0" align="RIGHT">x</td></tr></table>` gives
-- `<table border="7" width="100%"><tr><td align="right">x</td></tr></table>`
abbrev pub ReadsValues : Type 0
ReadsValues =
    valid_under default_rules
    (round Table ((codes "border", codes "007px") ∷ (codes "width", codes "150%") ∷ [])
    (round Tr [] (el Td ((codes "colspan", codes "0") ∷ (codes "align", codes "RIGHT") ∷ []))))
    ≡ round Table ((codes "border", codes "7") ∷ (codes "width", codes "100%") ∷ []) (round Tr [] (el Td ((codes "align", codes "right") ∷ [])))

-- `<p class="a">x</p>` stays as it is
abbrev pub ReadsClasses : Type 0
ReadsClasses =
    let nodes = el P ((codes "class", codes "a") ∷ []) in
    valid_under default_rules nodes ≡ nodes

-- in Strict `<p align="center" title="t">x</p>` gives `<p title="t" style="text-align:center;">x</p>`
abbrev pub StylesWhatStrictLacks : Type 0
StylesWhatStrictLacks =
    valid_under strict (el P ((codes "align", codes "center") ∷ title ∷ []))
    ≡ el P (title ∷ (codes "style", codes "text-align:center;") ∷ [])

-- and `<td bgcolor="red">x</td>` gives `<td style="background-color:#ff0000;">x</td>`
abbrev pub StylesWhatIsBehind : Type 0
StylesWhatIsBehind =
    valid_under strict (el Td ((codes "bgcolor", codes "red") ∷ [])) ≡ el Td ((codes "style", codes "background-color:#ff0000;") ∷ [])

-- before values are read, `<p align="center">` has got `style="text-align:center;"` at its end
abbrev pub StylesText : Type 0
StylesText =
    with_style_in Strict P ((codes "align", codes "center") ∷ title ∷ [])
    ≡ (codes "align", codes "center") ∷ title ∷ (codes "style", codes "text-align:center;") ∷ []

-- and `<td style="color:red" nowrap="x" bgcolor="blue" align="left">` has its own style behind that which is put in front
abbrev pub PutsStylesInFront : Type 0
PutsStylesInFront =
    let others : List Attribute = (codes "nowrap", codes "x") ∷ (codes "bgcolor", codes "blue") ∷ (codes "align", codes "left") ∷ [] in
    with_style_in Strict Td ((codes "style", codes "color:red") ∷ others)
    ≡ (codes "style", codes "background-color:blue;white-space:nowrap;color:red") ∷ others

-- in Transitional nothing is put
abbrev pub StylesNothingInTransitional : Type 0
StylesNothingInTransitional =
    let attrs : List Attribute = (codes "align", codes "center") ∷ [] in
    with_style_in Transitional P attrs ≡ attrs

-- ---- links, pictures and styles

-- `<a href="x" style="color:red" onclick="y">x</a>` gives `<a href="x" style="color:#ff0000;">x</a>`
abbrev pub ReadsStylesAndLinks : Type 0
ReadsStylesAndLinks =
    let href : Attribute = (codes "href", codes "x") in
    valid_under default_rules (el A (href ∷ (codes "style", codes "color:red") ∷ (codes "onclick", codes "y") ∷ []))
    ≡ el A (href ∷ (codes "style", codes "color:#ff0000;") ∷ [])

-- `<a href="javascript:alert(1)">x</a>` gives `<a>x</a>`
abbrev pub DropsScripts : Type 0
DropsScripts = valid_under default_rules (el A ((codes "href", codes "javascript:alert(1)") ∷ [])) ≡ el A []

-- `<a href="HTTP://Example.COM:80/%7euser?q=a b">x</a>` gives `<a href="http://example.com/~user?q=a%20b">x</a>`
abbrev pub ReadsLinks : Type 0
ReadsLinks =
    valid_under default_rules (el A ((codes "href", codes "HTTP://Example.COM:80/%7euser?q=a b") ∷ []))
    ≡ el A ((codes "href", codes "http://example.com/~user?q=a%20b") ∷ [])

-- `<img src="x.png" />` gives `<img src="x.png" alt="x.png" />`
abbrev pub NamesPictures : Type 0
NamesPictures =
    let src : Attribute = (codes "src", codes "x.png") in
    valid_under default_rules (round Img (src ∷ []) no_nodes) ≡ round Img (src ∷ (codes "alt", codes "x.png") ∷ []) no_nodes

-- `<img src="a/b%2fc.png" />` gives `<img src="a/b%2Fc.png" alt="b%2Fc.png" />`
abbrev pub NamesPicturesByTheLastSegment : Type 0
NamesPicturesByTheLastSegment =
    valid_under default_rules (round Img ((codes "src", codes "a/b%2fc.png") ∷ []) no_nodes)
    ≡ round Img ((codes "src", codes "a/b%2Fc.png") ∷ (codes "alt", codes "b%2Fc.png") ∷ []) no_nodes

-- where `bad.com` is denied
abbrev none_bad : PlainHostRule
none_bad = record { denied = codes "bad.com" ∷ []; host = None; external = true }

-- there `<a href="http://x.bad.com/">x</a>` gives `<a>x</a>`
abbrev pub DropsDeniedHosts : Type 0
DropsDeniedHosts = with_valid_attributes default_rules none_bad (el A ((codes "href", codes "http://x.bad.com/") ∷ [])) ≡ el A []

-- and `<a href="http://notbad.com/">x</a>` stays as it is
abbrev pub KeepsOtherHosts : Type 0
KeepsOtherHosts =
    let nodes = el A ((codes "href", codes "http://notbad.com/") ∷ []) in
    with_valid_attributes default_rules none_bad nodes ≡ nodes
