-- Worked examples of closing.
use Rattle.std.specs.Prelude.{ℕ, ◌≡◌, List, [], ◌∷◌, ◌++◌, Some, codes, replicate}
use Rattle.pur_names.specs.Elements.{element_name}
use Rattle.pur_names.specs.declared.elements.Element.{Element}
use Rattle.pur_names.specs.declared.elements.Element.TheVariants.{A, B, Blockquote, Div, I, Img, Ins, Li, P, Pre, Table, Td, Tr, Ul}
use Rattle.pur_modules.specs.declared.kinds.Doctype.TheVariants.{Strict}
use Rattle.pur_tokens.specs.Tokens as read
use Rattle.pur_settings.specs.Rules.{Rules, default_rules}
use Rattle.pur_tree.specs.Nodes.{bare, plain_elem}
use Rattle.pur_tree.specs.Tokens.{Token, text_token, start_token, end_token}
use Rattle.pur_wellform.specs.Closing.{closed, lost_in_closing}

-- tags and texts that are read
abbrev tag : Element → read.PlainToken
tag element = read.start_token (element_name element) []

abbrev ended : Element → read.PlainToken
ended element = read.end_token (element_name element)

abbrev text : List ℕ → read.PlainToken
text characters = read.text_token characters

-- tags and texts that are written
abbrev opens : Element → Token
opens element = start_token (bare element)

abbrev closes : Element → Token
closes element = end_token element

abbrev says : List ℕ → Token
says characters = text_token characters

-- only these elements are permitted
abbrev only : List Element → Rules
only elements = record default_rules { elements = Some elements }

abbrev strict : Rules
strict = record default_rules { doctype = Strict }

-- `<b><i>x</b>y</i>` gives `<b><i>x</i></b><i>y</i>`
abbrev pub CarriesPastAnEnd : Type 0
CarriesPastAnEnd =
    closed default_rules (tag B ∷ tag I ∷ text (codes "x") ∷ ended B ∷ text (codes "y") ∷ ended I ∷ [])
    ≡ opens B ∷ opens I ∷ says (codes "x") ∷ closes I ∷ closes B ∷ opens I ∷ says (codes "y") ∷ closes I ∷ []

-- `<b title="t">1<p>2</p>3</b>` gives `<b title="t">1</b><p><b title="t">2</b></p><b title="t">3</b>`
abbrev pub CarriesIntoABlock : Type 0
CarriesIntoABlock =
    let attrs = (codes "title", codes "t") ∷ [] in
    closed default_rules (read.start_token (codes "b") attrs ∷ text (codes "1") ∷ tag P ∷ text (codes "2") ∷ ended P ∷ text (codes "3") ∷ ended B ∷ [])
    ≡ start_token (plain_elem B attrs) ∷ says (codes "1") ∷ closes B ∷ opens P ∷ start_token (plain_elem B attrs) ∷ says (codes "2")
    ∷ closes B ∷ closes P ∷ start_token (plain_elem B attrs) ∷ says (codes "3") ∷ closes B ∷ []

-- `<ul>a<li>b</ul>` gives `<ul><li>a</li><li>b</li></ul>`
abbrev pub WrapsTextInAnItem : Type 0
WrapsTextInAnItem =
    closed default_rules (tag Ul ∷ text (codes "a") ∷ tag Li ∷ text (codes "b") ∷ ended Ul ∷ [])
    ≡ opens Ul ∷ opens Li ∷ says (codes "a") ∷ closes Li ∷ opens Li ∷ says (codes "b") ∷ closes Li ∷ closes Ul ∷ []

-- `<td>x` gives `x`
abbrev pub DropsACellWithoutTable : Type 0
DropsACellWithoutTable = closed default_rules (tag Td ∷ text (codes "x") ∷ []) ≡ says (codes "x") ∷ []

-- `<table>x<tr><td>y</table>` gives `<table><tr><td>y</td></tr></table>`, and the `x` is lost
abbrev table_with_text : List read.PlainToken
table_with_text = tag Table ∷ text (codes "x") ∷ tag Tr ∷ tag Td ∷ text (codes "y") ∷ ended Table ∷ []

abbrev pub DropsTextInATable : Type 0
DropsTextInATable = closed default_rules table_with_text
    ≡ opens Table ∷ opens Tr ∷ opens Td ∷ says (codes "y") ∷ closes Td ∷ closes Tr ∷ closes Table ∷ []

abbrev pub LosesTextInATable : Type 0
LosesTextInATable = lost_in_closing default_rules table_with_text ≡ codes "x"

-- `<a>1<b><a>2</a></b></a>` gives `<a>1<b>2</b></a>`
abbrev pub DropsALinkInALink : Type 0
DropsALinkInALink =
    closed default_rules (tag A ∷ text (codes "1") ∷ tag B ∷ tag A ∷ text (codes "2") ∷ ended A ∷ ended B ∷ ended A ∷ [])
    ≡ opens A ∷ says (codes "1") ∷ opens B ∷ says (codes "2") ∷ closes B ∷ closes A ∷ []

-- `<pre><b>a<img></b></pre>` gives `<pre><b>a</b></pre>`
abbrev pub DropsAnImageInPre : Type 0
DropsAnImageInPre =
    closed default_rules (tag Pre ∷ tag B ∷ text (codes "a") ∷ tag Img ∷ ended B ∷ ended Pre ∷ [])
    ≡ opens Pre ∷ opens B ∷ says (codes "a") ∷ closes B ∷ closes Pre ∷ []

-- `<p><ins><div>x</div></ins></p>` gives `<p><ins></ins></p><div>x</div>`
abbrev pub ClosesRoundABlock : Type 0
ClosesRoundABlock =
    closed default_rules (tag P ∷ tag Ins ∷ tag Div ∷ text (codes "x") ∷ ended Div ∷ ended Ins ∷ ended P ∷ [])
    ≡ opens P ∷ opens Ins ∷ closes Ins ∷ closes P ∷ opens Div ∷ says (codes "x") ∷ closes Div ∷ []

-- where `b` and `ul` alone are permitted: `<b>x</b>` stays, and a list's item isn't implied, so the text in `<ul>y</ul>` is lost
abbrev pub ImpliesWhatIsPermitted : Type 0
ImpliesWhatIsPermitted =
    closed (only (B ∷ Ul ∷ [])) (tag B ∷ text (codes "x") ∷ ended B ∷ tag Ul ∷ text (codes "y") ∷ ended Ul ∷ [])
    ≡ opens B ∷ says (codes "x") ∷ closes B ∷ opens Ul ∷ closes Ul ∷ []

-- Strict: `<blockquote>x</blockquote>` gives `<blockquote><p>x</p></blockquote>`
abbrev pub WrapsTextInAParagraph : Type 0
WrapsTextInAParagraph =
    closed strict (tag Blockquote ∷ text (codes "x") ∷ ended Blockquote ∷ [])
    ≡ opens Blockquote ∷ opens P ∷ says (codes "x") ∷ closes P ∷ closes Blockquote ∷ []

-- cells come in a row, and nothing is carried out of a cell: `<table><td><b>1<td>2</table>3` gives
-- `<table><tr><td><b>1</b></td><td>2</td></tr></table>3`
abbrev pub CarriesNothingOutOfACell : Type 0
CarriesNothingOutOfACell =
    closed default_rules (tag Table ∷ tag Td ∷ tag B ∷ text (codes "1") ∷ tag Td ∷ text (codes "2") ∷ ended Table ∷ text (codes "3") ∷ [])
    ≡ opens Table ∷ opens Tr ∷ opens Td ∷ opens B ∷ says (codes "1") ∷ closes B ∷ closes Td ∷ opens Td ∷ says (codes "2") ∷ closes Td
    ∷ closes Tr ∷ closes Table ∷ says (codes "3") ∷ []

-- 129 times `<div>`, `x`, 129 times `</div>` give 128 `div` round `x`
abbrev pub StopsAtTheLimit : Type 0
StopsAtTheLimit =
    closed default_rules (replicate 129 (tag Div) ++ (text (codes "x") ∷ replicate 129 (ended Div)))
    ≡ replicate 128 (opens Div) ++ (says (codes "x") ∷ replicate 128 (closes Div))

-- 126 times `<div>`, then `<table><tr><td>x`: the `tr` would have level 129, and the `x` has no place
abbrev pub CountsARowForTwo : Type 0
CountsARowForTwo =
    closed default_rules (replicate 126 (tag Div) ++ (tag Table ∷ tag Tr ∷ tag Td ∷ text (codes "x") ∷ []))
    ≡ replicate 126 (opens Div) ++ (opens Table ∷ closes Table ∷ replicate 126 (closes Div))
