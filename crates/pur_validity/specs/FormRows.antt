-- Worked examples of forms where these may stand in the output, and beside each a neighbour that one rule refuses.
use Rattle.std.specs.Prelude.{true, List, [], ◌∷◌, codes}
use Rattle.pur_names.specs.declared.elements.Element.TheVariants.{A, B, Button, Div, Fieldset, Form, Label, Legend, OptionItem, P, Select}
use Rattle.pur_modules.specs.declared.kinds.Doctype.{Doctype}
use Rattle.pur_modules.specs.declared.kinds.Doctype.TheVariants.{Strict, Transitional}
use Rattle.pur_settings.specs.Rules.{Rules, default_rules}
use Rattle.pur_tree.specs.Nodes.{Nodes, no_nodes, elem_first, plain_elem}
use Rattle.pur_validity.specs.Rows.{Beside, says, all, of}

-- forms may stand in the output
abbrev with_forms : Doctype → Rules
with_forms doctype = record default_rules { doctype = doctype; forms = true }

-- a form with its children, sent to the page itself
abbrev form : List Nodes → Nodes
form children = elem_first (plain_elem Form ((codes "action", []) ∷ [])) (all children) no_nodes

abbrev x : Nodes
x = says (codes "x")

-- where forms may not stand, `<p>x</p>`; a `fieldset`
abbrev pub FormsNeedTheSetting : Type 0
FormsNeedTheSetting = Beside default_rules (of P (x ∷ [])) (of Fieldset (x ∷ []))

-- `<form action=""><div>x</div></form>`; a form in that `div`
abbrev pub FormsStandInNoForm : Type 0
FormsStandInNoForm = Beside (with_forms Transitional) (form (of Div (x ∷ []) ∷ [])) (form (of Div (form (x ∷ []) ∷ []) ∷ []))

-- `<label><b>x</b></label>`; a label in that `b`
abbrev pub LabelsStandInNoLabel : Type 0
LabelsStandInNoLabel = Beside (with_forms Transitional) (of Label (of B (x ∷ []) ∷ [])) (of Label (of B (of Label (x ∷ []) ∷ []) ∷ []))

-- `<button><b>x</b></button>`; a link in that `b`
abbrev pub LinksStandInNoButton : Type 0
LinksStandInNoButton = Beside (with_forms Transitional) (of Button (of B (x ∷ []) ∷ [])) (of Button (of B (of A (x ∷ []) ∷ []) ∷ []))

-- `<fieldset><legend>x</legend>y</fieldset>`; the legend behind the text
abbrev pub LegendsComeFirst : Type 0
LegendsComeFirst = Beside (with_forms Transitional)
    (of Fieldset (of Legend (x ∷ []) ∷ says (codes "y") ∷ []))
    (of Fieldset (says (codes "y") ∷ of Legend (x ∷ []) ∷ []))

-- `<select><option>x</option></select>`; the text without its option
abbrev pub ChoicesAreOptions : Type 0
ChoicesAreOptions = Beside (with_forms Transitional) (of Select (of OptionItem (x ∷ []) ∷ [])) (of Select (x ∷ []))

-- in Strict a form holds blocks, and text alone doesn't stand in it
abbrev pub StrictFormsHoldBlocks : Type 0
StrictFormsHoldBlocks = Beside (with_forms Strict) (form (of P (x ∷ []) ∷ [])) (form (x ∷ []))
