-- Which element a content kind implies round a child that it doesn't allow (this filter's own rule, after HTML Purifier).
use Rattle.std.specs.Prelude.{[], ◌∷◌, Bool, true, false, Option, Some, None, if◌then◌else◌, not, ◌&&◌}
use Rattle.pur_names.specs.declared.elements.Element.{Element}
use Rattle.pur_names.specs.declared.elements.Element.TheVariants.{Dd, Li, OptionItem, P, Td, Th, Tr}
use Rattle.pur_modules.specs.declared.kinds.Child.{Child}
use Rattle.pur_modules.specs.declared.kinds.Child.TheVariants.{Text, Elem}
use Rattle.pur_modules.specs.declared.kinds.Content.{Content}
use Rattle.pur_modules.specs.declared.kinds.Content.TheVariants.{Block, Items, OptionItems, Options, Pairs, Rows, TableParts}
use Rattle.pur_modules.specs.declared.kinds.Doctype.{Doctype}
use Rattle.pur_modules.specs.declared.kinds.Doctype.TheVariants.{Strict}
use Rattle.pur_modules.specs.Groups.{is_among, inline, misc}
use Rattle.pur_modules.specs.Expressions.{is_letter}
use Rattle.pur_modules.specs.Contents.{content_held}

-- a cell of a table
abbrev pub is_cell : Child → Bool
is_cell Text = false
is_cell (Elem element) = is_among (Th ∷ Td ∷ []) element

-- text, or an inline element that is no mark of editing
abbrev pub is_running : Doctype → Child → Bool
is_running doctype Text = true
is_running doctype (Elem element) = is_among (inline doctype) element && not (is_among misc element)

-- lists imply an item, definition lists a description, tables and their rows a row round cells, lists of options an
-- option round text, and what a Strict blockquote or form holds a paragraph round running text
abbrev pub wrapper_for : Doctype → Content → Child → Option Element
wrapper_for doctype Items child = Some Li
wrapper_for doctype Pairs child = Some Dd
wrapper_for doctype TableParts child = if is_cell child then Some Tr else None
wrapper_for doctype Rows child = if is_cell child then Some Tr else None
wrapper_for doctype Options Text = Some OptionItem
wrapper_for doctype OptionItems Text = Some OptionItem
wrapper_for Strict Block child = if is_running Strict child then Some P else None
wrapper_for doctype content child = None

-- the wrapper, if its own content allows the child
abbrev pub if_it_holds : Doctype → Content → Child → Option Element → Option Element
if_it_holds doctype content child None = None
if_it_holds doctype content child (Some wrapper) =
    if is_letter doctype (content_held doctype wrapper content) child then Some wrapper else None

-- the element that a content kind implies round a child
unfoldable pub wrapper_of : Doctype → Content → Child → Option Element
wrapper_of doctype content child = if_it_holds doctype content child (wrapper_for doctype content child)
