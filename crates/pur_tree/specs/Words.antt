-- The words of nodes: what stands in them, in order, as letters of the content expressions (XML 1.0, section 3.2.1).
use Rattle.std.specs.Prelude.{Bool, List, [], ◌∷◌, if◌then◌else◌, ◌&&◌, not}
use Rattle.pur_text.specs.Characters.{is_blank}
use Rattle.pur_modules.specs.declared.kinds.Child.{Child}
use Rattle.pur_modules.specs.declared.kinds.Child.TheVariants.{Text, Elem}
use Rattle.pur_modules.specs.declared.kinds.Content.{Content}
use Rattle.pur_modules.specs.declared.kinds.Doctype.{Doctype}
use Rattle.pur_modules.specs.Contents.{content_held}
use Rattle.pur_modules.specs.Expressions.{has_text_letter}
use Rattle.pur_models.specs.Languages.{Language}
use Rattle.pur_tree.specs.Nodes.{Nodes, no_nodes, text_first, elem_first}

-- the letters of nodes; where text is no letter, white space text is left out
abbrev pub word_of : Bool → Nodes → List Child
word_of texts no_nodes = []
word_of texts (text_first s rest) = if not texts && is_blank s then word_of texts rest else Text ∷ word_of texts rest
word_of texts (elem_first e kids rest) = Elem e.name ∷ word_of texts rest

-- nodes are a word of a content kind
abbrev pub IsWord : Doctype → Content → Nodes → Type 0
IsWord doctype content nodes = Language doctype content (word_of (has_text_letter doctype content) nodes)

-- the children of each element, at any depth, are a word of what it holds
abbrev pub HaveWords : Doctype → Content → Nodes → Type 0
HaveWords doctype content no_nodes = Unit {0}
HaveWords doctype content (text_first s rest) = HaveWords doctype content rest
HaveWords doctype content (elem_first e kids rest) =
    IsWord doctype (content_held doctype e.name content) kids × HaveWords doctype (content_held doctype e.name content) kids
    × HaveWords doctype content rest
