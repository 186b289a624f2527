-- The words that nesting repair makes.
use Rattle.std.specs.Prelude.{Bool, true, false, ◌≡◌}
use Rattle.pur_modules.specs.declared.kinds.Content.{Content}
use Rattle.pur_modules.specs.declared.kinds.Content.TheVariants.{FieldsetMix, OptionItems, Options}
use Rattle.pur_modules.specs.declared.kinds.Doctype.{Doctype}
use Rattle.pur_modules.specs.Contents.{content_held}
use Rattle.pur_tree.specs.Nodes.{Nodes, no_nodes, text_first, elem_first}
use Rattle.pur_tree.specs.Words.{IsWord}

-- whether repair makes words of a content kind: of each but what a `select`, an `optgroup` and a `fieldset` hold
abbrev pub is_repaired : Content → Bool
is_repaired Options = false
is_repaired OptionItems = false
is_repaired FieldsetMix = false
is_repaired content = true

-- nodes are a word of a content kind, if repair makes words of it
abbrev pub IsRepairedWord : Doctype → Content → Nodes → Type 0
IsRepairedWord doctype content nodes = is_repaired content ≡ true → IsWord doctype content nodes

-- and so are the children of each element, at any depth, of what it holds
abbrev pub HaveRepairedWords : Doctype → Content → Nodes → Type 0
HaveRepairedWords doctype content no_nodes = Unit {0}
HaveRepairedWords doctype content (text_first s rest) = HaveRepairedWords doctype content rest
HaveRepairedWords doctype content (elem_first e kids rest) =
    IsRepairedWord doctype (content_held doctype e.name content) kids × HaveRepairedWords doctype (content_held doctype e.name content) kids
    × HaveRepairedWords doctype content rest
