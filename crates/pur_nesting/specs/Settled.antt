-- Nodes that need no repair.
use Rattle.std.specs.Prelude.{◌≡◌, true, false}
use Rattle.pur_names.specs.declared.elements.Element.TheVariants.{Table}
use Rattle.pur_names.specs.Elements.{same_element}
use Rattle.pur_models.specs.Laws.{IsTableWord}
use Rattle.pur_tree.specs.Nodes.{Nodes, no_nodes, text_first, elem_first, starts_with_text}
use Rattle.pur_tree.specs.Words.{word_of}
use Rattle.pur_nesting.specs.Nesting.{vanishes}

-- no texts are neighbours, no element wants a child, and in each table a caption, columns of one kind, a head, a foot and
-- one or more bodies of one kind stand in this order, with white space alone beside them
abbrev pub IsSettled : Nodes → Type 0
IsSettled no_nodes = Unit {0}
IsSettled (text_first s rest) = (starts_with_text rest ≡ false) × IsSettled rest
IsSettled (elem_first e kids rest) =
    (vanishes e.name kids ≡ false) × (same_element e.name Table ≡ true → IsTableWord (word_of false kids)) × IsSettled kids × IsSettled rest
