-- A fragment's own nodes while they are put into paragraphs.
use Rattle.std.specs.Prelude.{Bool, true, false, not, ◌&&◌, List, ◌++◌, if◌then◌else◌, string_bytes}
use Rattle.std.specs.Str.{chars}
use Rattle.pur_names.specs.declared.elements.Element.TheVariants.{P}
use Rattle.pur_modules.specs.declared.kinds.Doctype.{Doctype}
use Rattle.pur_tree.specs.Nodes.{bare, Nodes, no_nodes, text_first, elem_first}
use Rattle.pur_inject.specs.Paragraphs.{is_in_paragraphs, is_paragraph, stands_in_paragraphs, with_blank_lines, wrapped_run}
use Rattle.pur_inject.specs.Runs.{front_run, behind_run}
use Rattle.pur_inject.specs.Signs.{Sign, letters, signs_of, signs_before, nodes_from}
use Rattle.pur_inject.specs.Private.Growing.{grown}
use Rattle.pur_inject.specs.declared.growing.Growing.{Growing}
use Rattle.pur_inject.specs.declared.paragraphs.Paragraphs.{Paragraphs}

-- a piece in front of nodes, as a paragraph or as it is
abbrev pub piece_before : Nodes → Nodes → Nodes
piece_before piece more = if is_paragraph piece then elem_first (bare P) piece more else signs_before (signs_of piece) more

-- what there will be when these signs, in which blank lines are marked, come behind a piece
abbrev pub ahead : Doctype → Growing → Growing → List Sign → Nodes
ahead doctype done piece more =
    let stands = stands_in_paragraphs doctype in
    grown done (piece_before (grown piece (nodes_from (front_run stands more))) (nodes_from (behind_run stands wrapped_run more)))

abbrev pub going_on : Doctype → Paragraphs → List Sign → Nodes
going_on doctype p more = ahead doctype p.done p.piece more

-- what there will be when these signs come behind the text at hand
abbrev pub standing : Doctype → Paragraphs → List Sign → Nodes
standing doctype p more = going_on doctype p (with_blank_lines (letters (chars (string_bytes p.text)) ++ more))

-- whether nodes are elements that stand in no paragraph, all of them
abbrev pub are_apart : Doctype → Nodes → Bool
are_apart doctype no_nodes = true
are_apart doctype (text_first s rest) = false
are_apart doctype (elem_first e kids rest) = not (is_in_paragraphs doctype e.name) && are_apart doctype rest
