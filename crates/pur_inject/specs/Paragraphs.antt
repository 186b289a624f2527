-- Nodes in which the texts between blank lines are paragraphs (HTML Purifier's injector AutoFormat.AutoParagraph, in outline).
use Rattle.std.specs.Prelude.{ℕ, ◌==◌, Bool, true, false, not, ◌&&◌, List, [], ◌∷◌, nat_le, sum_by, if◌then◌else◌}
use Rattle.pur_text.specs.Characters.{is_blank}
use Rattle.pur_names.specs.declared.elements.Element.{Element}
use Rattle.pur_names.specs.declared.elements.Element.TheVariants.{P}
use Rattle.pur_modules.specs.declared.kinds.Content.{Content}
use Rattle.pur_modules.specs.declared.kinds.Content.TheVariants.{Flow}
use Rattle.pur_modules.specs.declared.kinds.Doctype.{Doctype}
use Rattle.pur_modules.specs.Groups.{is_among, inline, misc}
use Rattle.pur_settings.specs.Rules.{Rules, permits_element}
use Rattle.pur_tree.specs.Nodes.{bare, Nodes, no_nodes, text_first, elem_first, level_in}
use Rattle.pur_tree.specs.Places.{fragment, inside, level_limit}
use Rattle.pur_tree.specs.Walks.{count_in_text}
use Rattle.pur_inject.specs.Runs.{runs_of, with_runs}
use Rattle.pur_inject.specs.Signs.{Sign, letter, element, blank_line, signs_of, nodes_from}

abbrev pub is_line_feed : ℕ → Bool
is_line_feed c = c == 0xA

abbrev pub is_line_feed_sign : Sign → Bool
is_line_feed_sign (letter c) = is_line_feed c
is_line_feed_sign (element e kids) = false
is_line_feed_sign blank_line = false

-- two or more line feeds are a blank line
abbrev pub marked_run : List Sign → List Sign
marked_run (x ∷ y ∷ run) = blank_line ∷ []
marked_run run = run

abbrev pub with_blank_lines : List Sign → List Sign
with_blank_lines signs = with_runs is_line_feed_sign marked_run signs

-- whether an element stands in a paragraph: an inline one, but no mark of editing
abbrev pub is_in_paragraphs : Doctype → Element → Bool
is_in_paragraphs doctype e = is_among (inline doctype) e && not (is_among misc e)

abbrev pub stands_in_paragraphs : Doctype → Sign → Bool
stands_in_paragraphs doctype (letter c) = true
stands_in_paragraphs doctype (element e kids) = is_in_paragraphs doctype e.name
stands_in_paragraphs doctype blank_line = false

-- whether there is no node but texts of white space alone
abbrev pub are_blank : Nodes → Bool
are_blank no_nodes = true
are_blank (text_first s rest) = is_blank s && are_blank rest
are_blank (elem_first e kids rest) = false

-- whether nodes become a paragraph: there is one that isn't white space, and no level passes the limit then
abbrev pub is_paragraph : Nodes → Bool
is_paragraph nodes = not (are_blank nodes) && nat_le (level_in (inside fragment P) nodes) level_limit

-- what is made of what stands between blank lines, other elements and the ends of a fragment
abbrev pub wrapped_run : List Sign → List Sign
wrapped_run run = if is_paragraph (nodes_from run) then element (bare P) (nodes_from run) ∷ [] else run

-- a fragment's own nodes in paragraphs
abbrev pub in_paragraphs : Doctype → Nodes → Nodes
in_paragraphs doctype nodes =
    nodes_from (with_runs (stands_in_paragraphs doctype) wrapped_run (with_blank_lines (signs_of nodes)))

abbrev pub is_flow : Content → Bool
is_flow Flow = true
is_flow content = false

-- whether paragraphs are made: that is on, the fragment stands in a `div`, and a `p` is permitted
abbrev pub makes_paragraphs : Rules → Bool
makes_paragraphs rules = rules.auto_paragraph && is_flow rules.parent && permits_element rules P

-- nodes with paragraphs
abbrev pub with_paragraphs : Rules → Nodes → Nodes
with_paragraphs rules nodes = if makes_paragraphs rules then in_paragraphs rules.doctype nodes else nodes

-- how often a character, given as its number, stands in what is taken of blank lines: the line feeds past the second
abbrev pub lost_in_run : ℕ → List Sign → ℕ
lost_in_run c (x ∷ y ∷ run) = count_in_text c (nodes_from run)
lost_in_run c run = 0

abbrev pub lost_in_paragraphs : ℕ → Rules → Nodes → ℕ
lost_in_paragraphs c rules nodes =
    if makes_paragraphs rules then sum_by (lost_in_run c) (runs_of is_line_feed_sign (signs_of nodes)) else 0
