-- Nodes in which addresses in texts are links (HTML Purifier's injector AutoFormat.Linkify, in outline).
use Rattle.std.specs.Prelude.{ℕ, ◌-◌, Bool, false, not, ◌&&◌, ◌||◌, List, [], ◌∷◌, ◌++◌, is_some, nat_lt, if◌then◌else◌, codes}
use Rattle.pur_names.specs.declared.attributes.Attr.TheVariants.{Href}
use Rattle.pur_names.specs.declared.elements.Element.{Element}
use Rattle.pur_names.specs.declared.elements.Element.TheVariants.{A, Table}
use Rattle.pur_names.specs.Elements.{same_element}
use Rattle.pur_modules.specs.declared.kinds.Child.TheVariants.{Elem}
use Rattle.pur_modules.specs.declared.kinds.Doctype.{Doctype}
use Rattle.pur_modules.specs.Contents.{content_held, is_excluded}
use Rattle.pur_modules.specs.Expressions.{is_letter}
use Rattle.pur_settings.specs.Rules.{Rules, permits_attribute, permits_element}
use Rattle.pur_uripolicy.specs.Admissible.{uri_under}
use Rattle.pur_tree.specs.Nodes.{PlainElem, plain_elem, Nodes, no_nodes, text_first, elem_first, nodes_append}
use Rattle.pur_tree.specs.Places.{level_limit, rise}
use Rattle.pur_uripolicy.specs.HostRules.{PlainHostRule}
use Rattle.pur_uripolicy.specs.declared.uses.UriUse.TheVariants.{Link}
use Rattle.pur_inject.specs.Addresses.{is_address_character, is_address, before_address, from_address, without_end_marks, end_marks_of}
use Rattle.pur_inject.specs.Runs.{with_runs}
use Rattle.pur_inject.specs.Signs.{Sign, letter, element, blank_line, letters, nodes_from}
use Rattle.pur_inject.specs.declared.places.LinkPlace.{LinkPlace}

-- an `a` that leads to an address, and has it for its text
abbrev pub link_to : List ℕ → PlainElem
link_to address = plain_elem A ((codes "href", address) ∷ [])

abbrev pub link_sign : List ℕ → Sign
link_sign address = element (link_to address) (text_first address no_nodes)

-- whether a run has an address that may be a link: what is left of it without the marks at its end is longer than its prefix,
-- and passes the test
abbrev pub has_link : (List ℕ → Bool) → List ℕ → Bool
has_link admits run =
    let address = without_end_marks (from_address run) in
    is_address address && admits address

-- whether a sign is a character of which addresses are made
abbrev pub is_address_sign : Sign → Bool
is_address_sign (letter c) = is_address_character c
is_address_sign (element e kids) = false
is_address_sign blank_line = false

-- the characters of signs
abbrev pub text_of : List Sign → List ℕ
text_of [] = []
text_of (letter c ∷ signs) = c ∷ text_of signs
text_of (element e kids ∷ signs) = text_of signs
text_of (blank_line ∷ signs) = text_of signs

-- what is made of a run of such characters. All characters of a prefix are among them, so an address reaches to the end of its
-- run, and is the only one in it
abbrev pub linked_run : (List ℕ → Bool) → List Sign → List Sign
linked_run admits run =
    let text = text_of run in
    let address = from_address text in
    if has_link admits text
    then letters (before_address text) ++ (link_sign (without_end_marks address) ∷ letters (end_marks_of address))
    else run

-- a text as texts and links
abbrev pub linked_text : (List ℕ → Bool) → List ℕ → Nodes
linked_text admits [] = text_first [] no_nodes
linked_text admits (c ∷ s) = nodes_from (with_runs is_address_sign (linked_run admits) (letters (c ∷ s)))

-- the place inside an element
abbrev pub link_place_inside : Doctype → LinkPlace → Element → LinkPlace
link_place_inside doctype at e = record {
  content = content_held doctype e at.content;
  room = at.room - rise at.in_table e;
  in_table = same_element e Table;
  barred = is_excluded e A || at.barred;
}

-- whether a link may stand there: the parent's content allows it, there is a level for it, and no element round it excludes
-- it, as an `a` does
abbrev pub takes_links : Doctype → LinkPlace → Bool
takes_links doctype at = is_letter doctype at.content (Elem A) && nat_lt 0 at.room && not at.barred

-- nodes in which texts are texts and links, where links may stand
abbrev pub linked : Doctype → (List ℕ → Bool) → LinkPlace → Nodes → Nodes
linked doctype admits at no_nodes = no_nodes
linked doctype admits at (text_first s rest) =
    nodes_append (if takes_links doctype at then linked_text admits s else text_first s no_nodes) (linked doctype admits at rest)
linked doctype admits at (elem_first e kids rest) =
    elem_first e (linked doctype admits (link_place_inside doctype at e.name) kids) (linked doctype admits at rest)

-- the place of a fragment's own nodes
abbrev pub link_place_of : Rules → LinkPlace
link_place_of rules = record { content = rules.parent; room = level_limit; in_table = false; barred = false }

-- whether links are made: that is on, and an `a` and its `href` are permitted
abbrev pub makes_links : Rules → Bool
makes_links rules = rules.linkify && permits_element rules A && permits_attribute rules A Href

-- whether an address may be what a link leads to
abbrev pub may_be_linked : Rules → PlainHostRule → List ℕ → Bool
may_be_linked rules rule address = is_some (uri_under rules rule Link address)

-- nodes with links
abbrev pub with_links : Rules → PlainHostRule → Nodes → Nodes
with_links rules rule nodes =
    if makes_links rules then linked rules.doctype (may_be_linked rules rule) (link_place_of rules) nodes else nodes
