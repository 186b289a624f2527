-- What is known inside open elements, and where the place of an element or a text is. Open elements are given innermost
-- first; where none is open stands the fragment itself (own rules, after the second strategy of HTML Purifier).
use Rattle.std.specs.Prelude.{ℕ, Bool, List, [], ◌∷◌, Option, Some, None, if◌then◌else◌, not, ◌&&◌, suc}
use Rattle.pur_names.specs.Elements.{same_element}
use Rattle.pur_names.specs.declared.elements.Element.{Element}
use Rattle.pur_names.specs.declared.elements.Element.TheVariants.{Caption, Col, Colgroup, Table, Tbody, Td, Tfoot, Th, Thead, Tr}
use Rattle.pur_modules.specs.declared.kinds.Child.{Child}
use Rattle.pur_modules.specs.declared.kinds.Child.TheVariants.{Elem}
use Rattle.pur_modules.specs.declared.kinds.Content.{Content}
use Rattle.pur_modules.specs.Contents.{content_held}
use Rattle.pur_modules.specs.Expressions.{is_letter}
use Rattle.pur_modules.specs.Groups.{is_among}
use Rattle.pur_modules.specs.Wrappers.{wrapper_of}
use Rattle.pur_settings.specs.Rules.{Rules, permits_element}
use Rattle.pur_tree.specs.Places as levels

-- what the innermost element holds; the fragment holds what the settings say
abbrev pub content_in : Rules → List Element → Content
content_in rules [] = rules.parent
content_in rules (element ∷ outer) = content_held rules.doctype element (content_in rules outer)

-- whether that content allows a thing
abbrev pub allows : Rules → List Element → Child → Bool
allows rules opened child = is_letter rules.doctype (content_in rules opened) child

-- where the children of the innermost element stand: at which level, and whether in a table
abbrev pub standing_in : List Element → levels.Place
standing_in [] = levels.fragment
standing_in (element ∷ outer) = levels.inside (standing_in outer) element

-- the level of the innermost element, and 0 where none is open
abbrev pub level_in : List Element → ℕ
level_in opened = (standing_in opened).level

-- how a thing comes into a place: not at all, as it is, or inside of a wrapper
pub data Entry : Type 0 where
  barred : Entry
  direct : Entry
  inside : Element → Entry

-- a wrapper that is implied, where it is permitted
abbrev pub by_wrapper : Rules → Option Element → Entry
by_wrapper rules None = barred
by_wrapper rules (Some wrapper) = if permits_element rules wrapper then inside wrapper else barred

-- the way into a place: the content allows the thing, or it implies a wrapper for it
abbrev pub entry : Rules → List Element → Child → Entry
entry rules opened child =
    if allows rules opened child then direct else by_wrapper rules (wrapper_of rules.doctype (content_in rules opened) child)

-- what is open where a thing has come in
abbrev pub wrapped : Entry → List Element → List Element
wrapped barred opened = opened
wrapped direct opened = opened
wrapped (inside wrapper) opened = wrapper ∷ opened

-- cells and captions: most searches don't pass them, and formatting isn't carried out of them
abbrev pub is_shut : Element → Bool
is_shut element = is_among (Td ∷ Th ∷ Caption ∷ []) element

-- the parts of tables, for which a search passes cells and captions too
abbrev pub is_table_part : Element → Bool
is_table_part element = is_among (Table ∷ Thead ∷ Tbody ∷ Tfoot ∷ Tr ∷ Td ∷ Th ∷ Caption ∷ Colgroup ∷ Col ∷ []) element

-- whether a search for an element ends after an open one was examined
abbrev pub ends_search : Element → Element → Bool
ends_search sought element = is_shut element && not (is_table_part sought)

-- what a search finds: no place, or a place inside of which so many elements are open, with the way into it
pub data Place : Type 0 where
  no_place : Place
  at_place : ℕ → Entry → Place

-- a place that is found one element further out
abbrev pub one_further : Place → Place
one_further no_place = no_place
one_further (at_place inner way) = at_place (suc inner) way

-- the place that is examined, where there is a way into it, and otherwise the one that is found further out
abbrev pub or_further : Entry → Place → Place
or_further barred further = further
or_further direct further = at_place 0 direct
or_further (inside wrapper) further = at_place 0 (inside wrapper)

-- the place of an element: the first one, from the innermost element out to the fragment, that has a way in for it; a search
-- that ends at a cell or a caption doesn't examine what lies further out
abbrev pub place_of : Rules → Element → List Element → Place
place_of rules sought [] = or_further (entry rules [] (Elem sought)) no_place
place_of rules sought (element ∷ outer) =
    or_further (entry rules (element ∷ outer) (Elem sought))
    (if ends_search sought element then no_place else one_further (place_of rules sought outer))

-- so many elements and one more
abbrev pub count_further : Option ℕ → Option ℕ
count_further None = None
count_further (Some inner) = Some (suc inner)

-- how many elements are open inside of the open one of this name that a search finds, if it finds one
abbrev pub open_place : Element → List Element → Option ℕ
open_place sought [] = None
open_place sought (element ∷ outer) =
    if same_element sought element then Some 0 else
    if ends_search sought element then None else count_further (open_place sought outer)
