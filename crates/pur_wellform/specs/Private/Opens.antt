-- The open elements of the program, which stand outermost first, as plain ones, which stand innermost first.
use Rattle.std.specs.Prelude.{◌≤◌, ◌≡◌, Bool, true, false, List, [], ◌∷◌, Option, Some, None}
use Rattle.pur_names.specs.declared.elements.Element.{Element}
use Rattle.pur_modules.specs.Contents.{is_empty_element}
use Rattle.pur_modules.specs.Excluders.{excluders_of}
use Rattle.pur_settings.specs.Rules.{Rules}
use Rattle.pur_tree.specs.Nodes.{PlainElem, plain_elem}
use Rattle.pur_tree.specs.Places.{level_limit}
use Rattle.pur_wellform.specs.declared.open_elements.Open.{Open}
use Rattle.pur_wellform.specs.declared.search.Way.{Way}
use Rattle.pur_wellform.specs.declared.search.Way.TheVariants.{Barred, Direct, Inside}
use Rattle.pur_wellform.specs.declared.search.Found.{Found}
use Rattle.pur_wellform.specs.Search.{content_in, level_in, Entry, barred, direct, inside, Place, no_place, at_place}
use Rattle.pur_wellform.specs.Closing.{names}

-- an open element, with the attributes that are kept of it
abbrev pub tag_of : Open → PlainElem
tag_of o = plain_elem o.name o.attrs

-- open elements that stand inside of others
abbrev pub tags_under : List PlainElem → List Open → List PlainElem
tags_under outer [] = outer
tags_under outer (o ∷ os) = tags_under (tag_of o ∷ outer) os

abbrev pub tags_of : List Open → List PlainElem
tags_of os = tags_under [] os

-- their names
abbrev pub names_of : List Open → List Element
names_of os = names (tags_of os)

-- what is noted of an open element is so; it is given with the elements round it
pub record IsOpen (rules : Rules) (inner : List Element) (o : Open) : Type 0 where
  pub content : o.content ≡ content_in rules inner
  pub level : o.level ≡ level_in inner
  pub low : level_in inner ≤ level_limit
  pub full : is_empty_element o.name ≡ false
  pub excluders : o.excluders ≡ excluders_of inner

abbrev pub AreOpenUnder : Rules → List PlainElem → List Open → Type 0
AreOpenUnder rules outer [] = Unit {0}
AreOpenUnder rules outer (o ∷ os) = IsOpen rules (names (tag_of o ∷ outer)) o × AreOpenUnder rules (tag_of o ∷ outer) os

pub record AreOpen (rules : Rules) (os : List Open) : Type 0 where
  pub each : AreOpenUnder rules [] os

-- the way into a place, as a plain one
abbrev pub entry_of : Way → Entry
entry_of Barred = barred
entry_of Direct = direct
entry_of (Inside wrapper) = inside wrapper

abbrev pub found_place : Option Found → Place
found_place None = no_place
found_place (Some found) = at_place found.inner (entry_of found.way)

-- whether a thing can come in by a way
abbrev pub is_open_way : Entry → Bool
is_open_way barred = false
is_open_way direct = true
is_open_way (inside wrapper) = true
