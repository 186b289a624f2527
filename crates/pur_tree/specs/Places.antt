-- How deep elements stand. A fragment has level 0, and an element's level is its parent's and 1 more; but that of a `tr`
-- directly in a `table` is 2 more, since HTML has a `tbody` between them, whose tags may be left out (HTML 4.01, section 11.2.3).
use Rattle.std.specs.Prelude.{ℕ, ◌+◌, ◌&&◌, ◌≤◌, Bool, false, if◌then◌else◌, List, [], ◌∷◌}
use Rattle.pur_names.specs.declared.elements.Element.{Element}
use Rattle.pur_names.specs.declared.elements.Element.TheVariants.{Table, Tr}
use Rattle.pur_names.specs.Elements.{same_element}

-- the greatest level that an element may have
abbrev pub level_limit : ℕ
level_limit = 128

-- where nodes stand: the level of what they stand in, and whether that is a `table`
pub record Place : Type 0 where
  pub level : ℕ
  pub in_table : Bool

-- the place of a fragment's own nodes
abbrev pub fragment : Place
fragment = record { level = 0; in_table = false }

-- by how much the level of an element passes that of what it stands in
abbrev pub rise : Bool → Element → ℕ
rise in_table e = if same_element e Tr && in_table then 2 else 1

-- the place of an element's children
abbrev pub inside : Place → Element → Place
inside at e = record { level = at.level + rise at.in_table e; in_table = same_element e Table }

-- the place inside open elements, given outermost first
abbrev pub inside_all : Place → List Element → Place
inside_all at [] = at
inside_all at (e ∷ es) = inside_all (inside at e) es

-- the level that an element gets inside open elements
abbrev pub level_within : List Element → Element → ℕ
level_within opened e = (inside (inside_all fragment opened) e).level

-- the level of an element that is put there fits
abbrev pub LevelFits : List Element → Element → Type 0
LevelFits opened e = level_within opened e ≤ level_limit
