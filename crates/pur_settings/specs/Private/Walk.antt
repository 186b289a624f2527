-- The walk over a document's members that fills the record of the settings.
use Rattle.std.specs.Prelude.{◌≡◌, ℕ, List, Ok}
use Rattle.std.specs.Cmp.Lexicographic.{slice_cmp}
use Rattle.std.specs.Ordering.{nat_cmp}
use Rattle.std.specs.declared.cmp.Ordering.TheVariants.{Less}
use Rattle.toml.specs.Data.{Data, Members, no_members, member}
use Rattle.pur_settings.specs.Offences.{meaning_of}
use Rattle.pur_settings.specs.Reading.{Reading, and_then, reading_map}
use Rattle.pur_settings.specs.Rules.{Rules, default_rules}
use Rattle.pur_settings.specs.Settings.{unless_conflict}
use Rattle.pur_settings.specs.Table.{Row}

-- a key is less than those of the members
abbrev pub IsBelow : List ℕ → Members → Type 0
IsBelow key no_members = Unit {0}
IsBelow key (member name value more) = (slice_cmp nat_cmp key name ≡ Less) × IsBelow key more

-- the keys of the members ascend
abbrev pub Ascends : Members → Type 0
Ascends no_members = Unit {0}
Ascends (member name value more) = IsBelow name more × Ascends more

-- settings, changed as a member says
abbrev pub with_member : List Row → Rules → List ℕ → Data → Reading Rules
with_member table rules key value = reading_map (λ change. change rules) (meaning_of table key value)

-- settings, changed as the members say, one after another, up to the first offence
abbrev pub with_members : List Row → Members → Rules → Reading Rules
with_members table no_members rules = Ok rules
with_members table (member key value more) rules = and_then (with_member table rules key value) (with_members table more)

-- the settings that the members of a document say, one after another, from the defaults, unless they are in conflict
abbrev pub with_all : List Row → Members → Reading Rules
with_all table whole = and_then (with_members table whole default_rules) unless_conflict
