-- The offences of a document's members, and the first of them.
use Rattle.std.specs.Prelude.{◌≢◌, ℕ, Bool, List, [], Option, not}
use Rattle.std.specs.Cmp.Lexicographic.{slice_cmp}
use Rattle.std.specs.List.{All, Contains, cons_option, find, list_all}
use Rattle.std.specs.Option.{ok_or, option_map}
use Rattle.std.specs.Ordering.{nat_cmp, is_lt}
use Rattle.std.specs.Result.{result_err}
use Rattle.std.specs.Str.{bytes_eq}
use Rattle.std.specs.declared.cmp.Ordering.TheVariants.{Less}
use Rattle.toml.specs.Data.{Data, Members, no_members, member}
use Rattle.pur_settings.specs.Reading.{Reading, and_then}
use Rattle.pur_settings.specs.Rules.{Rules}
use Rattle.pur_settings.specs.Table.{Row}
use Rattle.pur_settings.specs.declared.faults.SettingsFault.{SettingsFault}
use Rattle.pur_settings.specs.declared.faults.SettingsFault.TheVariants.{UnknownKey}

-- the row of a key in a table
abbrev pub row_of : List Row → List ℕ → Option Row
row_of table key = find (λ row. bytes_eq key row.key) table

-- what a member says of the settings: what the row of its key says; a key without a row isn't known
abbrev pub meaning_of : List Row → List ℕ → Data → Reading (Rules → Rules)
meaning_of table key value = and_then (ok_or (row_of table key) UnknownKey) (λ row. row.says value)

-- the offence of a member, if it has one
abbrev pub offence_of : List Row → List ℕ → Data → Option SettingsFault
offence_of table key value = result_err (meaning_of table key value)

-- an offence, with its key in front
abbrev pub Offence : Type 0
Offence = List ℕ × SettingsFault

-- the offences that members have
abbrev pub offences : List Row → Members → List Offence
offences table no_members = []
offences table (member key value more) =
    cons_option (option_map (λ fault. (key, fault)) (offence_of table key value)) (offences table more)

-- whether none of some offences has a lesser key, in the order of bytes
abbrev pub is_first : List Offence → Offence → Bool
is_first all offence = list_all (λ other. not (is_lt (slice_cmp nat_cmp other.0 offence.0))) all

-- the first of some offences
abbrev pub first_of : List Offence → Option Offence
first_of all = find (is_first all) all

-- a fault is that of the first of some offences: none of them has a lesser key
abbrev pub IsFirst : List Offence → SettingsFault → Type 0
IsFirst all fault = (key : List ℕ) × Contains all (key, fault) × All (λ other. slice_cmp nat_cmp other.0 key ≢ Less) all
