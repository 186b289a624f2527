-- The settings that a TOML document gives, each found by its key, or its first offence, or the conflict that they are in.
use Rattle.std.specs.Prelude.{◌≡◌, ◌⊎◌, IsTrue, ℕ, pos, false, List, [], Option, Some, None, Ok, Err, if◌then◌else◌, codes}
use Rattle.std.specs.List.{fold}
use Rattle.std.specs.Option.{ok_or, option_and_then, option_map_or}
use Rattle.std.specs.Ordering.{int_eq}
use Rattle.std.specs.Result.{result_ok, result_unwrap_or}
use Rattle.std.specs.Str.{is_utf8}
use Rattle.toml.specs.Data.{Data, Members, as_integer, get_member}
use Rattle.toml.specs.Parse.{parse_document}
use Rattle.pur_modules.specs.declared.kinds.Doctype.{Doctype}
use Rattle.pur_settings.specs.Offences.{Offence, offences, first_of, IsFirst}
use Rattle.pur_settings.specs.Reading.{Reading, and_then, text_in}
use Rattle.pur_settings.specs.Rules.{Rules, default_rules, is_in_conflict}
use Rattle.pur_settings.specs.Table.{Row, doctype_named, table_for}
use Rattle.pur_settings.specs.declared.editions.Edition.{Edition}
use Rattle.pur_settings.specs.declared.editions.Version.{Version}
use Rattle.pur_settings.specs.declared.editions.Version.TheVariants.{One, Two}
use Rattle.pur_settings.specs.declared.faults.SettingsFault.{SettingsFault}
use Rattle.pur_settings.specs.declared.faults.SettingsFault.TheVariants.{Conflict, NotToml}

-- what a document says by a row: nothing where it lacks the key, or its value has an offence
abbrev pub said_by : Row → Members → Option (Rules → Rules)
said_by row whole = option_and_then (λ value. result_ok (row.says value)) (get_member row.key whole)

-- settings, changed as a document says by a row
abbrev pub with_row : Members → Rules → Row → Rules
with_row whole rules row = option_map_or (λ change. change rules) (said_by row whole) rules

-- the settings that a document gives by the rows of a table: the defaults, changed as it says by each
abbrev pub rules_in : List Row → Members → Rules
rules_in table whole = fold (with_row whole) default_rules table

-- the doctype that a value names, if it is there and names one; else the default
abbrev pub doctype_by : Option Data → Doctype
doctype_by found = option_map_or (λ value. result_unwrap_or (text_in doctype_named value) default_rules.doctype) found default_rules.doctype

-- the doctype that a document gives
abbrev pub doctype_in : Members → Doctype
doctype_in whole = doctype_by (get_member (codes "doctype") whole)

-- the version of the table that a value tells: 2 where it is that whole number, and else 1
abbrev pub version_by : Option Data → Version
version_by found = if option_map_or (int_eq (pos 2)) (option_and_then as_integer found) false then Two else One

-- the version of the table that a document is written for
abbrev pub version_in : Members → Version
version_in whole = version_by (get_member (codes "version") whole)

-- what of a document chooses the keys and the names that it may have
abbrev pub edition_in : Members → Edition
edition_in whole = record { version = version_in whole; doctype = doctype_in whole }

-- the keys that a document may have
abbrev pub table_in : Members → List Row
table_in whole = table_for (edition_in whole)

-- the settings, unless they are in conflict
abbrev pub unless_conflict : Rules → Reading Rules
unless_conflict rules = if is_in_conflict rules then Err Conflict else Ok rules

-- the settings, unless there is an offence or, after all keys, a conflict
abbrev pub unless_offence : Option Offence → Rules → Reading Rules
unless_offence None rules = unless_conflict rules
unless_offence (Some offence) rules = Err offence.1

-- the settings that a document gives, or its first offence, or the conflict
abbrev pub settings_in : Members → Reading Rules
settings_in whole = unless_offence (first_of (offences (table_in whole) whole)) (rules_in (table_in whole) whole)

-- the document that bytes are; bytes that aren't UTF-8 are none
abbrev pub document : List ℕ → Option Members
document text = if is_utf8 text then parse_document text else None

-- the settings that a text gives, or its first offence, or the conflict
unfoldable pub settings_of : List ℕ → Reading Rules
settings_of text = and_then (ok_or (document text) NotToml) settings_in

-- no member of a document has an offence, but the settings that it gives are in conflict, and the fault says so
abbrev pub IsConflict : Members → SettingsFault → Type 0
IsConflict whole fault =
    (fault ≡ Conflict) × (offences (table_in whole) whole ≡ []) × IsTrue (is_in_conflict (rules_in (table_in whole) whole))

-- the text is a document and the fault that of its first offence: a member has it, and no member whose key is less has
-- one; or it is the conflict
abbrev pub IsRefusedFor : List ℕ → SettingsFault → Type 0
IsRefusedFor text fault =
    (whole : Members) × (document text ≡ Some whole) × (IsFirst (offences (table_in whole) whole) fault ⊎ IsConflict whole fault)
