-- What a value of a settings text reads as: each kind of value with its members (TOML 1.1).
use Rattle.std.specs.Prelude.{ℕ, ℤ, Bool, List, [], ◌∷◌, Option, Result, Ok, Err, if◌then◌else◌}
use Rattle.std.specs.Option.{ok_or}
use Rattle.toml.specs.Data.{Data, Items, no_items, item, as_str, as_bool, as_integer, as_array}
use Rattle.pur_settings.specs.declared.faults.SettingsFault.{SettingsFault}
use Rattle.pur_settings.specs.declared.faults.SettingsFault.TheVariants.{WrongKind, UnknownName}

-- what is read, or the offence in its place
abbrev pub Reading : Type 0 → Type 0
Reading A = Result A SettingsFault

-- an offence stays; what was read is read on
abbrev pub and_then : {A B : Type 0} → Reading A → (A → Reading B) → Reading B
and_then (Ok value) next = next value
and_then (Err fault) next = Err fault

-- an offence stays; what was read is changed
abbrev pub reading_map : {A B : Type 0} → (A → B) → Reading A → Reading B
reading_map change (Ok value) = Ok (change value)
reading_map change (Err fault) = Err fault

-- a truth value
abbrev pub truth_in : Data → Reading Bool
truth_in value = ok_or (as_bool value) WrongKind

-- a text out of a set: what it names there
abbrev pub text_in : {A : Type 0} → (List ℕ → Option A) → Data → Reading A
text_in named value = and_then (ok_or (as_str value) WrongKind) (λ text. ok_or (named text) UnknownName)

-- items that are texts out of a set: what they name there; the first offending item decides
abbrev pub items_in : {A : Type 0} → (List ℕ → Option A) → Items → Reading (List A)
items_in named no_items = Ok []
items_in named (item first more) =
    and_then (text_in named first) (λ value. reading_map (λ values. value ∷ values) (items_in named more))

-- a list of texts out of a set
abbrev pub list_in : {A : Type 0} → (List ℕ → Option A) → Data → Reading (List A)
list_in named value = and_then (ok_or (as_array value) WrongKind) (items_in named)

-- a whole number that passes a test
abbrev pub number_in : (ℤ → Bool) → Data → Reading ℤ
number_in is_member value =
    and_then (ok_or (as_integer value) WrongKind) (λ number. if is_member number then Ok number else Err UnknownName)
