-- The walk over members whose keys ascend ends as look-up says.
use Rattle.std.proofs.Common.{◌≡◌, ℕ, Bool, true, false, List, [], ◌∷◌, Option, Some, None, Ok, Err, Ordering, Less, Equal, Greater, String, Global, string_bytes, nat_cmp, not, ◌&&◌, refl, ap, sym, ◌∙◌, subst}
use Rattle.std.specs.Prelude.{cond}
use Rattle.std.specs.Cmp.Lexicographic.{slice_cmp}
use Rattle.std.specs.List.{AllByRecursion, cons_option, fold, list_all}
use Rattle.std.specs.List.Sorted.{IsStrictlySortedBy}
use Rattle.std.specs.Map.{keys_of}
use Rattle.std.specs.Option.{option_map, option_map_or, option_and_then}
use Rattle.std.specs.Ordering.{is_lt}
use Rattle.std.specs.Result.{result_err, result_ok}
use Rattle.std.specs.Str.{bytes_eq}
use Rattle.std.specs.String.{string_cmp}
use Rattle.std.proofs.lemmas.Bool.{and_parts, false≢true}
use Rattle.std.proofs.lemmas.Cmp.{nat_list_cmp_total, tied_itself}
use Rattle.std.proofs.lemmas.Option.{none-some, same_Some}
use Rattle.std.proofs.lemmas.Slice.Eq.{bytes_eq-Decides}
use Rattle.toml.specs.Data.{Data, Members, no_members, member, get_member}
use Rattle.toml.specs.View.{members_view}
use Rattle.toml.specs.declared.value.Value.{Value}
use Rattle.pur_settings.specs.Offences.{row_of, meaning_of, offence_of, Offence, offences, first_of}
use Rattle.pur_settings.specs.Private.Walk.{IsBelow, Ascends, with_members, with_all}
use Rattle.pur_settings.specs.Reading.{Reading, and_then, reading_map}
use Rattle.pur_settings.specs.Rules.{Rules, default_rules}
use Rattle.pur_settings.specs.Settings.{with_row, table_in, unless_conflict, unless_offence, settings_in}
use Rattle.pur_settings.specs.Table.{Row}
use Rattle.pur_settings.specs.declared.faults.SettingsFault.{SettingsFault}

is_below-entries : (k : String Global) (es : List (String Global × Value)) → AllByRecursion (λ y. string_cmp k y ≡ Less) (keys_of es) → IsBelow (string_bytes k) (members_view es)
is_below-entries k [] h = tt
is_below-entries k (e ∷ es) h = (h.0, is_below-entries k es h.1)

-- the keys of a map's entries ascend
pub ascends-entries : (es : List (String Global × Value)) → IsStrictlySortedBy string_cmp (keys_of es) → Ascends (members_view es)
unfolding IsStrictlySortedBy
ascends-entries [] h = tt
ascends-entries (e ∷ es) h = (is_below-entries e.0 es h.0, ascends-entries es h.1)

less : (o : Ordering) → is_lt o ≡ true → o ≡ Less
less Less h = refl
less Equal h = absurd (false≢true h)
less Greater h = absurd (false≢true h)

-- whether a key is less than those of some rows, and whether the keys of rows ascend
abbrev is_below_rows : List ℕ → List Row → Bool
is_below_rows key rows = list_all (λ other. is_lt (slice_cmp nat_cmp key other.key)) rows

abbrev do_ascend : List Row → Bool
do_ascend [] = true
do_ascend (row ∷ rows) = is_below_rows row.key rows && do_ascend rows

-- a key is looked up in vain where all are greater
absent : (key : List ℕ) (more : Members) → IsBelow key more → get_member key more ≡ None
absent key no_members h = refl
absent key (member name value more) h = rw h.0 (absent key more h.1)

is_below-less : (key name : List ℕ) (more : Members) → slice_cmp nat_cmp key name ≡ Less → IsBelow name more → IsBelow key more
is_below-less key name no_members less h = tt
is_below-less key name (member other value more) less h = (nat_list_cmp_total.trans key name other less h.0, is_below-less key name more less h.1)

-- rows whose key a document lacks change nothing
unsaid : (row : Row) (more : Members) (rules : Rules) → IsBelow row.key more → with_row more rules row ≡ rules
unsaid row more rules below =
    ap (λ found. option_map_or (λ change. change rules) (option_and_then (λ value. result_ok (row.says value)) found) rules) (absent row.key more below)

-- a row that is found among rows with greater keys has a greater key
found_above : (key name : List ℕ) (rows : List Row) (row : Row) → is_below_rows key rows ≡ true → row_of rows name ≡ Some row → slice_cmp nat_cmp key name ≡ Less
found_above key name [] row above found = absurd (none-some row found)
found_above key name (other ∷ rows) row above found = go (bytes_eq name other.key) refl (found_above key name rows row (and_parts _ _ above).1) found where
  go : (b : Bool) → bytes_eq name other.key ≡ b → (row_of rows name ≡ Some row → slice_cmp nat_cmp key name ≡ Less) → cond b (Some other) (row_of rows name) ≡ Some row
      → slice_cmp nat_cmp key name ≡ Less
  go true same behind found = subst (λ k. slice_cmp nat_cmp key k ≡ Less) (sym ((bytes_eq-Decides name other.key).0 same)) (less _ (and_parts _ _ above).0)
  go false same behind found = behind found

-- by rows with greater keys a member is passed over
passed : (key : List ℕ) (value : Data) (more : Members) (rules : Rules) (rows : List Row) → is_below_rows key rows ≡ true
    → fold (with_row more) rules rows ≡ fold (with_row (member key value more)) rules rows
passed key value more rules [] above = refl
passed key value more rules (row ∷ rows) above =
    let same : with_row (member key value more) rules row ≡ with_row more rules row
    = rw (nat_list_cmp_total.antisymm row.key key, less (slice_cmp nat_cmp key row.key) (and_parts _ _ above).0) refl in
    rw same (passed key value more (with_row more rules row) rows (and_parts _ _ above).1)

-- rows change settings as a first member says by its row, wherever that stands among them, and as the members behind it say
said : (key : List ℕ) (value : Data) (more : Members) (change : Rules → Rules) (rules : Rules) (rows : List Row) (row : Row) → IsBelow key more → do_ascend rows ≡ true
    → row_of rows key ≡ Some row → row.says value ≡ Ok change → fold (with_row more) (change rules) rows ≡ fold (with_row (member key value more)) rules rows
said key value more change rules [] row below ascend found says = absurd (none-some row found)
said key value more change rules (other ∷ rows) row below ascend found says =
    go (bytes_eq key other.key) refl (λ found. said key value more change rules rows row below (and_parts _ _ ascend).1 found says) found where
      Said : List Row → Type 0
      Said rows = fold (with_row more) (change rules) rows ≡ fold (with_row (member key value more)) rules rows

      go : (b : Bool) → bytes_eq key other.key ≡ b → (row_of rows key ≡ Some row → Said rows) → cond b (Some other) (row_of rows key) ≡ Some row → Said (other ∷ rows)
      go true same behind found =
          let named : other.key ≡ key = sym ((bytes_eq-Decides key other.key).0 same) in
          let its : other.says value ≡ Ok change = ap (λ (r : Row). r.says value) (same_Some other row found) ∙ says in
          let here : with_row (member key value more) rules other ≡ change rules
          = rw (named, tied_itself nat_list_cmp_total key, its) refl in
          let gone : with_row more (change rules) other ≡ change rules
          = unsaid other more (change rules) (subst (λ k. IsBelow k more) (sym named) below) in
          rw (here, gone) (passed key value more (change rules) rows (subst (λ k. is_below_rows k rows ≡ true) named (and_parts _ _ ascend).0))
      go false same behind found =
          let lesser : slice_cmp nat_cmp other.key key ≡ Less = found_above other.key key rows row (and_parts _ _ ascend).0 found in
          let beyond : IsBelow other.key more = is_below-less other.key key more lesser below in
          rw (unsaid other more (change rules) beyond, unsaid other (member key value more) rules (lesser, beyond)) (behind found)

-- what the first of some offences makes of settings
abbrev unless_any : List Offence → Rules → Reading Rules
unless_any [] rules = Ok rules
unless_any (offence ∷ more) rules = Err offence.1

-- the walk over some members ends with the offence of the first that has one, and else as look-up says
abbrev Ends : List Row → Members → Rules → Type 0
Ends table part rules = with_members table part rules ≡ unless_any (offences table part) (fold (with_row part) rules table)

-- the same of a first member with this meaning
abbrev EndsWith : List Row → List ℕ → Data → Members → Rules → Reading (Rules → Rules) → Type 0
EndsWith table key value more rules meaning =
    and_then (reading_map (λ change. change rules) meaning) (with_members table more)
    ≡ unless_any (cons_option (option_map (λ fault. (key, fault)) (result_err meaning)) (offences table more)) (fold (with_row (member key value more)) rules table)

here : (table : List Row) → do_ascend table ≡ true → (key : List ℕ) (value : Data) (more : Members) → IsBelow key more → (rules : Rules) → ((rules : Rules) → Ends table more rules)
    → Ends table (member key value more) rules
here table ascend key value more below rules later = go (row_of table key) refl where
  read : (row : Row) (meaning : Reading (Rules → Rules)) → row_of table key ≡ Some row → row.says value ≡ meaning → EndsWith table key value more rules meaning
  read row (Ok change) found says =
      later (change rules) ∙ ap (unless_any (offences table more)) (said key value more change rules table row below ascend found says)
  read row (Err fault) found says = refl

  go : (row : Option Row) → row_of table key ≡ row → EndsWith table key value more rules (meaning_of table key value)
  go None found = rw found refl
  go (Some row) found = rw found (read row (row.says value) found refl)

ends : (table : List Row) → do_ascend table ≡ true → (part : Members) → Ascends part → (rules : Rules) → Ends table part rules
ends table ascend no_members h rules = sym (ap Ok (nothing table)) where
  nothing : (rows : List Row) → fold (with_row no_members) rules rows ≡ rules
  nothing [] = refl
  nothing (row ∷ rows) = nothing rows
ends table ascend (member key value more) h rules = here table ascend key value more h.0 rules (ends table ascend more h.1)

-- the members behind a key have no offence before it
none_before : (table : List Row) (o : Offence) (more : Members) → IsBelow o.0 more → list_all (λ other. not (is_lt (slice_cmp nat_cmp other.0 o.0))) (offences table more) ≡ true
none_before table o no_members h = refl
none_before table o (member key value more) h = go (offence_of table key value) (none_before table o more h.1) where
  go : (fault : Option SettingsFault) → (let test = λ (other : Offence). not (is_lt (slice_cmp nat_cmp other.0 o.0)) in
      list_all test (offences table more) ≡ true → list_all test (cons_option (option_map (λ f. (key, f)) fault) (offences table more)) ≡ true)
  go None behind = behind
  go (Some f) behind = rw (nat_list_cmp_total.antisymm key o.0, h.0) behind

-- where keys ascend, the first offence is that of the first member that has one
foremost : (table : List Row) (part : Members) (rules : Rules) → Ascends part
    → and_then (unless_any (offences table part) rules) unless_conflict ≡ unless_offence (first_of (offences table part)) rules
foremost table no_members rules h = refl
foremost table (member key value more) rules h = go (offence_of table key value) (foremost table more rules h.1) where
  IsForemost : List Offence → Type 0
  IsForemost all = and_then (unless_any all rules) unless_conflict ≡ unless_offence (first_of all) rules

  go : (fault : Option SettingsFault) → IsForemost (offences table more) → IsForemost (cons_option (option_map (λ f. (key, f)) fault) (offences table more))
  go None behind = behind
  go (Some f) behind = rw (tied_itself nat_list_cmp_total key, none_before table (key, f) more h.0) refl

-- where keys ascend, there is a first offence if there is any
pub none_at_all : (table : List Row) (part : Members) → Ascends part → first_of (offences table part) ≡ None → offences table part ≡ []
none_at_all table no_members h e = refl
none_at_all table (member key value more) h e = go (offence_of table key value) (none_at_all table more h.1) e where
  go : (fault : Option SettingsFault) → (first_of (offences table more) ≡ None → offences table more ≡ [])
      → first_of (cons_option (option_map (λ f. (key, f)) fault) (offences table more)) ≡ None → cons_option (option_map (λ f. (key, f)) fault) (offences table more) ≡ []
  go None behind e = behind e
  go (Some f) behind e =
      let top : first_of ((key, f) ∷ offences table more) ≡ Some (key, f)
      = rw (tied_itself nat_list_cmp_total key, none_before table (key, f) more h.0) refl in
      absurd (none-some (key, f) (sym e ∙ top))

-- the walk over a whole document, from the defaults
pub walk_is_look_up : (whole : Members) → Ascends whole → with_all (table_in whole) whole ≡ settings_in whole
walk_is_look_up whole h = ap (λ read. and_then read unless_conflict) (ends (table_in whole) refl whole h default_rules) ∙ foremost (table_in whole) whole _ h
