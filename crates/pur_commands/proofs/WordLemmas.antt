-- The command line as `clap` is told it, and the commands of words.
use Rattle.std.proofs.Common.{◌≡◌, ℕ, ◌+◌, ◌*◌, ◌<◌, min, Bool, true, false, List, [], ◌∷◌, length, take, get_or, Option, Some, None, codes, refl, ap, sym, ◌∙◌, subst, ⊎_elim, arith}
use Rattle.std.specs.Prelude.{◌||◌, not, if◌then◌else◌, is_some, option_map}
use Rattle.std.specs.Str.{chars}
use Rattle.std.proofs.lemmas.Bool.{cases_Bool}
use Rattle.pur_sheet.specs.Selectors.{is_scope}
use Rattle.std.specs.Char.{digit_value}
use Rattle.std.specs.Str.Parse.{digits_value}
use Rattle.std.proofs.lemmas.Int.Digits.{digits_value_more}
use Rattle.clap.specs.Words.{Kinds, IsAmong, Row, fault_of, first_of, matches_of, is_simple, is_simple_and_free}
use Rattle.clap.specs.declared.error.kind.ErrorKind.{ErrorKind}
use Rattle.clap.proofs.OnLiterals.{clap_on_literals}
use Rattle.pur_commands.specs.Commands.{IfSheet, Names, PlainCommand, sample, sheet}
use Rattle.pur_commands.specs.Limits.{sample_limit}
use Rattle.pur_commands.specs.Words.{purify_app, command_in, command_of, command_with, is_set, name_a_text, sheet_with, size_of, unless_faulty}

-- the command line has nothing but plain arguments
pub is_plain : is_simple purify_app ≡ true
unfolding clap_on_literals
is_plain = refl

pub is_plain_and_free : is_simple_and_free purify_app ≡ true
unfolding clap_on_literals
is_plain_and_free = refl

-- where there is a fault, there is nothing
none_where_faulty : {X : Type 0} (kind : ErrorKind) (kinds : Kinds) (found : Option X) → IsAmong kind kinds → None ≡ unless_faulty kinds found
none_where_faulty kind [] found among = absurd among
none_where_faulty kind (first ∷ kinds) found among = refl

pub no_command : (kind : ErrorKind) (words : List (List ℕ)) → IsAmong kind (fault_of purify_app (codes "purify" ∷ words)) → None ≡ command_of words
unfolding command_of
no_command kind words among =
    none_where_faulty kind (fault_of purify_app (codes "purify" ∷ words)) (command_in (matches_of purify_app (codes "purify" ∷ words))) among

-- the command of matches, by how their values are read
command_as_read : (value : List ℕ → Option (List ℕ)) (rows : List Row) → ((id : List ℕ) → value id ≡ first_of id rows)
    → command_with (is_set (value (codes "check"))) (value (codes "sheet")) (value (codes "sample"))
    (record { settings = value (codes "settings"); input = value (codes "input") })
    ≡ command_in rows
command_as_read value rows read =
    let fields : (s t i j : Option (List ℕ)) → s ≡ t → i ≡ j → ◌≡◌ {A = Names} (record { settings = s; input = i }) (record { settings = t; input = j })
    = λ s t i j p q k. record { settings = p k; input = q k } in
    λ k. command_with (is_set (read (codes "check") k)) (read (codes "sheet") k) (read (codes "sample") k)
    (fields _ _ _ _ (read (codes "settings")) (read (codes "input")) k)

-- where there is no fault, that is the command
command_unless : (kinds : Kinds) (rows : List Row) (value : List ℕ → Option (List ℕ)) → kinds ≡ [] → ((id : List ℕ) → value id ≡ first_of id rows)
    → command_with (is_set (value (codes "check"))) (value (codes "sheet")) (value (codes "sample"))
    (record { settings = value (codes "settings"); input = value (codes "input") })
    ≡ unless_faulty kinds (command_in rows)
command_unless kinds rows value none read =
    command_as_read value rows read ∙ sym (ap (λ (kinds : Kinds). unless_faulty kinds (command_in rows)) none)

pub command_read : (words : List (List ℕ)) (value : List ℕ → Option (List ℕ)) → fault_of purify_app (codes "purify" ∷ words) ≡ []
    → ((id : List ℕ) → value id ≡ first_of id (matches_of purify_app (codes "purify" ∷ words)))
    → command_with (is_set (value (codes "check"))) (value (codes "sheet")) (value (codes "sample"))
    (record { settings = value (codes "settings"); input = value (codes "input") })
    ≡ command_of words
unfolding command_of
command_read words value none read =
    command_unless (fault_of purify_app (codes "purify" ∷ words)) (matches_of purify_app (codes "purify" ∷ words)) value none read

-- the scope that words name is one
scope_with : (checks : Bool) (scope : List ℕ) (names : Names) → IfSheet (sheet_with checks scope names) (λ s _. is_scope (chars s) ≡ true)
scope_with true scope names = tt
scope_with false scope names = ⊎_elim
    (λ (is : is_scope (chars scope) ≡ true). subst (λ b. IfSheet (if not b then None else Some (sheet scope names)) (λ s _. is_scope (chars s) ≡ true)) (sym is) is)
    (λ (none : is_scope (chars scope) ≡ false). subst (λ b. IfSheet (if not b then None else Some (sheet scope names)) (λ s _. is_scope (chars s) ≡ true)) (sym none) tt)
    (cases_Bool (is_scope (chars scope)))

sample_with : (refuses : Bool) (size : Option ℕ) → IfSheet (if refuses then None else option_map sample size) (λ s _. is_scope (chars s) ≡ true)
sample_with true size = tt
sample_with false None = tt
sample_with false (Some size) = tt

command_scope : (checks : Bool) (scope size : Option (List ℕ)) (names : Names) → IfSheet (command_with checks scope size names) (λ s _. is_scope (chars s) ≡ true)
command_scope true None None names = tt
command_scope false None None names = tt
command_scope checks (Some scope) None names = scope_with checks scope names
command_scope checks None (Some size) names = sample_with (checks || is_some {T = List ℕ} None || name_a_text names) (size_of size)
command_scope checks (Some scope) (Some size) names = sample_with (checks || is_some (Some scope) || name_a_text names) (size_of size)

in_scope : (rows : List Row) → IfSheet (command_in rows) (λ s _. is_scope (chars s) ≡ true)
in_scope rows = command_scope (is_set (first_of (codes "check") rows)) (first_of (codes "sheet") rows) (first_of (codes "sample") rows)
    (record { settings = first_of (codes "settings") rows; input = first_of (codes "input") rows })

unless_scope : (kinds : Kinds) (found : Option PlainCommand) → IfSheet found (λ s _. is_scope (chars s) ≡ true)
    → IfSheet (unless_faulty kinds found) (λ s _. is_scope (chars s) ≡ true)
unless_scope [] found is = is
unless_scope (kind ∷ kinds) found is = tt

pub scopes_are_scopes : (words : List (List ℕ)) → IfSheet (command_of words) (λ s _. is_scope (chars s) ≡ true)
unfolding command_of
scopes_are_scopes words =
    unless_scope (fault_of purify_app (codes "purify" ∷ words)) (command_in (matches_of purify_app (codes "purify" ∷ words)))
    (in_scope (matches_of purify_app (codes "purify" ∷ words)))

-- one digit more
pub value_step : (digits : List ℕ) (i value next : ℕ) → i < length digits → value ≡ min (digits_value 10 (take i digits)) (sample_limit + 1)
    → next ≡ min (value * 10 + digit_value (get_or digits i 0)) (sample_limit + 1) → next ≡ min (digits_value 10 (take (i + 1) digits)) (sample_limit + 1)
value_step digits i value next inside so_far step = let more = digits_value_more 10 digits i inside in omega arith
