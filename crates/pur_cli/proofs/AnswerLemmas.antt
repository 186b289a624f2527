-- Answers on what was read, and where nothing could be.
use Rattle.std.proofs.Common.{◌≡◌, ◌≢◌, ◌⊎◌, ◌∙◌, ℕ, ◌<◌, ◌≤◌, List, length, Option, Some, None, IfSome, true, false, ap, sym, subst, inl, inr, arith, rules, ⊎_elim}
use Rattle.std.specs.Prelude.{nat_lt, IsSome, IsSomeAnd}
use Rattle.std.proofs.lemmas.Bool.{cases_Bool, cond-true, cond-false}
use Rattle.std.proofs.lemmas.Option.{IfSome_then}
use Rattle.pur_io.specs.Texts.{Name, text_named}
use Rattle.pur_settings.specs.Rules.{Rules}
use Rattle.pur_commands.specs.Accepted.{settings_named}
use Rattle.pur_commands.specs.Choices.{ChoseFile, ChoseSettings}
use Rattle.pur_commands.specs.Commands.{Names, PlainCommand, filter, check, sheet, sample, names_of}
use Rattle.pur_commands.specs.Limits.{input_limit}
use Rattle.pur_commands.specs.declared.status.Status.{Status}
use Rattle.pur_commands.specs.declared.status.Status.TheVariants.{SettingsRefused, InputTooLong}
use Rattle.pur_cli.specs.Answers.{Answer, refused, filtered, checked, sheeted, answer_under, answer_for, answer_on, answer_to}
use Rattle.pur_cli.specs.Private.Answering.{Gives}

none_is_none : IsSome {T = Rules} None → ⊥
none_is_none some = search (rules, some)

-- an input past its limit is refused
for_long : (work : Rules → List ℕ → Answer) (settings : Option Rules) (input : List ℕ) → IsSome settings → input_limit < length input
    → answer_for work settings input ≡ refused InputTooLong
for_long work None input some long = absurd (none_is_none some)
for_long work (Some rules) input some long = let is : nat_lt input_limit (length input) ≡ true = grind (arith, long) in cond-true _ _ _ is

-- an answer that refuses settings
abbrev RefusesSettings : Answer → Type 0
RefusesSettings (refused SettingsRefused) = Unit {0}
RefusesSettings other = ⊥

-- accepted settings aren't refused
for_some : (work : Rules → List ℕ → Answer) (settings : Option Rules) (input : List ℕ)
    → ((rules : Rules) (bytes : List ℕ) → work rules bytes ≢ refused SettingsRefused)
    → IsSome settings → answer_for work settings input ≢ refused SettingsRefused
for_some work None input never some = absurd (none_is_none some)
for_some work (Some rules) input never some = ⊎_elim
    (λ (long : nat_lt input_limit (length input) ≡ true) same. subst RefusesSettings (sym same ∙ cond-true _ _ _ long) tt)
    (λ (fits : nat_lt input_limit (length input) ≡ false) same. never rules input (sym (cond-false _ _ _ fits) ∙ same))
    (cases_Bool (nat_lt input_limit (length input)))

filtered_is_none : (rules : Rules) (input : List ℕ) → filtered rules input ≢ refused SettingsRefused
filtered_is_none rules input same = subst RefusesSettings (sym same) tt

checked_is_none : (rules : Rules) (input : List ℕ) → checked rules input ≢ refused SettingsRefused
checked_is_none rules input same = subst RefusesSettings (sym same) tt

sheeted_is_none : (scope : List ℕ) (rules : Rules) (input : List ℕ) → sheeted rules scope input ≢ refused SettingsRefused
sheeted_is_none scope rules input same = subst RefusesSettings (sym same) tt

module _ (told : Option (List (Name × List ℕ))) where
  -- what a command answers whose settings are refused
  pub settings_refused : (command : PlainCommand)
      → IsSomeAnd (names_of command) (λ names. IfSome told (λ t. settings_named t names.settings ≡ None))
      → IfSome told (λ t. answer_to command t ≡ refused SettingsRefused)
  settings_refused (filter names) none = IfSome_then told none (λ t is. ap (λ s. answer_for filtered s (text_named t names.input)) is)
  settings_refused (check names) none = IfSome_then told none (λ t is. ap (λ s. answer_for checked s (text_named t names.input)) is)
  settings_refused (sheet scope names) none =
      IfSome_then told none (λ t is. ap (λ s. answer_for (λ rules input. sheeted rules scope input) s (text_named t names.input)) is)
  settings_refused (sample pieces) none = absurd none

  -- what a command answers whose input is too long
  pub input_refused : (command : PlainCommand)
      → IsSomeAnd (names_of command) (λ names. IfSome told (λ t. IsSome (settings_named t names.settings) × (input_limit < length (text_named t names.input))))
      → IfSome told (λ t. answer_to command t ≡ refused InputTooLong)
  input_refused (filter names) long = IfSome_then told long (λ t is. for_long filtered _ _ is.0 is.1)
  input_refused (check names) long = IfSome_then told long (λ t is. for_long checked _ _ is.0 is.1)
  input_refused (sheet scope names) long = IfSome_then told long (λ t is. for_long (λ rules input. sheeted rules scope input) _ _ is.0 is.1)
  input_refused (sample pieces) long = absurd long

  -- where the input couldn't be read, the settings weren't refused
  pub settings_stand : (command : PlainCommand) (chosen : Option Name)
      → IsSomeAnd (names_of command) (λ names. IfSome told (λ t. ChoseFile names.settings chosen ⊎ IsSome (settings_named t names.settings)))
      → IfSome told (λ t. ChoseSettings (names_of command) chosen ⊎ (answer_to command t ≢ refused SettingsRefused))
  settings_stand (filter names) chosen said = IfSome_then told said (λ t. ⊎_elim inl (λ some. inr (for_some filtered _ _ filtered_is_none some)))
  settings_stand (check names) chosen said = IfSome_then told said (λ t. ⊎_elim inl (λ some. inr (for_some checked _ _ checked_is_none some)))
  settings_stand (sheet scope names) chosen said = IfSome_then told said (λ t. ⊎_elim inl (λ some.
      inr (for_some (λ rules input. sheeted rules scope input) _ _ (sheeted_is_none scope) some)))
  settings_stand (sample pieces) chosen said = absurd said

-- an input within its limit is worked on, under settings that were accepted
pub worked_on : (work : Rules → List ℕ → Answer) (told : Option (List (Name × List ℕ))) (names : Names) (rules : Rules) (input : List ℕ) (status : Status)
    (text : List ℕ)
    → IfSome told (λ t. settings_named t names.settings ≡ Some rules) → IfSome told (λ t. input ≡ text_named t names.input)
    → length input ≤ input_limit → Gives (work rules input) status text → IfSome told (λ t. Gives (answer_on work names t) status text)
worked_on work None names rules input status text accepted is fits gives = tt
worked_on work (Some t) names rules input status text accepted is fits gives =
    let short : nat_lt input_limit (length input) ≡ false = grind (arith, fits) in
    let worked : answer_on work names t ≡ work rules input =
    ap (λ s. answer_for work s (text_named t names.input)) accepted ∙ ap (answer_under work rules) (sym is) ∙ cond-false _ _ _ short in
    subst (λ (a : Answer). Gives a status text) (sym worked) gives
