-- How a command ends, from its answer and from how its text was written; and what its end says of the program.
use Rattle.std.proofs.Common.{◌≡◌, ◌⊎◌, ◌∙◌, ℕ, List, Option, Some, None, IfSome, ap, refl, sym, subst, inl, inr, length, ◌<◌, arith}
use Rattle.std.proofs.lemmas.Option.{IfSome_then}
use Rattle.pur_io.specs.Faults.{Rose}
use Rattle.pur_io.specs.Texts.{Name}
use Rattle.pur_io.specs.declared.traits.Shelf as shelf
use Rattle.pur_io.specs.declared.traits.Sink as sink
use Rattle.pur_commands.specs.Commands.{PlainCommand, filter, check, sheet, sample, names_of, IfSample}
use Rattle.pur_commands.specs.Sources.{Stopped}
use Rattle.pur_commands.specs.Statuses.{code_of, IsEarly}
use Rattle.pur_commands.specs.declared.status.Status.{Status}
use Rattle.pur_commands.specs.declared.status.Status.TheVariants.{Done, OutOfMemory, BadCommandLine, SpellingFault, ValidityFault, SettingsRefused, InputTooLong, CannotRead, CannotWrite}
use Rattle.pur_cli.specs.Answers.{Answer, refused, IsStatus, text_of, HasStatus, TookFrontOf, answer_to, answer_if}
use Rattle.pur_cli.specs.Private.Ends.{Ends}
use Rattle.pur_cli.proofs.AnswerLemmas.{settings_refused, input_refused, settings_stand}

-- what holds of every value holds of the one that is there
of_each : {X : Type 0} {P : X → Type 0} (o : Option X) → ((x : X) → P x) → IfSome o P
of_each None all = tt
of_each (Some x) all = all x

-- what holds of every number holds of a sample's
pub of_each_sample : (found : Option PlainCommand) {P : ℕ → Type 0} → ((n : ℕ) → P n) → IfSample found P
of_each_sample None all = tt
of_each_sample (Some (filter names)) all = tt
of_each_sample (Some (check names)) all = tt
of_each_sample (Some (sheet scope names)) all = tt
of_each_sample (Some (sample pieces)) all = all pieces

module _ {H O : Type 0} (h : shelf.Ghosts H) (o : sink.Ghosts O) (command : PlainCommand) (before after : H) (out written : O) where
  abbrev Ending : Status → Type 0
  Ending = Ends h o command before after out written

  -- there is no answer
  pub stopped : (status : Status) → Stopped h (names_of command) (h.texts before) (h.faults before) after status
      → IfSample (Some command) (λ _. after ≡ before) → o.taken written ≡ o.taken out → Ending status
  stopped status s unasked same =
      let other : (r : Status) → status ≡ r → IsEarly r = λ r e. subst IsEarly e s.early in
      record {
        words = λ e. other _ e;
        done = λ e. absurd (other _ e);
        spelling_fault = λ e. absurd (other _ e);
        validity_fault = λ e. absurd (other _ e);
        settings_refused = λ e. settings_refused (h.texts before) command (s.settings_refused e);
        too_long = λ e. input_refused (h.texts before) command (s.too_long e);
        whole = λ e. absurd (other _ e);
        whole_spelling = λ e. absurd (other _ e);
        whole_validity = λ e. absurd (other _ e);
        nothing = λ d f v w. same;
        front = λ e. absurd (other _ e);
        promised = λ e. absurd (other _ e);
        sampled_is = λ e. absurd (other _ e);
        unwritten = λ e. absurd (other _ e);
        unread = s.unread;
        unread_late = s.unread_late;
        kept = s.kept;
        unread_named = s.unread_named;
        unread_refused = λ e. settings_stand (h.texts before) command (h.chosen after) (s.unread_refused e);
        place = s.place;
        place_refused = s.place_refused;
        texts = s.told;
        unasked = unasked;
      }

-- a refusal has one status
same_status : (answer : Answer) (s t : Status) → IsStatus answer s → answer ≡ refused t → s ≡ t
same_status answer s t is_s is_refused = subst (λ (a : Answer). IsStatus a s) is_refused is_s

-- what is refused has no text of which a front could be taken
no_front : (answer : Answer) (s : Status) (before after : Option (List ℕ)) → TookFrontOf answer before after → answer ≡ refused s → ⊥
no_front answer s before after took is_refused =
    let short : took.front.count < length (text_of (refused s) took.status)
    = subst (λ (a : Answer). took.front.count < length (text_of a took.status)) is_refused took.front.short in
    absurd (omega (arith, short))

module _ {H O : Type 0} (h : shelf.Ghosts H) (o : sink.Ghosts O) (command : PlainCommand) (before after : H) (out written : O) where
  -- without faults the status is the answer's, but for want of memory
  pub ended : (status : Status) → Ends h o command before after out written status
      → ¬ Rose (h.faults before) (h.faults after) → ¬ Rose (o.faults out) (o.faults written)
      → IfSome (h.texts before) (λ t. (code_of status ≡ code_of OutOfMemory) ⊎ HasStatus (answer_to command t) (code_of status))
  ended Done e a b = IfSome_then (h.texts before) (e.done refl) (λ t is. inr (record { status = Done; is_status = is; code_is = refl }))
  ended SpellingFault e a b = IfSome_then (h.texts before) (e.spelling_fault refl) (λ t is. inr (record { status = SpellingFault; is_status = is; code_is = refl }))
  ended ValidityFault e a b = IfSome_then (h.texts before) (e.validity_fault refl) (λ t is. inr (record { status = ValidityFault; is_status = is; code_is = refl }))
  ended SettingsRefused e a b = IfSome_then (h.texts before) (e.settings_refused refl) (λ t is.
      inr (record { status = SettingsRefused; is_status = subst (λ (x : Answer). IsStatus x SettingsRefused) (sym is) refl; code_is = refl }))
  ended InputTooLong e a b = IfSome_then (h.texts before) (e.too_long refl) (λ t is.
      inr (record { status = InputTooLong; is_status = subst (λ (x : Answer). IsStatus x InputTooLong) (sym is) refl; code_is = refl }))
  ended OutOfMemory e a b = of_each (h.texts before) (λ t. inl refl)
  ended BadCommandLine e a b = absurd (e.words refl)
  ended CannotRead e a b = absurd (a (e.unread refl))
  ended CannotWrite e a b = absurd (b (e.unwritten refl))

  -- and a refusal comes wherever it is the answer
  pub refuses : (status : Status) → Ends h o command before after out written status → ¬ Rose (h.faults before) (h.faults after)
      → IfSome (h.texts before) (λ t. (s : Status) → answer_to command t ≡ refused s → (code_of status ≡ code_of OutOfMemory) ⊎ (code_of status ≡ code_of s))
  refuses Done e a = IfSome_then (h.texts before) (e.done refl) (λ t is s r. inr (ap code_of (same_status (answer_to command t) Done s is r)))
  refuses SpellingFault e a = IfSome_then (h.texts before) (e.spelling_fault refl) (λ t is s r. inr (ap code_of (same_status (answer_to command t) SpellingFault s is r)))
  refuses ValidityFault e a = IfSome_then (h.texts before) (e.validity_fault refl) (λ t is s r. inr (ap code_of (same_status (answer_to command t) ValidityFault s is r)))
  refuses SettingsRefused e a = IfSome_then (h.texts before) (e.settings_refused refl) (λ t is s r.
      inr (ap code_of (same_status (refused SettingsRefused) SettingsRefused s refl (sym is ∙ r))))
  refuses InputTooLong e a = IfSome_then (h.texts before) (e.too_long refl) (λ t is s r.
      inr (ap code_of (same_status (refused InputTooLong) InputTooLong s refl (sym is ∙ r))))
  refuses OutOfMemory e a = of_each (h.texts before) (λ t s r. inl refl)
  refuses BadCommandLine e a = absurd (e.words refl)
  refuses CannotRead e a = absurd (a (e.unread refl))
  refuses CannotWrite e a = IfSome_then (h.texts before) (e.front refl) (λ t took s r. absurd (no_front (answer_to command t) s _ _ took r))

module _ {H O : Type 0} (h : shelf.Ghosts H) (o : sink.Ghosts O) (command : PlainCommand) (before after : H) (out written : O)
    (found : Option PlainCommand) (status : Status) (code : ℕ) where
  -- the same of the number that a run ends with
  pub answered_in_run : Some command ≡ found → code ≡ code_of status → Ends h o command before after out written status
      → ¬ Rose (h.faults before) (h.faults after) → ¬ Rose (o.faults out) (o.faults written)
      → IfSome (h.texts before) (λ t. (code ≡ code_of OutOfMemory) ⊎ HasStatus (answer_if found t) code)
  answered_in_run named is e a b =
      subst (λ (f : Option PlainCommand). IfSome (h.texts before) (λ t. (code ≡ code_of OutOfMemory) ⊎ HasStatus (answer_if f t) code)) named
      (subst (λ (n : ℕ). IfSome (h.texts before) (λ t. (n ≡ code_of OutOfMemory) ⊎ HasStatus (answer_to command t) n)) (sym is)
      (ended h o command before after out written status e a b))

  pub refused_in_run : Some command ≡ found → code ≡ code_of status → Ends h o command before after out written status
      → ¬ Rose (h.faults before) (h.faults after)
      → IfSome (h.texts before) (λ t. (s : Status) → answer_if found t ≡ refused s → (code ≡ code_of OutOfMemory) ⊎ (code ≡ code_of s))
  refused_in_run named is e a =
      subst (λ (f : Option PlainCommand). IfSome (h.texts before) (λ t. (s : Status) → answer_if f t ≡ refused s → (code ≡ code_of OutOfMemory) ⊎ (code ≡ code_of s))) named
      (subst (λ (n : ℕ). IfSome (h.texts before) (λ t. (s : Status) → answer_to command t ≡ refused s → (n ≡ code_of OutOfMemory) ⊎ (n ≡ code_of s))) (sym is)
      (refuses h o command before after out written status e a))

module _ (told : Option (List (Name × List ℕ))) (found : Option PlainCommand) (code : ℕ) where
  -- and where the words name no command, or memory is wanting
  pub answered_without_command : None ≡ found → code ≡ code_of BadCommandLine
      → IfSome told (λ t. (code ≡ code_of OutOfMemory) ⊎ HasStatus (answer_if found t) code)
  answered_without_command none is =
      subst (λ (f : Option PlainCommand). IfSome told (λ t. (code ≡ code_of OutOfMemory) ⊎ HasStatus (answer_if f t) code)) none
      (of_each told (λ t. inr (record { status = BadCommandLine; is_status = refl; code_is = is })))

  pub refused_without_command : None ≡ found → code ≡ code_of BadCommandLine
      → IfSome told (λ t. (s : Status) → answer_if found t ≡ refused s → (code ≡ code_of OutOfMemory) ⊎ (code ≡ code_of s))
  refused_without_command none is =
      subst (λ (f : Option PlainCommand). IfSome told (λ t. (s : Status) → answer_if f t ≡ refused s → (code ≡ code_of OutOfMemory) ⊎ (code ≡ code_of s))) none
      (of_each told (λ t s r. inr (is ∙ ap code_of (same_status (refused BadCommandLine) BadCommandLine s refl r))))

  pub answered_without_memory : code ≡ code_of OutOfMemory → IfSome told (λ t. (code ≡ code_of OutOfMemory) ⊎ HasStatus (answer_if found t) code)
  answered_without_memory is = of_each told (λ t. inl is)

  pub refused_without_memory : code ≡ code_of OutOfMemory
      → IfSome told (λ t. (s : Status) → answer_if found t ≡ refused s → (code ≡ code_of OutOfMemory) ⊎ (code ≡ code_of s))
  refused_without_memory is = of_each told (λ t s r. inl is)
