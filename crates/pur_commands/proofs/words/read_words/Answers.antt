use Rattle.std.proofs.Common.{◌≡◌, ◌∙◌, ◌≢◌, ◌∷◌, ℕ, List, [], ap, ap₂, sym, subst, true, map, string_bytes, codes, rules, ⊎_elim}
use Rattle.std.proofs.lemmas.Result.{IfOk-weaker}
use Rattle.clap.specs.Words.{app_of, fault_of, matches_of, first_of, first_value, found_of, rows_of, kind_of, is_simple, is_simple_and_free, IsAmong}
use Rattle.clap.specs.declared.error.kind.ErrorKind.TheVariants.{OutOfMemory}
use Rattle.clap.proofs.WalkLemmas.{first_value-rows}
use Rattle.std.specs.Str.{chars}
use Rattle.pur_sheet.specs.Selectors.{is_scope}
use Rattle.pur_commands.specs.Commands.{IfSheet}
use Rattle.pur_commands.specs.Words.{purify_app}
use Rattle.pur_commands.proofs.WordLemmas.{is_plain, is_plain_and_free, command_read, no_command, scopes_are_scopes}
use Rattle.pur_commands.proofs.words.read_words.Goals as goal

pub returns-in-Ok-clause-command : goal.returns-in-Ok-clause-command
returns-in-Ok-clause-command c =
    let all = codes "purify" ∷ map string_bytes c.args.words.now in
    let program_is : app_of c.in_ok-program.program ≡ purify_app = c.in_ok-program.ensures in
    let all_is : map (λ word. word.now) c.as_slice.result.now ≡ all = rw c.as_slice.ensures.value c.in_ok-all.ensures in
    let no_fault : fault_of purify_app all ≡ [] =
    sym (ap₂ fault_of program_is all_is) ∙ c.in-Ok.ensures.kinds (ap is_simple_and_free program_is ∙ is_plain_and_free) in
    let rows_are : rows_of (found_of c.in-Ok.matches) ≡ matches_of purify_app all =
    (c.in-Ok.ensures.matches (ap is_simple program_is ∙ is_plain)).0 ∙ ap₂ matches_of program_is all_is in
    let read : (id : List ℕ) → first_value (found_of c.in-Ok.matches) id ≡ first_of id (matches_of purify_app all) =
    λ id. first_value-rows (found_of c.in-Ok.matches) id ∙ ap (first_of id) rows_are in
    let found = command_read (map string_bytes c.args.words.now) (first_value (found_of c.in-Ok.matches)) no_fault read in
    IfOk-weaker c.command_in.result _ _ (λ command is. is ∙ found) c.command_in.ensures

pub returns-in-Ok-clause-scope : goal.returns-in-Ok-clause-scope
returns-in-Ok-clause-scope c =
    IfOk-weaker c.command_in.result _ _
    (λ command is. subst (λ found. IfSheet found (λ scope _. is_scope (chars scope) ≡ true)) (sym is) (scopes_are_scopes (map string_bytes c.args.words.now)))
    (returns-in-Ok-clause-command c)

pub returns-clause-command : goal.returns-clause-command
returns-clause-command c =
    let all = codes "purify" ∷ map string_bytes c.args.words.now in
    let program_is : app_of c.in_ok-program.program ≡ purify_app = c.in_ok-program.ensures in
    let all_is : map (λ word. word.now) c.as_slice.result.now ≡ all = rw c.as_slice.ensures.value c.in_ok-all.ensures in
    let not_memory : kind_of c.in-Err-2.field-0 ≢ OutOfMemory = search (rules, c.if-eq.false, c.eq.ensures, c.kind.ensures) in
    let among : IsAmong (kind_of c.in-Err-2.field-0) (fault_of purify_app all) =
    rw (ap₂ fault_of program_is all_is) at (⊎_elim (λ memory. absurd (not_memory memory)) (λ found. found)
    (c.in-Err-2.ensures.kinds (ap is_simple_and_free program_is ∙ is_plain_and_free))) in
    no_command _ (map string_bytes c.args.words.now) among
