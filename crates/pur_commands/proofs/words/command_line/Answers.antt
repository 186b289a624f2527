use Rattle.std.proofs.Common.{◌≡◌, ◌∙◌, ap, ap₂, true, rules}
use Rattle.std.proofs.lemmas.Result.{IfOk-weaker}
use Rattle.clap.specs.Simple.{app_of_fields}
use Rattle.clap.specs.Words.{App, app_of, rule_of, with_rule}
use Rattle.clap.specs.declared.builder.command.Command.{Command}
use Rattle.clap.specs.declared.builder.command.Command.TheOpen.{Command-F}
use Rattle.pur_commands.specs.Words.{bare_app, settings_rule, check_rule, sheet_rule, sample_rule, input_rule}
use Rattle.pur_commands.proofs.words.command_line.Goals as goal

pub returns : goal.returns
returns c =
    let settings_is : rule_of c.action-settings.result ≡ settings_rule = search (rules, c.action-settings.ensures, c.long.ensures, c.new.ensures) in
    let check_is : rule_of c.action-check.result ≡ check_rule = search (rules, c.action-check.ensures, c.long-2.ensures, c.new-2.ensures) in
    let sheet_is : rule_of c.action-sheet.result ≡ sheet_rule = search (rules, c.action-sheet.ensures, c.long-3.ensures, c.new-3.ensures) in
    let sample_is : rule_of c.action-sample.result ≡ sample_rule = search (rules, c.action-sample.ensures, c.long-4.ensures, c.new-4.ensures) in
    let input_is : rule_of c.action-input.result ≡ input_rule = search rules in
    let bare_is : app_of c.disable_version_flag.result ≡ bare_app =
    ap app_of_fields (c.disable_version_flag.ensures ∙ ap (λ (f : Command-F Command). record f { disable_version_flag = true }) c.disable_help_flag.ensures)
    ∙ ap (λ (a : App). record a { top = record a.top { disable_help_flag = true; disable_version_flag = true } }) c.new-6.ensures.app in
    IfOk-weaker c.arg-5.result _ _ (λ m added. added.shape (search rules)
    ∙ ap₂ with_rule (c.in_ok-arg-4.ensures.shape (search rules)
    ∙ ap₂ with_rule (c.in_ok-arg-3.ensures.shape (search rules)
    ∙ ap₂ with_rule (c.in_ok-arg-2.ensures.shape (search rules)
    ∙ ap₂ with_rule (c.in_ok-arg.ensures.shape (search (rules, c.action-settings.ensures, c.long.ensures, c.new.ensures)) ∙ ap₂ with_rule bare_is settings_is) check_is) sheet_is) sample_is) input_is) c.arg-5.ensures
