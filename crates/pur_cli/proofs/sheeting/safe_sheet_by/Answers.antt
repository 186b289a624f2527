use Rattle.std.proofs.Common.{◌≡◌, ◌∙◌, ap, sym, subst, string_bytes}
use Rattle.std.specs.Prelude.{encode_utf8_all}
use Rattle.std.specs.Str.{chars}
use Rattle.std.proofs.lemmas.Str.{encodes-chars, IsUtf8-string_bytes}
use Rattle.pur_uripolicy.specs.HostRules.{PlainHostRule, rule_of}
use Rattle.pur_sheet.specs.Canonical.{IsCanonicalSheet}
use Rattle.pur_sheet.specs.Sheets.{sheet_of}
use Rattle.pur_cli.specs.Sheets.{safe_sheet}
use Rattle.pur_cli.proofs.sheeting.safe_sheet_by.Goals as goal

pub returns : goal.returns
unfolding safe_sheet
returns g c input is =
    let rules = c.args.settings.now in
    let scope = chars c.args.scope.now in
    let text = string_bytes c.in_ok-sheet.sheet in
    let hosts_are : c.new-gate.result ≡ rule_of rules = c.new-gate.ensures ∙ c.requires.rule in
    let read : chars text ≡ sheet_of rules (rule_of rules) scope (chars c.args.styles.now) =
    c.in_ok-sheet.ensures.read ∙ ap (λ (hosts : PlainHostRule). sheet_of rules hosts scope (chars c.args.styles.now)) hosts_are in
    record {
      sheet_is = sym (encodes-chars text (IsUtf8-string_bytes c.in_ok-sheet.sheet)) ∙ ap encode_utf8_all (read ∙ ap (sheet_of rules (rule_of rules) scope) (sym is));
      canonical = subst (λ (hosts : PlainHostRule). IsCanonicalSheet rules hosts scope (chars text)) hosts_are c.in_ok-sheet.ensures.canonical;
      plain = c.in_ok-sheet.ensures.plain;
      itself = subst (λ (hosts : PlainHostRule). sheet_of rules hosts scope (chars text) ≡ chars text) hosts_are c.in_ok-sheet.ensures.itself;
      stays = λ canonical.
          subst (λ (hosts : PlainHostRule). IsCanonicalSheet rules hosts scope (chars c.args.styles.now) → chars text ≡ chars c.args.styles.now) hosts_are
          c.in_ok-sheet.ensures.stays (subst (IsCanonicalSheet rules (rule_of rules) scope) is canonical) ∙ sym is;
    }
