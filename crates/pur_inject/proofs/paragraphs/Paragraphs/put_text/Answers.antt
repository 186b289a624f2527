use Rattle.std.proofs.Common.{◌≡◌, ◌++◌, [], List, ℕ, sym, ap, ◌∙◌, append_assoc, arith, rules, string_bytes}
use Rattle.std.proofs.lemmas.Grind.{common_steps}
use Rattle.std.specs.Str.{chars}
use Rattle.std.proofs.lemmas.List.{map-append}
use Rattle.std.proofs.lemmas.Str.{IsUtf8-string_bytes, chars-append, chars-nil}
use Rattle.pur_inject.specs.Paragraphs.{with_blank_lines}
use Rattle.pur_inject.specs.Private.Standing.{going_on}
use Rattle.pur_inject.specs.Signs.{letter, letters}
use Rattle.pur_inject.proofs.paragraphs.Paragraphs.put_text.Goals as goal

pub returns-then-is_empty : goal.returns-then-is_empty
returns-then-is_empty c = λ doctype more.
    let none : string_bytes c.args.self.now.text ≡ [] = grind (arith, common_steps) in
    let all = letters (chars (string_bytes c.args.text)) ++ more in
    ap (λ (b : List ℕ). going_on doctype c.args.self.now (with_blank_lines (letters b ++ all))) (sym (ap chars none ∙ chars-nil))

pub returns : goal.returns
returns c = λ doctype more.
    let old = string_bytes c.args.self.now.text in
    let new = string_bytes c.args.text in
    let put : string_bytes c.push_str.new.self ≡ old ++ new = search rules in
    let both = chars-append old new (IsUtf8-string_bytes c.args.self.now.text) in
    ap (λ (b : List ℕ). going_on doctype c.args.self.now (with_blank_lines (letters (chars b) ++ more))) put
    ∙ ap (λ (s : List ℕ). going_on doctype c.args.self.now (with_blank_lines (letters s ++ more))) both
    ∙ ap (λ l. going_on doctype c.args.self.now (with_blank_lines (l ++ more))) (map-append letter (chars old) (chars new))
    ∙ ap (λ l. going_on doctype c.args.self.now (with_blank_lines l)) (append_assoc (letters (chars old)) (letters (chars new)) more)
