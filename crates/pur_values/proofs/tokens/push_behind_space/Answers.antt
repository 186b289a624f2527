use Rattle.std.proofs.Common.{◌≡◌, ◌++◌, ◌∷◌, [], ◌∙◌, ap, sym, rules, string_bytes}
use Rattle.std.specs.Str.{chars}
use Rattle.std.proofs.lemmas.Str.{IsUtf8-string_bytes}
use Rattle.pur_values.specs.Numbers.{is_empty}
use Rattle.pur_values.proofs.TextLemmas.{first_written, next_written}
use Rattle.pur_values.proofs.tokens.push_behind_space.Goals as goal

pub returns-then-is_nothing : goal.returns-then-is_nothing
returns-then-is_nothing c =
    let written = c.args.written.now in
    first_written (string_bytes written) c.args.token.now (string_bytes c.push_str.new.self) (IsUtf8-string_bytes written)
    (ap (λ t. is_empty (chars t)) (sym c.as_str.ensures.value) ∙ sym c.is_nothing.ensures ∙ c.if-is_nothing.true) c.in_ok-push_str.ensures.bytes

pub returns : goal.returns
returns c =
    let written = c.args.written.now in
    let token = c.args.token.now in
    let bytes : string_bytes c.push_str-2.new.self ≡ (string_bytes written ++ 0x20 ∷ []) ++ token = search rules in
    next_written (string_bytes written) token (string_bytes c.push_str-2.new.self) (IsUtf8-string_bytes written)
    (ap (λ t. is_empty (chars t)) (sym c.as_str.ensures.value) ∙ sym c.is_nothing.ensures ∙ c.if-is_nothing.false) bytes
