-- A text has characters where it has bytes.
use Rattle.std.proofs.Common.{◌∙◌, ap, sym, string_bytes}
use Rattle.std.specs.Prelude.{◌==◌, not}
use Rattle.std.proofs.lemmas.Str.{IsUtf8-string_bytes}
use Rattle.pur_tokens.specs.Joining.{is_some_token}
use Rattle.pur_tokens.specs.Tokens.{plain_token}
use Rattle.pur_lexer.proofs.LexLemmas.{empty-some}
use Rattle.pur_lexer.proofs.lexing.is_empty_text.Goals as goal

pub returns-in-Text : goal.returns-in-Text
returns-in-Text c =
    let text = c.in-Text.text in
    c.is_empty.ensures ∙ ap (λ n. n == 0) text.bytes.ok.0 ∙ empty-some (string_bytes text) (IsUtf8-string_bytes text)
    ∙ ap (λ t. not (is_some_token (plain_token t))) (sym c.in-Text.is)
