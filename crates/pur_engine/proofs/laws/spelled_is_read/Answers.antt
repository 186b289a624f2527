use Rattle.std.proofs.Common.{sym, ap, ◌∙◌}
use Rattle.pur_lexer.specs.Lexing.{tokens_of}
use Rattle.pur_tree.specs.Tokens.{tokens_of_nodes}
use Rattle.pur_engine.proofs.ReadingLemmas.{escaped_token, escaped_tokens, is_text_escaped, spelling_written, spelling_can, tokens_read}
use Rattle.pur_engine.proofs.TextLemmas.{apart}
use Rattle.pur_engine.proofs.laws.spelled_is_read.Goals as goal

pub returns : goal.returns
returns c nodes text spells =
    let flat = tokens_of_nodes nodes in
    ap tokens_of (sym (spelling_written spells))
    ∙ c.written_is_read.ensures (escaped_tokens flat) (spelling_can spells) (apart escaped_token is_text_escaped spells)
    ∙ tokens_read flat
