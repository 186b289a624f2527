use Rattle.std.proofs.Common.{◌∙◌, ap, sym}
use Rattle.pur_laws.proofs.Cases.{test-chars}
use Rattle.pur_values.specs.Tokens.{is_language}
use Rattle.pur_values.proofs.SolidLemmas.{language-ascii}
use Rattle.pur_values.proofs.tokens.is_language.Goals as goal

pub returns : goal.returns
returns c = c.is_language_text.ensures ∙ ap is_language c.as_bytes.ensures.value ∙ sym (test-chars is_language language-ascii c.args.text.now c.utf8.text)
