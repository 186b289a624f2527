use Rattle.std.proofs.Common.{◌∙◌, ap, sym}
use Rattle.pur_laws.proofs.Cases.{test-chars}
use Rattle.pur_values.specs.Tokens.{is_id}
use Rattle.pur_values.proofs.SolidLemmas.{id-ascii}
use Rattle.pur_values.proofs.tokens.is_id.Goals as goal

pub returns : goal.returns
returns c = c.is_id_text.ensures ∙ ap is_id c.as_bytes.ensures.value ∙ sym (test-chars is_id id-ascii c.args.text.now c.utf8.text)
