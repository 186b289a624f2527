use Rattle.std.proofs.Common.{◌∙◌, ap, sym}
use Rattle.pur_laws.proofs.Cases.{test-chars}
use Rattle.pur_values.specs.Choices.{is_font_size}
use Rattle.pur_values.proofs.SolidLemmas.{font_size-ascii}
use Rattle.pur_values.proofs.choices.is_font_size.Goals as goal

pub returns : goal.returns
returns c = c.is_size.ensures ∙ ap is_font_size c.as_bytes.ensures.value ∙ sym (test-chars is_font_size font_size-ascii c.args.text.now c.utf8.text)
