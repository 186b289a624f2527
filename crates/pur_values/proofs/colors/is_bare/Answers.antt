use Rattle.std.proofs.Common.{◌∙◌, ap, sym}
use Rattle.pur_laws.proofs.Cases.{test-chars}
use Rattle.pur_values.specs.Colors.{is_bare}
use Rattle.pur_values.proofs.SolidLemmas.{bare-ascii}
use Rattle.pur_values.proofs.colors.is_bare.Goals as goal

pub returns : goal.returns
returns c = c.are_bare.ensures ∙ ap is_bare c.as_bytes.ensures.value ∙ sym (test-chars is_bare bare-ascii c.args.text.now c.utf8.text)
