use Rattle.std.proofs.Common.{◌∙◌, sym, codes}
use Rattle.std.specs.Str.{bytes_eq}
use Rattle.pur_csstok.proofs.ColorLaws.{transparent-ascii}
use Rattle.pur_laws.proofs.Cases.{test-chars}
use Rattle.pur_csstok.proofs.colors.is_transparent.Goals as goal

pub returns : goal.returns
returns c = c.eq.ensures ∙ sym (test-chars (λ t. bytes_eq t (codes "transparent")) transparent-ascii c.args.text.now c.utf8.text)
