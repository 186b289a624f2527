use Rattle.std.proofs.Common.{◌∙◌, sym}
use Rattle.pur_absolute.proofs.StyleLemmas.{takes-first, takes-second}
use Rattle.pur_absolute.proofs.styles.takes_url.Goals as goal

pub returns-then-eq : goal.returns-then-eq
returns-then-eq c = c.if-eq.true ∙ takes-first c.args.property.now c.utf8.property (sym c.eq.ensures ∙ c.if-eq.true)

pub returns-else-eq : goal.returns-else-eq
returns-else-eq c = c.eq-else-eq.ensures ∙ takes-second c.args.property.now c.utf8.property (sym c.eq.ensures ∙ c.if-eq.false)
