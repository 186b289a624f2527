use Rattle.std.proofs.Common.{◌∙◌, sym}
use Rattle.std.proofs.lemmas.Bool.{ne_eqb}
use Rattle.pur_text.proofs.HostLemmas.{ip4_counted, ip4_miscounted}
use Rattle.pur_text.proofs.addresses.is_ip4_address.Goals as goal

pub returns-then-count_of-eq3 : goal.returns-then-count_of-eq3
returns-then-count_of-eq3 c =
    c.has_octets.ensures ∙ sym (ip4_counted c.args.text.now (sym c.count_of.ensures ∙ c.if-count_of-eq3.true))

pub returns-else-count_of-eq3 : goal.returns-else-count_of-eq3
returns-else-count_of-eq3 c =
    ne_eqb _ _ c.if-count_of-eq3.false ∙ sym (ip4_miscounted c.args.text.now (λ e. c.if-count_of-eq3.false (c.count_of.ensures ∙ e)))
