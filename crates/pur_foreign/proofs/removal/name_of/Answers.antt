-- A name is plain, so its bytes are its characters.
use Rattle.pur_names.proofs.ElementLaws.{element_name-ascii}
use Rattle.pur_names.specs.Elements.{element_name}
use Rattle.pur_foreign.proofs.TextLemmas.{made-plain}
use Rattle.pur_foreign.proofs.removal.name_of.Goals as goal

pub returns : goal.returns
returns c = made-plain c.from_str.result (element_name c.args.element) (element_name-ascii c.args.element) (rw c.name.ensures at c.from_str.ensures.ok)
