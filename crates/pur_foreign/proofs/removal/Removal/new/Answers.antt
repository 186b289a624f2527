-- Nothing is held.
use Rattle.std.proofs.Common.{◌∙◌, ap}
use Rattle.pur_foreign.specs.Keeping.{kept_behind}
use Rattle.pur_foreign.proofs.RemovalLemmas.{kept-begun}
use Rattle.pur_foreign.proofs.removal.Removal.new.Goals as goal

pub returns : goal.returns
returns c = λ rules rule tokens. ap (λ held. kept_behind rules rule held tokens) c.new.ensures ∙ kept-begun rules rule tokens
