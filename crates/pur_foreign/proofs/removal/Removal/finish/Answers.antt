-- What is held stays.
use Rattle.std.proofs.Common.{◌∙◌, [], ap, sym}
use Rattle.pur_foreign.specs.Keeping.{kept_behind}
use Rattle.pur_foreign.proofs.RemovalLemmas.{kept-ended}
use Rattle.pur_foreign.proofs.removal.Removal.finish.Goals as goal

pub returns : goal.returns
returns c = λ rules rule. ap (λ held. kept_behind rules rule held []) (sym (c.take.ensures.given ∙ c.self.view_is)) ∙ kept-ended rules rule c.take.result
