use Rattle.pur_names.specs.declared.elements.Element.TheVariants.{P, Tbody}
use Rattle.pur_tree.specs.Properties.{permitted}
use Rattle.pur_nesting.specs.declared.permits.Permits.{Permits}
use Rattle.pur_nesting.proofs.HoldsLemmas.{Holds-nested}
use Rattle.pur_nesting.proofs.KeptLemmas.{permitted_stays}
use Rattle.pur_nesting.proofs.laws.keeps_permitted.Goals as goal

pub returns : goal.returns
returns c = λ permits nodes h.
    let p : Permits = record { paragraph = permits P; tbody = permits Tbody } in
    Holds-nested (permitted permits) p (permitted_stays permits p (λ e. e) (λ e. e)) tt nodes h
