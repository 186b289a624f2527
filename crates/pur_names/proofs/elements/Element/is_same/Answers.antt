use Rattle.std.proofs.Common.{◌≡◌, ◌∙◌, rules}
use Rattle.std.proofs.lemmas.Bool.Decides.{same_from_decides}
use denote.Enum.Bare.{same_true, sameb, true_same}
use Rattle.pur_names.specs.Elements.{same_element}
use Rattle.pur_names.specs.contracts.elements.Element.{the_type}
use Rattle.pur_names.specs.declared.elements.Element.{Element}
use Rattle.pur_names.proofs.ElementLaws.{same_element-Decides}
use Rattle.pur_names.proofs.elements.Element.is_same.Goals as goal

-- comparing elements is the test for the same one
same_elements : (a b : Element) → sameb the_type a b ≡ same_element a b
same_elements a b =
    same_from_decides {P = a ≡ b} (sameb the_type a b) (same_element a b)
    (λ yes. same_true the_type (search rules) a b yes, λ e. true_same the_type a b e)
    (λ yes. (same_element-Decides a b).0 yes, λ e. (same_element-Decides a b).1 e)

pub returns : goal.returns
returns c = c.eq.ensures ∙ same_elements c.args.self c.args.other
