-- Comparing two children is the test for the same letter.
use Rattle.std.proofs.Common.{◌≡◌, refl, sym, rules}
use Rattle.std.proofs.lemmas.Bool.Decides.{same_from_decides}
use denote.Enum.Bare.{same_true, sameb, true_same}
use Rattle.pur_names.specs.Elements.{same_element}
use Rattle.pur_names.specs.contracts.elements.Element.{the_type}
use Rattle.pur_names.specs.declared.elements.Element.{Element}
use Rattle.pur_names.proofs.ElementLaws.{same_element-Decides}
use Rattle.pur_modules.specs.contracts.kinds.ChildPartialEq.TheImpl.{ghosts}
use Rattle.pur_modules.specs.declared.kinds.Child.{Child}
use Rattle.pur_modules.specs.declared.kinds.Child.TheVariants.{Text, Elem}
use Rattle.pur_models.specs.Languages.{same_child}

same_elements : (a b : Element) → sameb the_type a b ≡ same_element b a
same_elements a b =
    same_from_decides {P = a ≡ b} (sameb the_type a b) (same_element b a)
    (λ yes. same_true the_type (search rules) a b yes, λ e. true_same the_type a b e)
    (λ yes. sym ((same_element-Decides b a).0 yes), λ e. (same_element-Decides b a).1 (sym e))

pub same_children : (a b : Child) → ghosts.eq a b ≡ same_child b a
same_children Text Text = refl
same_children Text (Elem b) = refl
same_children (Elem a) Text = refl
same_children (Elem a) (Elem b) = same_elements a b
