-- The kinds of all attributes on all elements, computed.
use Rattle.std.proofs.Common.{◌≡◌, ℕ, zero, suc, List, [], ◌∷◌, map, Some, refl, sym, ap, ◌∙◌, slice_get}
use Rattle.pur_names.specs.Attributes.{all_attrs, attr_rank}
use Rattle.pur_names.specs.Elements.{all_elements, element_rank}
use Rattle.pur_names.specs.declared.attributes.Attr.{Attr}
use Rattle.pur_names.specs.declared.elements.Element.{Element}
use Rattle.pur_names.proofs.AttrLaws.{all_attrs-rank}
use Rattle.pur_names.proofs.ElementLaws.{all_elements-rank}
use Rattle.pur_modules.specs.AttributeLists.{attributes_of}
use Rattle.pur_values.specs.Private.ByName.{declared_kind}
use Rattle.pur_values.specs.Kinds.{kind_of, is_declared}

-- two functions that agree on a list agree at each of its items
pub agree_at : {X Y : Type 0} (f g : X → Y) (xs : List X) (k : ℕ) (x : X) → map f xs ≡ map g xs → slice_get xs k ≡ Some x → f x ≡ g x
agree_at f g [] k x same at = absurd (cc)
agree_at f g (y ∷ xs) zero x same at = let here : y ≡ x = cc in let first : f y ≡ g y = cc in ap f (sym here) ∙ first ∙ ap g here
agree_at f g (y ∷ xs) (suc k) x same at = let behind : map f xs ≡ map g xs = cc in agree_at f g xs k x behind at

all_kinds : map (λ element. map (declared_kind element) all_attrs) all_elements ≡ map (λ element. map (kind_of element) all_attrs) all_elements
unfolding is_declared attributes_of kind_of
all_kinds = refl

pub kinds_are : (element : Element) (attr : Attr) → declared_kind element attr ≡ kind_of element attr
kinds_are element attr =
    agree_at (declared_kind element) (kind_of element) all_attrs (attr_rank attr) attr
    (agree_at (λ element. map (declared_kind element) all_attrs) (λ element. map (kind_of element) all_attrs) all_elements (element_rank element) element all_kinds (all_elements-rank element))
    (all_attrs-rank attr)
