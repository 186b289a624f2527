-- What is left of nodes, and what it keeps of them.
use Rattle.std.proofs.Common.{◌≡◌, ◌≤◌, Bool, false, List, Option, Some, None, refl, ap, sym, subst}
use Rattle.std.specs.Option.{option_map_or}
use Rattle.pur_attrlist.specs.Attributes.{Attribute}
use Rattle.pur_tree.specs.Forests.{IsForest}
use Rattle.pur_tree.specs.Nodes.{PlainElem, Nodes, no_nodes, text_first, elem_first, nodes_append, plain_elem, level_of}
use Rattle.pur_tree.specs.Places.{fragment, level_limit}
use Rattle.pur_tree.specs.Properties.{Property, Holds, levels, soundness}
use Rattle.pur_tree.specs.Walks.{walk}
use Rattle.pur_tree.proofs.HoldsLemmas.{levels-test, test-levels, soundness-test, test-soundness}
use Rattle.pur_uri.specs.Uris.{PlainUri}
use Rattle.pur_absolute.specs.Absolute.{absolute_attributes, absolute_element}
use Rattle.pur_absolute.specs.Private.Left.{IsLeft, none_left, text_left, elem_left, elem_gone}

-- what holds of texts and of elements by their names holds of what is left
pub Holds-left : (q : Property) → ((w : q.Where) (e d : PlainElem) → d.name ≡ e.name → q.elem w e → q.elem w d)
    → {f g : Nodes} → IsLeft f g → (w : q.Where) → Holds q w f → Holds q w g
Holds-left q named none_left w h = tt
Holds-left q named (text_left more) w h = (h.0, Holds-left q named more w h.1)
Holds-left q named (elem_left {e} {d} {k} {l} is kids more) w h = (
  named w e d is h.0,
  subst (λ name. Holds q (q.inside w name) l) (sym is) (Holds-left q named kids (q.inside w e.name) h.1),
  Holds-left q named more w h.2,
)
Holds-left q named (elem_gone more) w h = Holds-left q named more w h.2

pub low-left : {f g : Nodes} → IsLeft f g → level_of f ≤ level_limit → level_of g ≤ level_limit
low-left {f} {g} is low =
    test-levels level_limit fragment g
    (Holds-left (levels level_limit) (λ at e d same h. subst (λ name. (levels level_limit).elem at (record { name = name; attrs = d.attrs })) (sym same) h) is fragment
    (levels-test level_limit fragment f low))

pub IsForest-left : {f g : Nodes} → IsLeft f g → IsForest f → IsForest g
IsForest-left {f} {g} is h = record {
  low = low-left is h.low;
  sound = test-soundness g (Holds-left soundness (λ closed e d same is. is) is false (soundness-test f h.sound));
}

-- an element whose attributes stay is in its place, and any other isn't
module _ (allows : PlainUri → Bool) (base : PlainUri) (e : PlainElem) (kids rest : Nodes) where
  pub element-stays : (attrs : List Attribute) → Some attrs ≡ absolute_attributes allows base e.name e.attrs
      → elem_first (plain_elem e.name attrs) (walk (absolute_element allows base) kids) (walk (absolute_element allows base) rest)
      ≡ walk (absolute_element allows base) (elem_first e kids rest)
  element-stays attrs is =
      ap (λ o. nodes_append (option_map_or (λ attrs. elem_first (plain_elem e.name attrs) (walk (absolute_element allows base) kids) no_nodes) o no_nodes)
      (walk (absolute_element allows base) rest)) is

  pub element-goes : None ≡ absolute_attributes allows base e.name e.attrs
      → walk (absolute_element allows base) rest ≡ walk (absolute_element allows base) (elem_first e kids rest)
  element-goes is =
      ap (λ o. nodes_append (option_map_or (λ attrs. elem_first (plain_elem e.name attrs) (walk (absolute_element allows base) kids) no_nodes) o no_nodes)
      (walk (absolute_element allows base) rest)) is

-- what becomes of nodes is left of them
pub walk-left : (allows : PlainUri → Bool) (base : PlainUri) (f : Nodes) → IsLeft f (walk (absolute_element allows base) f)
walk-left allows base no_nodes = none_left
walk-left allows base (text_first s f) = text_left (walk-left allows base f)
walk-left allows base (elem_first e kids f) = go (absolute_attributes allows base e.name e.attrs) (walk-left allows base kids) (walk-left allows base f)
  where
    go : (o : Option (List Attribute)) → IsLeft kids (walk (absolute_element allows base) kids) → IsLeft f (walk (absolute_element allows base) f)
        → IsLeft (elem_first e kids f)
        (nodes_append (option_map_or (λ attrs. elem_first (plain_elem e.name attrs) (walk (absolute_element allows base) kids) no_nodes) o no_nodes)
        (walk (absolute_element allows base) f))
    go None under rest = elem_gone rest
    go (Some attrs) under rest = elem_left refl under rest
