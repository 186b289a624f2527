-- The ids of nodes whose URIs become absolute.
use Rattle.std.proofs.Common.{◌≡◌, ◌∙◌, ℕ, Bool, true, List, ◌++◌, Option, Some, None, refl, ap, sym, subst}
use Rattle.std.specs.Option.{option_map_or}
use Rattle.pur_attrlist.specs.Attributes.{Attribute}
use Rattle.pur_tree.specs.Nodes.{Nodes, no_nodes, text_first, elem_first, nodes_append, plain_elem}
use Rattle.pur_tree.specs.Walks.{joined_nodes, text_joined, walk}
use Rattle.pur_uri.specs.Uris.{PlainUri}
use Rattle.pur_validity.specs.Attributes.{ids_in, ids_of}
use Rattle.pur_absolute.specs.Absolute.{absolute_attributes, absolute_element}
use Rattle.pur_absolute.proofs.FewerLemmas.{Fewer, none_fewer, all-gone, fewer-append, same-fewer}
use Rattle.pur_absolute.proofs.StayingLemmas.{keeps-attributes}

ids-text_joined : (s : List ℕ) (f : Nodes) → ids_of (text_joined s f) ≡ ids_of f
ids-text_joined s no_nodes = refl
ids-text_joined s (text_first t f) = refl
ids-text_joined s (elem_first e kids f) = refl

ids-joined : (f : Nodes) → ids_of (joined_nodes f) ≡ ids_of f
ids-joined no_nodes = refl
ids-joined (text_first s f) = ids-text_joined s (joined_nodes f) ∙ ids-joined f
ids-joined (elem_first e kids f) =
    ap (λ l. ids_in e.attrs ++ (l ++ ids_of (joined_nodes f))) (ids-joined kids) ∙ ap (λ l. ids_in e.attrs ++ (ids_of kids ++ l)) (ids-joined f)

-- any id may go
abbrev pub any_text : List ℕ → Bool
any_text text = true

module _ (allows : PlainUri → Bool) (base : PlainUri) where
  ids-walk : (f : Nodes) → Fewer any_text (ids_of f) (ids_of (walk (absolute_element allows base) f))
  ids-walk no_nodes = none_fewer
  ids-walk (text_first s f) = ids-walk f
  ids-walk (elem_first e kids f) = go (absolute_attributes allows base e.name e.attrs) refl (ids-walk kids) (ids-walk f)
    where
      below : Nodes
      below = walk (absolute_element allows base) kids

      behind : Nodes
      behind = walk (absolute_element allows base) f

      go : (o : Option (List Attribute)) → absolute_attributes allows base e.name e.attrs ≡ o → Fewer any_text (ids_of kids) (ids_of below)
          → Fewer any_text (ids_of f) (ids_of behind)
          → Fewer any_text (ids_in e.attrs ++ (ids_of kids ++ ids_of f))
          (ids_of (nodes_append (option_map_or (λ attrs. elem_first (plain_elem e.name attrs) below no_nodes) o no_nodes) behind))
      go None is under later =
          fewer-append any_text (all-gone any_text (λ id. refl) (ids_in e.attrs)) (fewer-append any_text (all-gone any_text (λ id. refl) (ids_of kids)) later)
      go (Some attrs) is under later =
          subst (λ own. Fewer any_text (ids_in e.attrs ++ (ids_of kids ++ ids_of f)) (own ++ (ids_of below ++ ids_of behind)))
          (sym (keeps-attributes allows base e attrs is).ids)
          (fewer-append any_text (same-fewer any_text (ids_in e.attrs)) (fewer-append any_text under later))

  pub ids-absolute : (f : Nodes) → Fewer any_text (ids_of f) (ids_of (joined_nodes (walk (absolute_element allows base) f)))
  ids-absolute f = subst (Fewer any_text (ids_of f)) (sym (ids-joined (walk (absolute_element allows base) f))) (ids-walk f)
