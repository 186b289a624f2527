-- What holds of each element of nodes, when they become absolute and texts are joined.
use Rattle.std.proofs.Common.{◌≡◌, ◌∙◌, Bool, true, List, Option, Some, None, refl, ap}
use Rattle.std.specs.Prelude.{◌&&◌}
use Rattle.std.specs.Option.{option_map_or}
use Rattle.std.proofs.lemmas.Bool.{and_from, and_parts}
use Rattle.pur_attrlist.specs.Attributes.{Attribute}
use Rattle.pur_tree.specs.Nodes.{PlainElem, Nodes, no_nodes, text_first, elem_first, nodes_append, plain_elem}
use Rattle.pur_tree.specs.Walks.{walk, text_joined, joined_nodes}
use Rattle.pur_tree.proofs.WalkLemmas.{is_joined-joined_nodes, joined_nodes-same}
use Rattle.pur_uri.specs.Uris.{PlainUri}
use Rattle.pur_validity.specs.Attributes.{each_elem}
use Rattle.pur_absolute.specs.Absolute.{absolute_attributes, absolute_element, with_absolute_uris}

-- it holds of each element, at any depth
abbrev pub Each : (PlainElem → Type 0) → Nodes → Type 0
Each P no_nodes = Unit {0}
Each P (text_first s rest) = Each P rest
Each P (elem_first e kids rest) = P e × Each P kids × Each P rest

pub each-from : (test : PlainElem → Bool) (f : Nodes) → each_elem test f ≡ true → Each (λ e. test e ≡ true) f
each-from test no_nodes all = tt
each-from test (text_first s f) all = each-from test f all
each-from test (elem_first e kids f) all =
    let here = and_parts (test e) (each_elem test kids && each_elem test f) all in
    let below = and_parts (each_elem test kids) (each_elem test f) here.1 in
    (here.0, each-from test kids below.0, each-from test f below.1)

pub from-each : (P : PlainElem → Type 0) (test : PlainElem → Bool) → ((e : PlainElem) → P e → test e ≡ true) → (f : Nodes) → Each P f → each_elem test f ≡ true
from-each P test passes no_nodes all = refl
from-each P test passes (text_first s f) all = from-each P test passes f all
from-each P test passes (elem_first e kids f) all =
    and_from _ _ (passes e all.0) (and_from _ _ (from-each P test passes kids all.1) (from-each P test passes f all.2))

each-text_joined : (P : PlainElem → Type 0) (s : _) (f : Nodes) → Each P f → Each P (text_joined s f)
each-text_joined P s no_nodes all = tt
each-text_joined P s (text_first t f) all = all
each-text_joined P s (elem_first e kids f) all = all

pub each-joined : (P : PlainElem → Type 0) (f : Nodes) → Each P f → Each P (joined_nodes f)
each-joined P no_nodes all = tt
each-joined P (text_first s f) all = each-text_joined P s (joined_nodes f) (each-joined P f all)
each-joined P (elem_first e kids f) all = (all.0, each-joined P kids all.1, each-joined P f all.2)

module _ (allows : PlainUri → Bool) (base : PlainUri) where
  -- what each element gets when its attributes become absolute
  pub each-absolute : (P Q : PlainElem → Type 0)
      → ((e : PlainElem) (attrs : List Attribute) → P e → absolute_attributes allows base e.name e.attrs ≡ Some attrs → Q (plain_elem e.name attrs))
      → (f : Nodes) → Each P f → Each Q (walk (absolute_element allows base) f)
  each-absolute P Q gives no_nodes all = tt
  each-absolute P Q gives (text_first s f) all = each-absolute P Q gives f all
  each-absolute P Q gives (elem_first e kids f) all =
      go (absolute_attributes allows base e.name e.attrs) refl all.0 (each-absolute P Q gives kids all.1) (each-absolute P Q gives f all.2)
    where
      below : Nodes
      below = walk (absolute_element allows base) kids

      behind : Nodes
      behind = walk (absolute_element allows base) f

      go : (o : Option (List Attribute)) → absolute_attributes allows base e.name e.attrs ≡ o → P e → Each Q below → Each Q behind
          → Each Q (nodes_append (option_map_or (λ attrs. elem_first (plain_elem e.name attrs) below no_nodes) o no_nodes) behind)
      go None is here under later = later
      go (Some attrs) is here under later = (gives e attrs here is, under, later)

  -- an element whose attributes stay
  abbrev pub Stays : PlainElem → Type 0
  Stays e = absolute_attributes allows base e.name e.attrs ≡ Some e.attrs

  -- where the attributes of each stay, all does
  pub walk-stays : (f : Nodes) → Each Stays f → walk (absolute_element allows base) f ≡ f
  walk-stays no_nodes all = refl
  walk-stays (text_first s f) all = ap (text_first s) (walk-stays f all)
  walk-stays (elem_first e kids f) all =
      ap (λ o. nodes_append (option_map_or (λ attrs. elem_first (plain_elem e.name attrs) (walk (absolute_element allows base) kids) no_nodes) o no_nodes)
      (walk (absolute_element allows base) f)) all.0
      ∙ ap (λ k. elem_first e k (walk (absolute_element allows base) f)) (walk-stays kids all.1) ∙ ap (elem_first e kids) (walk-stays f all.2)

  pub absolute-stays : (f : Nodes) → Each Stays (joined_nodes f) → with_absolute_uris allows base (joined_nodes f) ≡ joined_nodes f
  absolute-stays f all = ap joined_nodes (walk-stays (joined_nodes f) all) ∙ joined_nodes-same (joined_nodes f) (is_joined-joined_nodes f)

pub each-weaker : (P Q : PlainElem → Type 0) → ((e : PlainElem) → P e → Q e) → (f : Nodes) → Each P f → Each Q f
each-weaker P Q gives no_nodes all = tt
each-weaker P Q gives (text_first s f) all = each-weaker P Q gives f all
each-weaker P Q gives (elem_first e kids f) all = (gives e all.0, each-weaker P Q gives kids all.1, each-weaker P Q gives f all.2)
