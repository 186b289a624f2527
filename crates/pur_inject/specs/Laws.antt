-- What is said of links and of paragraphs.
use Rattle.std.specs.Prelude.{ℕ, ◌+◌, ◌≡◌, Bool, true, false, List, []}
use Rattle.pur_settings.specs.Rules.{Rules, permits_element}
use Rattle.pur_attrlist.specs.Attributes.{Attribute}
use Rattle.pur_tree.specs.Forests.{IsForest}
use Rattle.pur_tree.specs.Nodes.{PlainElem, plain_elem, Nodes, no_nodes, elem_first, is_joined, is_sound}
use Rattle.pur_tree.specs.Properties.{Property, Holds, free, permitted, pictures}
use Rattle.pur_tree.specs.Spelling.{has_allowed_characters, has_distinct_names}
use Rattle.pur_tree.specs.Walks.{walk, count_in_text}
use Rattle.pur_tree.specs.Words.{IsWord, HaveWords}
use Rattle.pur_uripolicy.specs.HostRules.{PlainHostRule}
use Rattle.pur_inject.specs.Injected.{injected, injects_nothing}
use Rattle.pur_inject.specs.Links.{link_to, makes_links, may_be_linked, with_links}
use Rattle.pur_inject.specs.Paragraphs.{is_line_feed, lost_in_paragraphs, with_paragraphs}

-- what nodes have that others are made of: what every forest keeps; no neighbouring texts; no element in one that excludes
-- it; permitted elements alone; allowed characters alone; pictures with the attributes that they had; no name twice among the
-- attributes of an element
pub record Keeps (rules : Rules) (nodes made : Nodes) : Type 0 where
  pub forest : IsForest nodes → IsForest made
  pub joined : is_joined nodes ≡ true → is_joined made ≡ true
  pub free : Holds free [] nodes → Holds free [] made
  pub permitted : Holds (permitted (permits_element rules)) tt nodes → Holds (permitted (permits_element rules)) tt made
  pub allowed : has_allowed_characters nodes ≡ true → has_allowed_characters made ≡ true
  pub pictures : (test : List Attribute → Bool) → Holds (pictures test) tt nodes → Holds (pictures test) tt made
  pub distinct : has_distinct_names nodes ≡ true → has_distinct_names made ≡ true

-- a word stays one, and so do the children of each element
pub record KeepsWords (rules : Rules) (nodes made : Nodes) : Type 0 where
  pub word : IsWord rules.doctype rules.parent nodes → HaveWords rules.doctype rules.parent nodes
      → IsWord rules.doctype rules.parent made
  pub words : IsWord rules.doctype rules.parent nodes → HaveWords rules.doctype rules.parent nodes
      → HaveWords rules.doctype rules.parent made

-- nodes without attributes
abbrev pub names_alone : Nodes → Nodes
names_alone nodes = walk (λ e kids. elem_first (plain_elem e.name []) kids no_nodes) nodes

-- ---- links

-- each character stands as often as before
abbrev pub LinksKeepCounts : Type 0
LinksKeepCounts = (rules : Rules) (rule : PlainHostRule) (c : ℕ) (nodes : Nodes)
    → count_in_text c (with_links rules rule nodes) ≡ count_in_text c nodes

-- all elements pass a test
abbrev pub elems : (PlainElem → Bool) → Property
elems test = record {
  Where = Unit {0};
  text = λ at s. Unit {0};
  elem = λ at e. test e ≡ true;
  inside = λ at e. at;
}

-- what holds of all elements, and of each link to an address that may be one, holds of all elements afterwards
abbrev pub LinksAreTested : Type 0
LinksAreTested = (test : PlainElem → Bool) (rules : Rules) (rule : PlainHostRule)
    → ((address : List ℕ) → makes_links rules ≡ true → may_be_linked rules rule address ≡ true → test (link_to address) ≡ true)
    → (nodes : Nodes) → Holds (elems test) tt nodes → Holds (elems test) tt (with_links rules rule nodes)

-- links are made once
abbrev pub LinksOnce : Type 0
LinksOnce = (rules : Rules) (rule : PlainHostRule) (nodes : Nodes)
    → with_links rules rule (with_links rules rule nodes) ≡ with_links rules rule nodes

-- ---- paragraphs

-- each character stands as often as before, but for those that are taken
abbrev pub ParagraphsKeepCounts : Type 0
ParagraphsKeepCounts = (rules : Rules) (c : ℕ) (nodes : Nodes)
    → count_in_text c (with_paragraphs rules nodes) + lost_in_paragraphs c rules nodes ≡ count_in_text c nodes

-- and these are line feeds alone
abbrev pub LosesLineFeedsAlone : Type 0
LosesLineFeedsAlone = (rules : Rules) (c : ℕ) (nodes : Nodes) → is_line_feed c ≡ false → lost_in_paragraphs c rules nodes ≡ 0

-- paragraphs are made once
abbrev pub ParagraphsOnce : Type 0
ParagraphsOnce = (rules : Rules) (nodes : Nodes) → with_paragraphs rules (with_paragraphs rules nodes) ≡ with_paragraphs rules nodes

-- ---- both

-- no link is to be made in the paragraphs of nodes with links
abbrev pub ParagraphsBringNoLinks : Type 0
ParagraphsBringNoLinks = (rules : Rules) (rule : PlainHostRule) (nodes : Nodes) → is_joined nodes ≡ true
    → with_links rules rule (with_paragraphs rules (with_links rules rule nodes)) ≡ with_paragraphs rules (with_links rules rule nodes)

-- nodes stay as they are where the settings want neither links nor paragraphs
abbrev pub InjectsNothing : Type 0
InjectsNothing = (rules : Rules) (rule : PlainHostRule) (nodes : Nodes) → injects_nothing rules ≡ true → injected rules rule nodes ≡ nodes

-- what was injected, also with other attributes, stays as it is
abbrev pub InjectsOnce : Type 0
InjectsOnce = (rules : Rules) (rule : PlainHostRule) (nodes others : Nodes) → is_joined nodes ≡ true
    → names_alone others ≡ names_alone (injected rules rule nodes) → is_sound others ≡ true → injected rules rule others ≡ others
