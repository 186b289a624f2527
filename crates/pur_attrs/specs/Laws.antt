-- What is said of nodes with valid attributes.
use Rattle.std.specs.Prelude.{ℕ, ◌≡◌, Bool, true, List, []}
use Rattle.pur_names.specs.declared.elements.Element.{Element}
use Rattle.pur_modules.specs.declared.kinds.Content.{Content}
use Rattle.pur_modules.specs.declared.kinds.Doctype.{Doctype}
use Rattle.pur_settings.specs.Prefixes.{begins_an_id}
use Rattle.pur_settings.specs.Rules.{Rules}
use Rattle.pur_tree.specs.Forests.{IsForest}
use Rattle.pur_tree.specs.Nodes.{Nodes, is_joined}
use Rattle.pur_uripolicy.specs.Admissible.{has_source}
use Rattle.pur_tree.specs.Properties.{Holds, free, permitted, pictures}
use Rattle.pur_tree.specs.Spelling.{has_allowed_characters, has_distinct_names, is_spellable}
use Rattle.pur_tree.specs.Walks.{count_in_text}
use Rattle.pur_tree.specs.Words.{IsWord, HaveWords}
use Rattle.pur_uripolicy.specs.HostRules.{PlainHostRule}
use Rattle.pur_validity.specs.Attributes.{HasValidAttributes}
use Rattle.pur_attrs.specs.Attributes.{with_changed_attributes, with_valid_attributes}

-- each picture's source is admissible
abbrev pub HaveSources : Rules → PlainHostRule → Nodes → Type 0
HaveSources rules rule nodes = Holds (pictures (has_source rules rule)) tt nodes

-- what comes out is valid in its attributes, where the prefix is one that ids may have, all characters are allowed, and each
-- picture's source is admissible: each attribute is declared and permitted, and each value is its own reading; required ones are
-- there; `lang` and `xml:lang` are both absent, or both there and the same; ids begin with the prefix, and no two are the same
abbrev pub GivesValidAttributes : Type 0
GivesValidAttributes = (rules : Rules) (rule : PlainHostRule) (nodes : Nodes) → begins_an_id rules.id_prefix ≡ true
    → has_allowed_characters nodes ≡ true → HaveSources rules rule nodes → HasValidAttributes rules rule (with_valid_attributes rules rule nodes)

-- what comes out may be spelled, where all characters are allowed, and no two attributes of an element come out with one name
abbrev pub GivesSpellable : Type 0
GivesSpellable = (rules : Rules) (rule : PlainHostRule) (nodes : Nodes) → begins_an_id rules.id_prefix ≡ true
    → has_allowed_characters nodes ≡ true → has_distinct_names (with_valid_attributes rules rule nodes) ≡ true
    → is_spellable (with_valid_attributes rules rule nodes) ≡ true

-- no two attributes of an element have one name, where none had
abbrev pub KeepsDistinct : Type 0
KeepsDistinct = (rules : Rules) (rule : PlainHostRule) (nodes : Nodes) → has_distinct_names nodes ≡ true
    → has_distinct_names (with_valid_attributes rules rule nodes) ≡ true

-- nodes with valid attributes stay as they are
abbrev pub LeavesValid : Type 0
LeavesValid = (rules : Rules) (rule : PlainHostRule) (nodes : Nodes) → is_spellable nodes ≡ true → HasValidAttributes rules rule nodes
    → with_valid_attributes rules rule nodes ≡ nodes

-- nodes without attributes
abbrev pub bare_nodes : Nodes → Nodes
bare_nodes nodes = with_changed_attributes (λ element attrs. []) nodes

-- attributes aside, all stays as it was
abbrev pub KeepsNodes : Type 0
KeepsNodes = (rules : Rules) (rule : PlainHostRule) (nodes : Nodes) → bare_nodes (with_valid_attributes rules rule nodes) ≡ bare_nodes nodes

-- no element stands in one that excludes it, where none did
abbrev pub KeepsFree : Type 0
KeepsFree = (rules : Rules) (rule : PlainHostRule) (outer : List Element) (nodes : Nodes) → Holds free outer nodes
    → Holds free outer (with_valid_attributes rules rule nodes)

-- all elements are permitted, where they were
abbrev pub KeepsPermitted : Type 0
KeepsPermitted = (permits : Element → Bool) (rules : Rules) (rule : PlainHostRule) (nodes : Nodes) → Holds (permitted permits) tt nodes
    → Holds (permitted permits) tt (with_valid_attributes rules rule nodes)

-- what every forest keeps, and that no texts are neighbours, stays
pub record KeepsForests (rules : Rules) (rule : PlainHostRule) (nodes : Nodes) : Type 0 where
  pub forest : IsForest nodes → IsForest (with_valid_attributes rules rule nodes)
  pub joined : is_joined (with_valid_attributes rules rule nodes) ≡ is_joined nodes

-- a word stays one, and so do the children of each element
pub record KeepsWords (doctype : Doctype) (content : Content) (rules : Rules) (rule : PlainHostRule) (nodes : Nodes) : Type 0 where
  pub word : IsWord doctype content nodes → IsWord doctype content (with_valid_attributes rules rule nodes)
  pub words : HaveWords doctype content nodes → HaveWords doctype content (with_valid_attributes rules rule nodes)

-- each character stands as often as before
abbrev pub KeepsCounts : Type 0
KeepsCounts = (rules : Rules) (rule : PlainHostRule) (c : ℕ) (nodes : Nodes) → count_in_text c (with_valid_attributes rules rule nodes) ≡ count_in_text c nodes
