-- What is known of trees and fragments on the way from a cleaned text to its purification.
use Rattle.std.specs.Prelude.{ℕ, ◌+◌, ◌≤◌, ◌≡◌, true, false, List, []}
use Rattle.pur_text.specs.Characters.{is_space}
use Rattle.pur_tokens.specs.Joining as read
use Rattle.pur_attrlist.specs.Texts.{times}
use Rattle.pur_lexer.specs.Lexing.{tokens_of}
use Rattle.pur_settings.specs.Rules.{Rules, permits_element}
use Rattle.pur_attrs.specs.Laws.{HaveSources}
use Rattle.pur_tree.specs.Forests.{IsForest}
use Rattle.pur_tree.specs.Nodes.{Nodes, is_joined}
use Rattle.pur_tree.specs.Properties.{Holds, free, permitted}
use Rattle.pur_tree.specs.Spelling.{Spells, has_allowed_characters, has_distinct_names, spelling_of}
use Rattle.pur_tree.specs.Tokens.{IsTreeOf}
use Rattle.pur_tree.specs.Walks.{count_in_text}
use Rattle.pur_tree.specs.Words.{IsWord, HaveWords}
use Rattle.pur_uripolicy.specs.HostRules.{PlainHostRule}
use Rattle.pur_validity.specs.Validity.{IsValid}
use Rattle.pur_wellform.specs.Closing.{lost_in_closing}
use Rattle.pur_wellform.specs.Laws.{IsClosed}
use Rattle.pur_nesting.specs.Nesting.{lost_in_nesting, permits_of}
use Rattle.pur_inject.specs.Injected.{lost_in_injecting}
use Rattle.pur_engine.specs.Purified.{closed_tags, closed_tree, kept_tokens, nested_tree, purified_nodes}

-- the closed tags have a tree, each node stands in it where it may, and it is what every forest is
pub record TreeIsClosed (rules : Rules) (rule : PlainHostRule) (text : List ℕ) : Type 0 where
  pub closed : IsClosed rules (closed_tree rules rule text)
  pub tree : IsTreeOf (closed_tree rules rule text) (closed_tags rules rule text)
  pub forest : IsForest (closed_tree rules rule text)

-- nodes that are valid and can be spelled once their attributes are valid
pub record AreReady (rules : Rules) (rule : PlainHostRule) (nodes : Nodes) : Type 0 where
  pub word : IsWord rules.doctype rules.parent nodes
  pub words : HaveWords rules.doctype rules.parent nodes
  pub free : Holds free [] nodes
  pub permitted : Holds (permitted (permits_element rules)) tt nodes
  pub forest : IsForest nodes
  pub joined : is_joined nodes ≡ true
  pub allowed : has_allowed_characters nodes ≡ true
  pub distinct : has_distinct_names nodes ≡ true
  pub sources : HaveSources rules rule nodes

-- the fragment is valid, and its spelling can be read back
pub record FragmentIsGood (rules : Rules) (rule : PlainHostRule) (text : List ℕ) : Type 0 where
  pub valid : IsValid rules rule (purified_nodes rules rule text)
  pub spells : Spells (purified_nodes rules rule text) (spelling_of (purified_nodes rules rule text))

-- how often a character stands in its texts, by what was read and what was lost
pub record FragmentIsCounted (rules : Rules) (rule : PlainHostRule) (text : List ℕ) (c : ℕ) : Type 0 where
  pub no_more : count_in_text c (purified_nodes rules rule text) ≤ read.count_in_text c (tokens_of text)
  pub balance : is_space c ≡ false
      → count_in_text c (purified_nodes rules rule text)
      + (times c (lost_in_closing rules (kept_tokens rules rule text))
      + lost_in_nesting c (permits_of rules) (closed_tree rules rule text)
      + lost_in_injecting c rules rule (nested_tree rules rule text))
      ≡ read.count_in_text c (tokens_of text)
