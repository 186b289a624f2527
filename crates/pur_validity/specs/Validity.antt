-- Which nodes are valid under settings and a rule of hosts (XML 1.0, section 3; XHTML 1.0, the two DTDs and appendix B).
use Rattle.std.specs.Prelude.{◌≤◌, []}
use Rattle.pur_settings.specs.Rules.{Rules, permits_element}
use Rattle.pur_tree.specs.Nodes.{Nodes, level_of}
use Rattle.pur_tree.specs.Places.{level_limit}
use Rattle.pur_tree.specs.Properties.{Holds, free, permitted}
use Rattle.pur_tree.specs.Words.{IsWord, HaveWords}
use Rattle.pur_uripolicy.specs.HostRules.{PlainHostRule}
use Rattle.pur_validity.specs.Attributes.{HasValidAttributes}

-- the fragment's nodes are a word of its parent's content, and the children of each element one of what it holds; no element
-- stands in one that excludes it; no level passes the limit; each element is permitted; and the attributes are valid
pub record IsValid (rules : Rules) (rule : PlainHostRule) (nodes : Nodes) : Type 0 where
  pub word : IsWord rules.doctype rules.parent nodes
  pub words : HaveWords rules.doctype rules.parent nodes
  pub free : Holds free [] nodes
  pub low : level_of nodes ≤ level_limit
  pub permitted : Holds (permitted (permits_element rules)) tt nodes
  pub attributes : HasValidAttributes rules rule nodes
