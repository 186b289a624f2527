-- What a check finds of an input.
use Rattle.std.specs.Prelude.{ℕ, ◌≤◌, List}
use Rattle.pur_settings.specs.Rules.{Rules}
use Rattle.pur_tree.specs.Nodes.{Nodes, level_of}
use Rattle.pur_tree.specs.Places.{level_limit}
use Rattle.pur_tree.specs.Spelling.{AreSpelled}
use Rattle.pur_uripolicy.specs.HostRules.{PlainHostRule}
use Rattle.pur_validity.specs.Goodness.{IsGood}
use Rattle.pur_commands.specs.declared.status.Status.{Status}
use Rattle.pur_commands.specs.declared.status.Status.TheVariants.{Done, SpellingFault, ValidityFault}

-- nodes whose level doesn't pass the limit are spelled as the bytes (XML 1.0, in one of its spellings)
pub record SpellNodes (bytes : List ℕ) : Type 0 where
  pub nodes : Nodes
  pub low : level_of nodes ≤ level_limit
  pub spelled : AreSpelled nodes bytes

-- the status that is true of an input under settings and a rule of hosts: it is a good fragment; no nodes are spelled; or nodes are
-- spelled, but it isn't good. No other status says anything of an input
abbrev pub IsVerdict : Rules → PlainHostRule → List ℕ → Status → Type 0
IsVerdict rules rule input Done = IsGood rules rule input
IsVerdict rules rule input SpellingFault = ¬ SpellNodes input
IsVerdict rules rule input ValidityFault = SpellNodes input × ¬ IsGood rules rule input
IsVerdict rules rule input other = ⊥
