-- Which bytes are a good fragment under settings and a rule of hosts: spelled in the one way in which fragments are spelled, and valid.
use Rattle.std.specs.Prelude.{ℕ, List}
use Rattle.pur_settings.specs.Rules.{Rules}
use Rattle.pur_tree.specs.Nodes.{Nodes}
use Rattle.pur_tree.specs.Spelling.{AreSpelled}
use Rattle.pur_uripolicy.specs.HostRules.{PlainHostRule}
use Rattle.pur_validity.specs.Validity.{IsValid}

-- valid nodes are spelled as the bytes
pub record IsGood (rules : Rules) (rule : PlainHostRule) (bytes : List ℕ) : Type 0 where
  pub nodes : Nodes
  pub spelled : AreSpelled nodes bytes
  pub valid : IsValid rules rule nodes
