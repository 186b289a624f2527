-- What is said of tests of validity.
use Rattle.std.specs.Prelude.{◌↔◌, IsTrue}
use Rattle.pur_settings.specs.Rules.{Rules}
use Rattle.pur_tree.specs.Nodes.{Nodes}
use Rattle.pur_uripolicy.specs.HostRules.{PlainHostRule}
use Rattle.pur_validity.specs.Attributes.{HasValidAttributes}
use Rattle.pur_validity.specs.Deciding.{are_valid, have_valid_attributes}
use Rattle.pur_validity.specs.Validity.{IsValid}

-- nodes are valid exactly where the test finds them so
abbrev pub ValidityIsDecided : Type 0
ValidityIsDecided = (rules : Rules) (rule : PlainHostRule) (nodes : Nodes) → IsTrue (are_valid rules rule nodes) ↔ IsValid rules rule nodes

-- nodes have valid attributes exactly where the test finds them so
abbrev pub AttributesAreDecided : Type 0
AttributesAreDecided = (rules : Rules) (rule : PlainHostRule) (nodes : Nodes)
    → IsTrue (have_valid_attributes rules rule nodes) ↔ HasValidAttributes rules rule nodes
