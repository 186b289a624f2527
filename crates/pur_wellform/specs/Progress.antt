-- How far closing has come.
use Rattle.std.specs.Prelude.{List, [], ◌++◌}
use Rattle.pur_tokens.specs.Tokens.{PlainToken}
use Rattle.pur_settings.specs.Rules.{Rules}
use Rattle.pur_tree.specs.Tokens.{Token, joined}
use Rattle.pur_wellform.specs.Closing.{State, followed_by, first_state, steps, end_all}

-- the settings, the state, and what was written so far, texts joined
pub record Progress : Type 0 where
  pub rules : Rules
  pub state : State
  pub written : List Token

-- before all tokens
abbrev pub before_all : Rules → Progress
before_all rules = record { rules = rules; state = first_state; written = [] }

-- the flat list of what was written, and of more tokens behind it
abbrev pub closed_behind : Progress → List PlainToken → List Token
closed_behind done tokens = joined (done.written ++ (followed_by (steps done.rules tokens done.state) end_all).written)
