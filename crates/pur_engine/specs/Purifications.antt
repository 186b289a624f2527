-- What is promised of a purification, in one word.
use Rattle.std.specs.Prelude.{◌≡◌, ℕ, List, IsTrue}
use Rattle.pur_settings.specs.Rules.{Rules}
use Rattle.pur_uripolicy.specs.HostRules.{PlainHostRule}
use Rattle.pur_validity.specs.Goodness.{IsGood}
use Rattle.pur_inject.specs.Injected.{injects_nothing}
use Rattle.pur_engine.specs.Ledger.{AddsNoText, KeepsLedger}
use Rattle.pur_engine.specs.Purified.{purified}
use Rattle.pur_engine.specs.Spelled.{IsSpelled}

-- a text is the purification of an input under settings and a rule of hosts, and has all that is promised of it
pub record IsPurification (rules : Rules) (rule : PlainHostRule) (input text : List ℕ) : Type 0 where
  pub purified_is : text ≡ purified rules rule input
  pub spelled : IsSpelled text
  pub good : IsGood rules rule text
  pub adds_no_text : AddsNoText rules rule input text
  pub ledger : KeepsLedger rules rule input text
  pub unchanged : IsTrue (injects_nothing rules) → IsGood rules rule input → text ≡ input
  pub twice : purified rules rule text ≡ text
