-- How often each character stands in the texts that are read, in those that are lost, and in those that are written.
use Rattle.std.specs.Prelude.{ℕ, ◌+◌, ◌≤◌, ◌≡◌, false, List}
use Rattle.pur_text.specs.Characters.{is_space}
use Rattle.pur_text.specs.Cleaning.{cleaned}
use Rattle.pur_tokens.specs.Joining as read
use Rattle.pur_attrlist.specs.Texts.{times}
use Rattle.pur_lexer.specs.Lexing.{tokens_of}
use Rattle.pur_settings.specs.Rules.{Rules}
use Rattle.pur_tree.specs.Nodes.{Nodes}
use Rattle.pur_tree.specs.Spelling.{AreSpelled}
use Rattle.pur_tree.specs.Walks.{count_in_text}
use Rattle.pur_uripolicy.specs.HostRules.{PlainHostRule}
use Rattle.pur_wellform.specs.Closing.{lost_in_closing}
use Rattle.pur_nesting.specs.Nesting.{lost_in_nesting, permits_of}
use Rattle.pur_inject.specs.Injected.{lost_in_injecting}
use Rattle.pur_engine.specs.Purified.{closed_tree, kept_tokens, nested_tree}

-- how often a character, given as its number, stands in the texts of an input: those of the tokens of its characters
abbrev pub count_read : ℕ → List ℕ → ℕ
count_read c input = read.count_in_text c (tokens_of (cleaned input))

-- how often it stands in what is lost: in text that finds no place when elements are closed; in captions that nesting repair
-- can't keep, a second one of a table and that of a table without rows that becomes no paragraph; and in line feeds past the second
-- of a blank line, where paragraphs are made
abbrev pub count_lost : Rules → PlainHostRule → ℕ → List ℕ → ℕ
count_lost rules rule c input =
    times c (lost_in_closing rules (kept_tokens rules rule (cleaned input)))
    + lost_in_nesting c (permits_of rules) (closed_tree rules rule (cleaned input))
    + lost_in_injecting c rules rule (nested_tree rules rule (cleaned input))

-- the output is the spelling of nodes in whose texts no character, white space too, stands more often than in the input's
pub record AddsNoText (rules : Rules) (rule : PlainHostRule) (input output : List ℕ) : Type 0 where
  pub nodes : Nodes
  pub spelled : AreSpelled nodes output
  pub no_more : (c : ℕ) → count_in_text c nodes ≤ count_read c input

-- the output is the spelling of nodes in whose texts each character that isn't white space stands as often as in the input's, but
-- for what is lost: what came out and what was lost is what was read
pub record KeepsLedger (rules : Rules) (rule : PlainHostRule) (input output : List ℕ) : Type 0 where
  pub nodes : Nodes
  pub spelled : AreSpelled nodes output
  pub balance : (c : ℕ) → is_space c ≡ false → count_in_text c nodes + count_lost rules rule c input ≡ count_read c input
