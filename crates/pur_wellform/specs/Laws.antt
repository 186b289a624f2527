-- The laws of closing.
use Rattle.std.specs.Prelude.{ℕ, ◌+◌, ◌≤◌, ◌≡◌, Bool, true, List, [], map, length}
use Rattle.std.specs.List.{list_all}
use Rattle.pur_names.specs.Elements.{element_name}
use Rattle.pur_attrlist.specs.Attributes.{Attribute}
use Rattle.pur_text.specs.Characters.{is_allowed}
use Rattle.pur_tokens.specs.Characters.{token_has_only}
use Rattle.pur_tokens.specs.Distinct.{shows_distinct}
use Rattle.pur_tokens.specs.Pictures.{has_good_picture}
use Rattle.pur_tokens.specs.Tokens as read
use Rattle.pur_settings.specs.Rules.{Rules, permits_element}
use Rattle.pur_tree.specs.Forests.{IsForest}
use Rattle.pur_tree.specs.Nodes.{Nodes, is_sound, is_joined, level_of}
use Rattle.pur_tree.specs.Places.{level_limit}
use Rattle.pur_tree.specs.Properties.{Holds, permitted, letters, free, pictures}
use Rattle.pur_tree.specs.Tokens.{Token, text_token, start_token, end_token, empty_token, tree_of, tokens_of_nodes, count_in_written, IsTreeOf}
use Rattle.pur_tokens.specs.Joining.{count_in_text}
use Rattle.pur_attrlist.specs.Texts.{times}
use Rattle.pur_wellform.specs.Closing.{closed, lost_in_closing, paid, steps, first_state, pending_limit, allowance}
use Rattle.pur_tree.specs.Spelling.{has_allowed_characters, has_distinct_names}
use Rattle.pur_wellform.specs.Standing.{can_be_closed, Stands}
use Rattle.pur_wellform.specs.Invariants.{GoodRun}

-- in the tree of what closing writes each node stands where it may
abbrev pub ClosedStands : Type 0
ClosedStands = (rules : Rules) (tokens : List read.PlainToken) → list_all (can_be_closed rules) tokens ≡ true
    → Stands rules [] (tree_of (closed rules tokens))

-- what closing writes has a tree, and this is what every forest is
abbrev pub ClosedHasTree : Type 0
ClosedHasTree = (rules : Rules) (tokens : List read.PlainToken) → list_all (can_be_closed rules) tokens ≡ true
    → IsTreeOf (tree_of (closed rules tokens)) (closed rules tokens)

abbrev pub ClosedIsForest : Type 0
ClosedIsForest = (rules : Rules) (tokens : List read.PlainToken) → list_all (can_be_closed rules) tokens ≡ true
    → IsForest (tree_of (closed rules tokens))

-- wherever the tokens end, what was written, what is open and what waits are as they should be: each token that was written
-- stands where it may, no more wait than their limit, and what was paid and what may still be paid are the allowance
abbrev pub EveryPrefixIsGood : Type 0
EveryPrefixIsGood = (rules : Rules) (tokens : List read.PlainToken) → list_all (can_be_closed rules) tokens ≡ true
    → GoodRun rules first_state (steps rules tokens first_state)

-- nodes that stand where they may are permitted, are letters or white space text, stand in none that excludes them, and no level
-- passes the limit
pub record IsClosed (rules : Rules) (nodes : Nodes) : Type 0 where
  pub permitted : Holds (permitted (permits_element rules)) tt nodes
  pub letters : Holds (letters rules.doctype) (rules.parent) nodes
  pub free : Holds free [] nodes
  pub low : level_of nodes ≤ level_limit

abbrev pub StandsClosed : Type 0
StandsClosed = (rules : Rules) (nodes : Nodes) → Stands rules [] nodes → IsClosed rules nodes

-- nodes of which all this holds stand where they may
abbrev pub IsClosedStands : Type 0
IsClosedStands = (rules : Rules) (nodes : Nodes) → IsClosed rules nodes → Stands rules [] nodes

-- at no time do more wait than their limit: the tokens may end anywhere
abbrev pub FewArePending : Type 0
FewArePending = (rules : Rules) (tokens : List read.PlainToken) → list_all (can_be_closed rules) tokens ≡ true
    → length (steps rules tokens first_state).state.pending ≤ pending_limit

-- no more is paid than the allowance
abbrev pub PaysLittle : Type 0
PaysLittle = (rules : Rules) (tokens : List read.PlainToken) → list_all (can_be_closed rules) tokens ≡ true
    → paid rules tokens ≤ allowance

-- a token that was written, as one that is read
abbrev pub as_read : Token → read.PlainToken
as_read (text_token text) = read.text_token text
as_read (start_token element) = read.start_token (element_name element.name) element.attrs
as_read (end_token name) = read.end_token (element_name name)
as_read (empty_token element) = read.empty_token (element_name element.name) element.attrs

-- closing leaves nodes as they are where each stands where it may
abbrev pub ClosedAsItself : Type 0
ClosedAsItself = (rules : Rules) (nodes : Nodes) → Stands rules [] nodes → is_sound nodes ≡ true → is_joined nodes ≡ true
    → closed rules (map as_read (tokens_of_nodes nodes)) ≡ tokens_of_nodes nodes

-- what closing writes and what it loses has each character as often as what it reads
abbrev pub ClosedLedger : Type 0
ClosedLedger = (rules : Rules) (tokens : List read.PlainToken) (c : ℕ)
    → count_in_written c (closed rules tokens) + times c (lost_in_closing rules tokens) ≡ count_in_text c tokens

-- what closing leaves has allowed characters alone in its texts and values, where the tokens have
abbrev pub ClosedIsAllowed : Type 0
ClosedIsAllowed = (rules : Rules) (tokens : List read.PlainToken) (nodes : Nodes) → list_all (token_has_only is_allowed) tokens ≡ true
    → IsTreeOf nodes (closed rules tokens) → has_allowed_characters nodes ≡ true

-- no two attributes of an element have one name in what closing leaves, where no two have in a tag that is read
abbrev pub ClosedKeepsDistinct : Type 0
ClosedKeepsDistinct = (rules : Rules) (tokens : List read.PlainToken) (nodes : Nodes) → list_all shows_distinct tokens ≡ true
    → IsTreeOf nodes (closed rules tokens) → has_distinct_names nodes ≡ true

-- in the tree of what closing leaves the attributes of each picture pass a test, where those of each picture that is read do: a
-- picture is neither wrapper nor formatting, so none is put in or opened again
abbrev pub ClosedKeepsPictures : Type 0
ClosedKeepsPictures = (test : List Attribute → Bool) (rules : Rules) (tokens : List read.PlainToken) (nodes : Nodes)
    → list_all (has_good_picture test) tokens ≡ true → IsTreeOf nodes (closed rules tokens) → Holds (pictures test) tt nodes
