-- The purification of an input: each pass after the other.
use Rattle.std.specs.Prelude.{ℕ, List, encode_utf8_all}
use Rattle.pur_text.specs.Cleaning.{cleaned}
use Rattle.pur_lexer.specs.Lexing.{tokens_of}
use Rattle.pur_settings.specs.Rules.{Rules}
use Rattle.pur_tokens.specs.Tokens.{PlainToken}
use Rattle.pur_foreign.specs.Removal.{without_foreign}
use Rattle.pur_tree.specs.Nodes.{Nodes}
use Rattle.pur_tree.specs.Tokens.{Token, tree_of}
use Rattle.pur_tree.specs.Spelling.{spelling_of}
use Rattle.pur_uripolicy.specs.HostRules.{PlainHostRule}
use Rattle.pur_wellform.specs.Closing.{closed}
use Rattle.pur_nesting.specs.Nesting.{nested, permits_of}
use Rattle.pur_inject.specs.Injected.{injected}
use Rattle.pur_attrs.specs.Attributes.{with_valid_attributes}

-- the tokens of a cleaned text that stay when foreign elements are removed
abbrev pub kept_tokens : Rules → PlainHostRule → List ℕ → List PlainToken
kept_tokens rules rule text = without_foreign rules rule (tokens_of text)

-- the closed tags of a cleaned text: of the tokens that stay each element is closed
abbrev pub closed_tags : Rules → PlainHostRule → List ℕ → List Token
closed_tags rules rule text = closed rules (kept_tokens rules rule text)

-- the tree of these tags
abbrev pub closed_tree : Rules → PlainHostRule → List ℕ → Nodes
closed_tree rules rule text = tree_of (closed_tags rules rule text)

-- this tree after the repair of its nesting
abbrev pub nested_tree : Rules → PlainHostRule → List ℕ → Nodes
nested_tree rules rule text = nested (permits_of rules) (closed_tree rules rule text)

-- this tree with links and paragraphs, as far as the settings want them
abbrev pub injected_tree : Rules → PlainHostRule → List ℕ → Nodes
injected_tree rules rule text = injected rules rule (nested_tree rules rule text)

-- the fragment that a cleaned text becomes: this tree after its attributes were made valid
abbrev pub purified_nodes : Rules → PlainHostRule → List ℕ → Nodes
purified_nodes rules rule text = with_valid_attributes rules rule (injected_tree rules rule text)

-- the purification of a cleaned text under settings and a rule of hosts: the spelling of the fragment that it becomes, as UTF-8
abbrev pub purified_text : Rules → PlainHostRule → List ℕ → List ℕ
purified_text rules rule text = encode_utf8_all (spelling_of (purified_nodes rules rule text))

-- the purification of an input: that of its cleaned text
unfoldable pub purified : Rules → PlainHostRule → List ℕ → List ℕ
purified rules rule input = purified_text rules rule (cleaned input)
