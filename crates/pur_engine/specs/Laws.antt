-- What is said of purifications, and of what each pass does to a good fragment.
use Rattle.std.specs.Prelude.{ℕ, ◌≡◌, false, List, map, IsTrue, encode_utf8_all}
use Rattle.pur_text.specs.Cleaning.{cleaned}
use Rattle.pur_lexer.specs.Lexing.{tokens_of}
use Rattle.pur_settings.specs.Prefixes.{begins_an_id}
use Rattle.pur_settings.specs.Rules.{Rules, is_for_fragments}
use Rattle.pur_tokens.specs.Tokens.{PlainToken}
use Rattle.pur_foreign.specs.Removal.{without_foreign}
use Rattle.pur_tree.specs.Nodes.{Nodes}
use Rattle.pur_tree.specs.Spelling.{Spells}
use Rattle.pur_tree.specs.Tokens.{tokens_of_nodes, tree_of}
use Rattle.pur_uripolicy.specs.HostRules.{PlainHostRule}
use Rattle.pur_validity.specs.Goodness.{IsGood}
use Rattle.pur_validity.specs.Validity.{IsValid}
use Rattle.pur_wellform.specs.Closing.{closed}
use Rattle.pur_wellform.specs.Laws.{as_read}
use Rattle.pur_nesting.specs.Nesting.{nested, permits_of}
use Rattle.pur_inject.specs.Injected.{injected, injects_nothing}
use Rattle.pur_attrs.specs.Attributes.{with_valid_attributes}
use Rattle.pur_engine.specs.Ledger.{AddsNoText, KeepsLedger}
use Rattle.pur_engine.specs.Purified.{nested_tree, purified, purified_nodes}

-- what holds under every settings that a settings text can give: their parent holds a fragment, their prefix begins an id, and no
-- element of forms may stand in the output
abbrev pub UnderSettings : (Rules → Type 0) → Type 0
UnderSettings holds =
    (rules : Rules) → IsTrue (is_for_fragments rules.parent) → IsTrue (begins_an_id rules.id_prefix) → rules.forms ≡ false → holds rules

-- the purification of every input under all settings is good
abbrev pub PurifiedIsGood : Type 0
PurifiedIsGood = UnderSettings (λ rules. (rule : PlainHostRule) (input : List ℕ) → IsGood rules rule (purified rules rule input))

-- it has no text but the input's
abbrev pub PurifiedAddsNoText : Type 0
PurifiedAddsNoText = UnderSettings (λ rules. (rule : PlainHostRule) (input : List ℕ) → AddsNoText rules rule input (purified rules rule input))

-- and what was lost and what it has is what was read
abbrev pub PurifiedKeepsLedger : Type 0
PurifiedKeepsLedger = UnderSettings (λ rules. (rule : PlainHostRule) (input : List ℕ) → KeepsLedger rules rule input (purified rules rule input))

-- purifying twice is purifying once
abbrev pub PurifiedOnce : Type 0
PurifiedOnce = UnderSettings (λ rules. (rule : PlainHostRule) (input : List ℕ) → purified rules rule (purified rules rule input) ≡ purified rules rule input)

-- ---- a good fragment: nodes that a text spells, and that are valid

-- the tokens of nodes, as tokens that are read
abbrev pub tokens_read_of : Nodes → List PlainToken
tokens_read_of nodes = map as_read (tokens_of_nodes nodes)

-- what is spelled is cleaned to itself
abbrev pub SpelledIsCleaned : Type 0
SpelledIsCleaned = (nodes : Nodes) (text : List ℕ) → Spells nodes text → cleaned (encode_utf8_all text) ≡ text

-- its tokens are those of the nodes
abbrev pub SpelledIsRead : Type 0
SpelledIsRead = (nodes : Nodes) (text : List ℕ) → Spells nodes text → tokens_of text ≡ tokens_read_of nodes

-- what holds of good fragments, by their nodes
abbrev OfGood : (Rules → PlainHostRule → Nodes → List ℕ → Type 0) → Type 0
OfGood holds = (rules : Rules) (rule : PlainHostRule) (nodes : Nodes) (text : List ℕ) → Spells nodes text → IsValid rules rule nodes
    → holds rules rule nodes text

-- removal leaves these tokens
abbrev pub RemovalLeavesGood : Type 0
RemovalLeavesGood = OfGood (λ rules rule nodes text. without_foreign rules rule (tokens_read_of nodes) ≡ tokens_read_of nodes)

-- closing leaves them, and their tree is the nodes
abbrev pub ClosingLeavesGood : Type 0
ClosingLeavesGood = OfGood (λ rules rule nodes text.
    (closed rules (tokens_read_of nodes) ≡ tokens_of_nodes nodes) × (tree_of (tokens_of_nodes nodes) ≡ nodes))

-- nesting repair leaves the nodes
abbrev pub NestingLeavesGood : Type 0
NestingLeavesGood = OfGood (λ rules rule nodes text. nested (permits_of rules) nodes ≡ nodes)

-- and so does the pass on attributes
abbrev pub AttributesLeaveGood : Type 0
AttributesLeaveGood = OfGood (λ rules rule nodes text. with_valid_attributes rules rule nodes ≡ nodes)

-- so what the text is before links and paragraphs are made is the nodes
abbrev pub GoodReachesInjectors : Type 0
GoodReachesInjectors = OfGood (λ rules rule nodes text. nested_tree rules rule text ≡ nodes)

-- and the fragment that it becomes is the nodes, where neither is made
abbrev pub GoodStays : Type 0
GoodStays = OfGood (λ rules rule nodes text. IsTrue (injects_nothing rules) → purified_nodes rules rule text ≡ nodes)

-- a good fragment is its own purification then
abbrev pub GoodIsKept : Type 0
GoodIsKept = (rules : Rules) (rule : PlainHostRule) (bytes : List ℕ) → IsTrue (injects_nothing rules) → IsGood rules rule bytes
    → purified rules rule bytes ≡ bytes
