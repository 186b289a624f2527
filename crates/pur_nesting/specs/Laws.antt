-- What is said of nesting repair.
use Rattle.std.specs.Prelude.{ℕ, ◌+◌, ◌≤◌, ◌≡◌, Bool, true, false, List}
use Rattle.pur_text.specs.Characters.{is_space}
use Rattle.pur_names.specs.declared.elements.Element.{Element}
use Rattle.pur_names.specs.declared.elements.Element.TheVariants.{P, Tbody}
use Rattle.pur_modules.specs.declared.kinds.Content.{Content}
use Rattle.pur_modules.specs.declared.kinds.Doctype.{Doctype}
use Rattle.pur_models.specs.Laws.{takes_any_number}
use Rattle.pur_attrlist.specs.Attributes.{Attribute}
use Rattle.pur_settings.specs.Rules.{Rules, permits_element}
use Rattle.pur_tree.specs.Forests.{IsForest}
use Rattle.pur_tree.specs.Nodes.{Nodes, is_joined}
use Rattle.pur_tree.specs.Properties.{Holds, letters, free, permitted, pictures}
use Rattle.pur_tree.specs.Spelling.{has_allowed_characters, has_distinct_names}
use Rattle.pur_tree.specs.Walks.{count_in_text}
use Rattle.pur_tree.specs.Words.{IsWord, HaveWords}
use Rattle.pur_nesting.specs.declared.permits.Permits.{Permits}
use Rattle.pur_nesting.specs.Nesting.{nested, lost_in_nesting, permits_of}
use Rattle.pur_nesting.specs.Repaired.{HaveRepairedWords}
use Rattle.pur_nesting.specs.Settled.{IsSettled}

-- each child, at every depth, is a letter of its parent's content, or white space text; the nodes themselves stand in a
-- parent of this content
abbrev pub AreLetters : Doctype → Content → Nodes → Type 0
AreLetters doctype content nodes = Holds (letters doctype) content nodes

-- letters stay letters of their parent's content
abbrev pub KeepsLetters : Type 0
KeepsLetters = (doctype : Doctype) (p : Permits) (content : Content) (nodes : Nodes) → AreLetters doctype content nodes
    → AreLetters doctype content (nested p nodes)

-- where no element stands in one that excludes it, none does after repair, whatever stands round
abbrev pub KeepsFree : Type 0
KeepsFree = (p : Permits) (outer : List Element) (nodes : Nodes) → Holds free outer nodes → Holds free outer (nested p nodes)

-- no element comes in that isn't permitted
abbrev pub KeepsPermitted : Type 0
KeepsPermitted = (permits : Element → Bool) (nodes : Nodes) → Holds (permitted permits) tt nodes
    → Holds (permitted permits) tt (nested (record { paragraph = permits P; tbody = permits Tbody }) nodes)

-- where the attributes of each picture pass a test, they do after repair
abbrev pub KeepsPictures : Type 0
KeepsPictures = (test : List Attribute → Bool) (p : Permits) (nodes : Nodes) → Holds (pictures test) tt nodes
    → Holds (pictures test) tt (nested p nodes)

-- no two attributes of an element have one name, where none had
abbrev pub KeepsDistinct : Type 0
KeepsDistinct = (p : Permits) (nodes : Nodes) → has_distinct_names nodes ≡ true → has_distinct_names (nested p nodes) ≡ true

-- texts and values of allowed characters stay so
abbrev pub KeepsAllowed : Type 0
KeepsAllowed = (p : Permits) (nodes : Nodes) → has_allowed_characters nodes ≡ true → has_allowed_characters (nested p nodes) ≡ true

-- each character that isn't white space stands after repair as often as before, but for those that are lost with captions
abbrev pub KeepsCounts : Type 0
KeepsCounts = (doctype : Doctype) (p : Permits) (content : Content) (c : ℕ) (nodes : Nodes) → AreLetters doctype content nodes
    → is_space c ≡ false → count_in_text c (nested p nodes) + lost_in_nesting c p nodes ≡ count_in_text c nodes

-- no character, white space too, stands more often than before
abbrev pub NeverMore : Type 0
NeverMore = (p : Permits) (c : ℕ) (nodes : Nodes) → count_in_text c (nested p nodes) ≤ count_in_text c nodes

-- the children of each element are a word of what it holds, if repair makes words of that
abbrev pub GivesWords : Type 0
GivesWords = (doctype : Doctype) (p : Permits) (content : Content) (nodes : Nodes) → AreLetters doctype content nodes
    → HaveRepairedWords doctype content (nested p nodes)

-- and of whatever it holds, where all elements are permitted and none of forms is
abbrev pub GivesAllWords : Type 0
GivesAllWords = (rules : Rules) (content : Content) (nodes : Nodes) → rules.forms ≡ false → AreLetters rules.doctype content nodes
    → Holds (permitted (permits_element rules)) tt nodes → HaveWords rules.doctype content (nested (permits_of rules) nodes)

-- and so are the nodes themselves, where their parent takes any number of its letters, as a fragment does
abbrev pub GivesAWord : Type 0
GivesAWord = (doctype : Doctype) (p : Permits) (content : Content) (nodes : Nodes) → AreLetters doctype content nodes
    → takes_any_number content ≡ true → IsWord doctype content (nested p nodes)

-- no texts are neighbours
abbrev pub JoinsTexts : Type 0
JoinsTexts = (p : Permits) (nodes : Nodes) → is_joined (nested p nodes) ≡ true

-- nodes whose words are all in their languages are letters of their parents' contents, or white space
abbrev pub WordsAreLetters : Type 0
WordsAreLetters = (doctype : Doctype) (content : Content) (nodes : Nodes) → IsWord doctype content nodes
    → HaveWords doctype content nodes → AreLetters doctype content nodes

-- settled nodes stay as they are
abbrev pub LeavesSettled : Type 0
LeavesSettled = (p : Permits) (nodes : Nodes) → IsSettled nodes → nested p nodes ≡ nodes

-- what repair leaves is settled
abbrev pub IsSettling : Type 0
IsSettling = (doctype : Doctype) (p : Permits) (content : Content) (nodes : Nodes) → AreLetters doctype content nodes
    → IsSettled (nested p nodes)

-- nodes whose words are all in their languages, and in which no texts are neighbours, are settled
abbrev pub ValidAreSettled : Type 0
ValidAreSettled = (doctype : Doctype) (content : Content) (nodes : Nodes) → IsWord doctype content nodes
    → HaveWords doctype content nodes → is_joined nodes ≡ true → IsSettled nodes

-- what repair leaves it leaves as it is
abbrev pub RepairsOnce : Type 0
RepairsOnce = (doctype : Doctype) (p : Permits) (content : Content) (nodes : Nodes) → AreLetters doctype content nodes
    → nested p (nested p nodes) ≡ nested p nodes

-- what every forest keeps: no level passes the limit, no text is empty, and EMPTY elements have no children
abbrev pub KeepsForests : Type 0
KeepsForests = (p : Permits) (nodes : Nodes) → IsForest nodes → IsForest (nested p nodes)
