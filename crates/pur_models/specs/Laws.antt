-- What is said of the words of the content kinds.
use Rattle.std.specs.Prelude.{◌≡◌, ◌<◌, ◌↔◌, ◌⊎◌, Bool, true, false, List, [], ◌∷◌, ◌++◌, length, IsTrue}
use Rattle.std.specs.List.{list_all}
use Rattle.pur_names.specs.declared.elements.Element.{Element}
use Rattle.pur_names.specs.declared.elements.Element.TheVariants.{Caption, Col, Colgroup, Legend, Tbody, Tfoot, Thead, Tr}
use Rattle.pur_modules.specs.declared.kinds.Child.{Child}
use Rattle.pur_modules.specs.declared.kinds.Content.{Content}
use Rattle.pur_modules.specs.declared.kinds.Content.TheVariants.{Inline, Flow, Block, AddressMix, Items, Pairs, TableParts, Rows, Cells, Cols, Options, OptionItems, TextOnly, FieldsetMix, Nothing}
use Rattle.pur_modules.specs.declared.kinds.Doctype.{Doctype}
use Rattle.pur_modules.specs.Expressions.{any_of, elems, is_letter, optional, some_of}
use Rattle.pur_models.specs.Languages.{IsRun, Language, has_letter}
use Rattle.pur_models.specs.Deciding.{is_word}

-- whether the kind takes any number of its letters
abbrev pub takes_any_number : Content → Bool
takes_any_number Inline = true
takes_any_number Flow = true
takes_any_number Block = true
takes_any_number AddressMix = true
takes_any_number Cols = true
takes_any_number TextOnly = true
takes_any_number content = false

-- whether the kind takes one or more of its letters
abbrev pub takes_one_or_more : Content → Bool
takes_one_or_more Items = true
takes_one_or_more Pairs = true
takes_one_or_more Rows = true
takes_one_or_more Cells = true
takes_one_or_more Options = true
takes_one_or_more OptionItems = true
takes_one_or_more content = false

-- whether an element with this content may have no children
abbrev pub may_be_empty : Content → Bool
may_be_empty Nothing = true
may_be_empty FieldsetMix = true
may_be_empty content = takes_any_number content

-- some word of the kind has the letter
pub record StandsInAWord (doctype : Doctype) (content : Content) (letter : Child) : Type 0 where
  pub word : List Child
  pub in_language : Language doctype content word
  pub has : has_letter word letter ≡ true

-- a caption, columns of one kind, a head, a foot, and one or more bodies of one kind, in this order
pub record IsTableWord (word : List Child) : Type 0 where
  pub column : Element
  pub body : Element
  pub captions : List Child
  pub columns : List Child
  pub heads : List Child
  pub feet : List Child
  pub bodies : List Child
  pub column_kind : (column ≡ Col) ⊎ (column ≡ Colgroup)
  pub body_kind : (body ≡ Tbody) ⊎ (body ≡ Tr)
  pub caption_run : IsRun (optional Caption) captions
  pub column_run : IsRun (any_of (elems (column ∷ []))) columns
  pub head_run : IsRun (optional Thead) heads
  pub foot_run : IsRun (optional Tfoot) feet
  pub body_run : IsRun (some_of (elems (body ∷ []))) bodies
  pub joined : word ≡ captions ++ (columns ++ (heads ++ (feet ++ bodies)))

-- a legend or none, and behind it a word of flow content
pub record IsFieldsetWord (doctype : Doctype) (word : List Child) : Type 0 where
  pub legends : List Child
  pub rest : List Child
  pub legend_run : IsRun (optional Legend) legends
  pub flow : Language doctype Flow rest
  pub joined : word ≡ legends ++ rest

-- each letter of a word of a kind is one that the tables allow there
abbrev pub WordsAreOfAllowedLetters : Type 0
WordsAreOfAllowedLetters =
    (doctype : Doctype) (content : Content) (word : List Child) → Language doctype content word
    → list_all (is_letter doctype content) word ≡ true

-- each letter that the tables allow stands in some word of the kind
abbrev pub AllowedLettersStandInWords : Type 0
AllowedLettersStandInWords =
    (doctype : Doctype) (content : Content) (letter : Child) → is_letter doctype content letter ≡ true
    → StandsInAWord doctype content letter

-- where a kind takes any number of its letters, each list of allowed letters is a word
abbrev pub AnyLettersAreAWord : Type 0
AnyLettersAreAWord =
    (doctype : Doctype) (content : Content) (word : List Child) → takes_any_number content ≡ true
    → list_all (is_letter doctype content) word ≡ true → Language doctype content word

-- where a kind takes one or more of its letters, each list of allowed letters but the empty one is a word
abbrev pub SomeLettersAreAWord : Type 0
SomeLettersAreAWord =
    (doctype : Doctype) (content : Content) (word : List Child) → takes_one_or_more content ≡ true
    → 0 < length word → list_all (is_letter doctype content) word ≡ true → Language doctype content word

-- the empty word is one of exactly the kinds that may be empty
abbrev pub EmptyWordIsOfFewKinds : Type 0
EmptyWordIsOfFewKinds =
    (doctype : Doctype) (content : Content) → Language doctype content [] ↔ IsTrue (may_be_empty content)

-- an element that holds nothing has the empty word alone
abbrev pub NothingIsEmpty : Type 0
NothingIsEmpty = (doctype : Doctype) (word : List Child) → Language doctype Nothing word → word ≡ []

-- the words of a table are its parts in their order
abbrev pub TableWordsAreItsParts : Type 0
TableWordsAreItsParts =
    (doctype : Doctype) (word : List Child) → Language doctype TableParts word ↔ IsTableWord word

-- the words of a fieldset are its parts in their order
abbrev pub FieldsetWordsAreItsParts : Type 0
FieldsetWordsAreItsParts =
    (doctype : Doctype) (word : List Child) → Language doctype FieldsetMix word ↔ IsFieldsetWord doctype word

-- a word is one of a kind exactly where the test finds it so
abbrev pub WordsAreDecided : Type 0
WordsAreDecided = (doctype : Doctype) (content : Content) (word : List Child) → IsTrue (is_word doctype content word) ↔ Language doctype content word
