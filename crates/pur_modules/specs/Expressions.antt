-- The content expressions (XHTML 1.0, the element declarations of the two DTDs): a choice of ways, a way a row of steps.
use Rattle.std.specs.Prelude.{ℕ, Bool, true, false, List, [], ◌∷◌, ◌++◌, map}
use Rattle.std.specs.List.{flat_map, list_any}
use Rattle.pur_names.specs.declared.elements.Element.{Element}
use Rattle.pur_names.specs.declared.elements.Element.TheVariants.{Caption, Col, Colgroup, Dd, Dt, Legend, Li, Optgroup, OptionItem, P, Tbody, Td, Tfoot, Th, Thead, Tr}
use Rattle.pur_modules.specs.declared.kinds.Child.{Child}
use Rattle.pur_modules.specs.declared.kinds.Child.TheVariants.{Text, Elem}
use Rattle.pur_modules.specs.declared.kinds.Content.{Content}
use Rattle.pur_modules.specs.declared.kinds.Content.TheVariants.{AddressMix, Block, Cells, Cols, FieldsetMix, Flow, Inline, Items, Nothing, OptionItems, Options, Pairs, Rows, TableParts, TextOnly}
use Rattle.pur_modules.specs.declared.kinds.Doctype.{Doctype}
use Rattle.pur_modules.specs.Groups.{is_among, inline, block, misc}

-- a run of letters out of a set: at least so many of them, 0 or 1, and at most one unless there may be many
pub record Step : Type 0 where
  pub letters : List Child
  pub least : ℕ
  pub many : Bool

-- the letters of elements
abbrev pub elems : List Element → List Child
elems elements = map Elem elements

-- text and the letters of elements
abbrev pub text_or : List Element → List Child
text_or elements = Text ∷ elems elements

-- (x)*: any number
abbrev pub any_of : List Child → Step
any_of letters = record { letters = letters; least = 0; many = true }

-- (x)+: one or more
abbrev pub some_of : List Child → Step
some_of letters = record { letters = letters; least = 1; many = true }

-- x?: one or none
abbrev pub optional : Element → Step
optional element = record { letters = elems (element ∷ []); least = 0; many = false }

-- an expression of one way with one step
abbrev pub one_step : Step → List (List Step)
one_step step = (step ∷ []) ∷ []

-- a way of a table: a caption, columns of one kind, a head, a foot, and bodies of one kind
abbrev pub table_way : Element → Element → List Step
table_way column body =
    optional Caption ∷ any_of (elems (column ∷ [])) ∷ optional Thead ∷ optional Tfoot ∷ some_of (elems (body ∷ [])) ∷ []

-- the way of a fieldset: a legend, and behind it any number of these
abbrev pub fieldset_way : List Child → List Step
fieldset_way letters = optional Legend ∷ any_of letters ∷ []

-- the expression of a content kind
abbrev pub expression_of : Doctype → Content → List (List Step)
expression_of doctype Inline = one_step (any_of (text_or (inline doctype)))
expression_of doctype Flow = one_step (any_of (text_or (inline doctype ++ block doctype)))
expression_of doctype Block = one_step (any_of (elems (misc ++ block doctype)))
expression_of doctype AddressMix = one_step (any_of (text_or (inline doctype ++ P ∷ [])))
expression_of doctype Items = one_step (some_of (elems (Li ∷ [])))
expression_of doctype Pairs = one_step (some_of (elems (Dt ∷ Dd ∷ [])))
expression_of doctype TableParts = table_way Col Tbody ∷ table_way Col Tr ∷ table_way Colgroup Tbody ∷ table_way Colgroup Tr ∷ []
expression_of doctype Rows = one_step (some_of (elems (Tr ∷ [])))
expression_of doctype Cells = one_step (some_of (elems (Th ∷ Td ∷ [])))
expression_of doctype Cols = one_step (any_of (elems (Col ∷ [])))
expression_of doctype Options = one_step (some_of (elems (Optgroup ∷ OptionItem ∷ [])))
expression_of doctype OptionItems = one_step (some_of (elems (OptionItem ∷ [])))
expression_of doctype TextOnly = one_step (any_of (Text ∷ []))
expression_of doctype FieldsetMix = fieldset_way (text_or (inline doctype ++ block doctype)) ∷ []
expression_of doctype Nothing = [] ∷ []

-- all letters of an expression, in the order in which they stand there
abbrev pub letters_of : List (List Step) → List Child
letters_of ways = flat_map (λ way. flat_map (λ step. step.letters) way) ways

-- whether a letter is text
abbrev pub is_text : Child → Bool
is_text Text = true
is_text (Elem element) = false

-- the elements among letters
abbrev pub elements_among : List Child → List Element
elements_among [] = []
elements_among (Text ∷ letters) = elements_among letters
elements_among (Elem element ∷ letters) = element ∷ elements_among letters

-- an element before others, unless it was seen
abbrev pub before_unless : Bool → Element → List Element → List Element
before_unless true element elements = elements
before_unless false element elements = element ∷ elements

-- a list without those that were seen or stand earlier in it
abbrev pub without_repeats : List Element → List Element → List Element
without_repeats seen [] = []
without_repeats seen (element ∷ elements) =
    before_unless (is_among seen element) element (without_repeats (element ∷ seen) elements)

-- the element letters of a kind's expression, each once
unfoldable pub child_letters : Doctype → Content → List Element
child_letters doctype content = without_repeats [] (elements_among (letters_of (expression_of doctype content)))

-- whether text is a letter of a kind's expression
unfoldable pub has_text_letter : Doctype → Content → Bool
has_text_letter doctype content = list_any is_text (letters_of (expression_of doctype content))

-- whether a child is a letter of a kind's expression
abbrev pub is_letter : Doctype → Content → Child → Bool
is_letter doctype content Text = has_text_letter doctype content
is_letter doctype content (Elem element) = is_among (child_letters doctype content) element
