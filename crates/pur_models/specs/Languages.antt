-- The languages of the content expressions: sets of words over text and the elements (XML 1.0, section 3.2.1).
use Rattle.std.specs.Prelude.{◌≡◌, ◌≤◌, Bool, true, false, List, [], ◌∷◌, ◌++◌, length, not, ◌&&◌, IsTrue}
use Rattle.std.specs.List.{flat_map, list_all, list_any}
use Rattle.pur_names.specs.Elements.{same_element}
use Rattle.pur_modules.specs.declared.kinds.Child.{Child}
use Rattle.pur_modules.specs.declared.kinds.Child.TheVariants.{Text, Elem}
use Rattle.pur_modules.specs.declared.kinds.Content.{Content}
use Rattle.pur_modules.specs.declared.kinds.Doctype.{Doctype}
use Rattle.pur_modules.specs.Expressions.{Step, expression_of}

-- whether two letters are the same
abbrev pub same_child : Child → Child → Bool
same_child Text Text = true
same_child Text (Elem other) = false
same_child (Elem element) Text = false
same_child (Elem element) (Elem other) = same_element element other

-- whether the letter is one of the list
abbrev pub has_letter : List Child → Child → Bool
has_letter letters letter = list_any (same_child letter) letters

-- whether each letter of the word is one of the list
abbrev pub all_among : List Child → List Child → Bool
all_among letters word = list_all (has_letter letters) word

-- a run for a step: letters of the step alone, no fewer than the step asks for, and no two unless there may be many
pub record IsRun (step : Step) (run : List Child) : Type 0 where
  pub letters : all_among step.letters run ≡ true
  pub least : step.least ≤ length run
  pub most : step.many ≡ false → length run ≤ 1

-- a word of a way: a run for each of its steps, one behind the other
pub data IsInWay : List Step → List Child → Type 0 where
  no_step : IsInWay [] []
  step_first : {step : Step} {steps : List Step} {run rest : List Child}
      → IsRun step run → IsInWay steps rest → IsInWay (step ∷ steps) (run ++ rest)

-- a word of an expression: a word of one of its ways
pub data IsInLanguage : List (List Step) → List Child → Type 0 where
  first_way : {way : List Step} {ways : List (List Step)} {word : List Child}
      → IsInWay way word → IsInLanguage (way ∷ ways) word
  later_way : {way : List Step} {ways : List (List Step)} {word : List Child}
      → IsInLanguage ways word → IsInLanguage (way ∷ ways) word

-- the words that an element with this content may have for its children
abbrev pub Language : Doctype → Content → List Child → Type 0
Language doctype content word = IsInLanguage (expression_of doctype content) word

-- all letters of a way
abbrev pub letters_in : List Step → List Child
letters_in steps = flat_map (λ step. step.letters) steps

-- whether no letter of a step is one of a later step
abbrev pub has_disjoint_steps : List Step → Bool
has_disjoint_steps [] = true
has_disjoint_steps (step ∷ steps) = not (list_any (has_letter (letters_in steps)) step.letters) && has_disjoint_steps steps

-- in each way the letters of the steps are disjoint
abbrev pub AreDisjoint : List (List Step) → Type 0
AreDisjoint ways = IsTrue (list_all has_disjoint_steps ways)
