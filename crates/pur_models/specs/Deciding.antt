-- Whether a word is one of a content kind, by a test: for each step of a way the longest run at the front is taken off.
use Rattle.std.specs.Prelude.{ℕ, Bool, true, false, ◌&&◌, nat_le, List, [], ◌∷◌, if◌then◌else◌, drop, take}
use Rattle.std.specs.List.{list_any, prefix_len}
use Rattle.pur_modules.specs.declared.kinds.Child.{Child}
use Rattle.pur_modules.specs.declared.kinds.Content.{Content}
use Rattle.pur_modules.specs.declared.kinds.Doctype.{Doctype}
use Rattle.pur_modules.specs.Expressions.{Step, expression_of}
use Rattle.pur_models.specs.Languages.{has_letter}

-- how many letters of the step stand at the front of the word, or whether one does where there may be only one
abbrev pub longest_run : Step → List Child → ℕ
longest_run step word =
    if step.many then prefix_len (has_letter step.letters) word else prefix_len (has_letter step.letters) (take 1 word)

-- whether taking the longest run for each step uses the word up
abbrev pub is_cut : List Step → List Child → Bool
is_cut [] [] = true
is_cut [] (letter ∷ word) = false
is_cut (step ∷ steps) word = nat_le step.least (longest_run step word) && is_cut steps (drop (longest_run step word) word)

-- whether the word is one of a content kind
abbrev pub is_word : Doctype → Content → List Child → Bool
is_word doctype content word = list_any (λ way. is_cut way word) (expression_of doctype content)
