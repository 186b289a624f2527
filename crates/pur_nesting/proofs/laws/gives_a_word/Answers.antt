use Rattle.pur_modules.specs.Expressions.{has_text_letter}
use Rattle.pur_models.proofs.WordLemmas.{any_letters}
use Rattle.pur_tree.specs.Words.{word_of}
use Rattle.pur_nesting.specs.Nesting.{nested}
use Rattle.pur_nesting.proofs.LetterLemmas.{letters_nested}
use Rattle.pur_nesting.proofs.WordLemmas.{letters_word}
use Rattle.pur_nesting.proofs.laws.gives_a_word.Goals as goal

pub returns : goal.returns
returns c = λ d p k nodes h many.
    any_letters d k (word_of (has_text_letter d k) (nested p nodes)) many (letters_word d k (nested p nodes) (letters_nested d p k nodes h))
