-- What is read as a number has only what numbers are made of, and no unit.
use Rattle.std.proofs.Common.{◌≡◌, ℕ, Bool, true, List, Some, None, refl}
use Rattle.std.specs.Prelude.{Option, option_map}
use Rattle.std.specs.List.{list_all}
use Rattle.pur_csstok.specs.Lengths.{is_number_character}
use Rattle.pur_csstok.specs.Numbers.{Number, number_of, number_text, number_read}
use Rattle.pur_csstok.proofs.DigitLemmas.{number_of-all}

made : (signed : Bool) (text out : List ℕ) (found : Option Number) → number_of signed text ≡ found → option_map number_text found ≡ Some out
    → list_all is_number_character text ≡ true
made signed text out None is e = absurd cc
made signed text out (Some number) is e = number_of-all signed text number is

pub number-characters : (signed : Bool) (text out : List ℕ) → number_read signed text ≡ Some out → list_all is_number_character text ≡ true
number-characters signed text out e = made signed text out (number_of signed text) refl e
