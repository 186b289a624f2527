-- The values of the program as values of the definitions.
use Rattle.std.specs.Prelude.{List, ℕ, String, map, string_bytes}
use Rattle.std.specs.Str.{chars}
use Rattle.std.specs.declared.alloc.Global.{Global}
use Rattle.pur_text.specs.Texts.{text_of}
use Rattle.pur_csstok.specs.Declarations.{Pair}
use Rattle.pur_csstok.specs.Numbers.{Number}
use Rattle.pur_csstok.specs.declared.numbers.Number.{Number as Digits}
use Rattle.pur_csstok.specs.declared.declarations.Declaration.{Declaration}

-- the number whose digits the program holds
abbrev pub number_in : Digits → Number
number_in number = record { negative = number.negative; whole = number.whole.now; fraction = number.fraction.now }

-- a declaration as its property and its value, and the declarations of a list
abbrev pub pair_of : Declaration → Pair
pair_of declaration = (text_of declaration.property, text_of declaration.value)

abbrev pub pairs_of : List Declaration → List Pair
pairs_of declarations = map pair_of declarations
