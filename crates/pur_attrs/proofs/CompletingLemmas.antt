-- What is put in where it is missing.
use Rattle.std.proofs.Common.{◌≡◌, ℕ, List, Option, Some, None, refl, ap, ◌∙◌, Bor}
use Rattle.std.specs.Prelude.{codes}
use Rattle.std.specs.Option.{option_map, option_or}
use Rattle.std.specs.Str.{chars}
use Rattle.pur_attrlist.specs.Attributes.{Attribute, value_of}
use Rattle.pur_attrs.specs.Steps.{language_told}

abbrev pub text_behind : Option (Bor (List ℕ)) → Option (List ℕ)
text_behind found = option_map (λ text. chars text.now) found

behind-or : (one two : Option (Bor (List ℕ))) → text_behind (option_or one two) ≡ option_or (text_behind one) (text_behind two)
behind-or None two = refl
behind-or (Some text) two = refl

-- the language that is found is the one that is told
pub found-told : (attrs : List Attribute) (one two told : Option (Bor (List ℕ))) → text_behind one ≡ value_of attrs (codes "xml:lang")
    → text_behind two ≡ value_of attrs (codes "lang") → told ≡ option_or one two → text_behind told ≡ language_told attrs
found-told attrs one two told first second is =
    ap text_behind is ∙ behind-or one two ∙ ap (λ o. option_or o (text_behind two)) first ∙ ap (option_or (value_of attrs (codes "xml:lang"))) second
