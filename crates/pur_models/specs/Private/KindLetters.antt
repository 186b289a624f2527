-- The letters of a kind as its tables give them.
use Rattle.std.specs.Prelude.{List, [], ◌∷◌, ◌++◌, if◌then◌else◌}
use Rattle.pur_modules.specs.declared.kinds.Child.{Child}
use Rattle.pur_modules.specs.declared.kinds.Child.TheVariants.{Text}
use Rattle.pur_modules.specs.declared.kinds.Content.{Content}
use Rattle.pur_modules.specs.declared.kinds.Doctype.{Doctype}
use Rattle.pur_modules.specs.Expressions.{child_letters, elems, has_text_letter}

-- text, if the kind has it, and then the elements
unfoldable pub kind_letters : Doctype → Content → List Child
kind_letters doctype content =
    (if has_text_letter doctype content then Text ∷ [] else []) ++ elems (child_letters doctype content)
