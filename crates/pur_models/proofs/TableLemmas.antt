-- The tables of children are the letters of the expressions.
use Rattle.std.proofs.Common.{◌≡◌, List, [], ◌∷◌, refl, ap, sym, ◌∙◌, Bool, true, false, ◌||◌}
use Rattle.std.specs.List.{list_all, list_any}
use Rattle.pur_laws.proofs.Lists.{all-same}
use Rattle.pur_names.specs.Elements.{same_element}
use Rattle.pur_names.proofs.ElementLaws.{same_element-Decides}
use Rattle.pur_names.specs.declared.elements.Element.{Element}
use Rattle.pur_modules.specs.declared.kinds.Child.{Child}
use Rattle.pur_modules.specs.declared.kinds.Child.TheVariants.{Text, Elem}
use Rattle.pur_modules.specs.declared.kinds.Content.{Content}
use Rattle.pur_modules.specs.declared.kinds.Doctype.{Doctype}
use Rattle.pur_modules.specs.Expressions.{before_unless, child_letters, elements_among, expression_of, has_text_letter, is_letter, is_text, letters_of, without_repeats}
use Rattle.pur_modules.specs.Groups.{is_among}
use Rattle.pur_models.specs.Languages.{all_among, has_letter}

has_letter-Text : (letters : List Child) → list_any is_text letters ≡ has_letter letters Text
has_letter-Text [] = refl
has_letter-Text (Text ∷ letters) = refl
has_letter-Text (Elem element ∷ letters) = has_letter-Text letters

has_letter-Elem : (letters : List Child) (e : Element) → is_among (elements_among letters) e ≡ has_letter letters (Elem e)
has_letter-Elem [] e = refl
has_letter-Elem (Text ∷ letters) e = has_letter-Elem letters e
has_letter-Elem (Elem element ∷ letters) e = ap (λ b. same_element e element || b) (has_letter-Elem letters e)

-- an element that wasn't seen is among those without repeats where it is among all
among-without_repeats : (seen elements : List Element) (e : Element) → is_among seen e ≡ false
    → is_among (without_repeats seen elements) e ≡ is_among elements e
among-without_repeats seen [] e unseen = refl
among-without_repeats seen (x ∷ elements) e unseen =
    go (same_element e x) refl (among-without_repeats (x ∷ seen) elements e)
  where
    skip : (b : Bool) → same_element e x ≡ false
        → is_among (before_unless b x (without_repeats (x ∷ seen) elements)) e ≡ is_among (without_repeats (x ∷ seen) elements) e
    skip true other = refl
    skip false other = rw other refl

    go : (b : Bool) → same_element e x ≡ b
        → (is_among (x ∷ seen) e ≡ false → is_among (without_repeats (x ∷ seen) elements) e ≡ is_among elements e)
        → is_among (before_unless (is_among seen x) x (without_repeats (x ∷ seen) elements)) e ≡ is_among (x ∷ elements) e
    go true same more =
        let here : e ≡ x = (same_element-Decides e x).0 same in
        let new : is_among seen x ≡ false = ap (is_among seen) (sym here) ∙ unseen in
        rw (new, same) refl
    go false other more =
        let still : is_among (x ∷ seen) e ≡ false = rw other unseen in
        let end : is_among (x ∷ elements) e ≡ is_among elements e = rw other refl in
        skip (is_among seen x) other ∙ more still ∙ sym end

-- a child is allowed exactly where it is a letter of the expression
pub is_letter-has_letter : (doctype : Doctype) (content : Content) (child : Child)
    → is_letter doctype content child ≡ has_letter (letters_of (expression_of doctype content)) child
unfolding child_letters has_text_letter
is_letter-has_letter doctype content Text = has_letter-Text (letters_of (expression_of doctype content))
is_letter-has_letter doctype content (Elem e) =
    among-without_repeats [] (elements_among (letters_of (expression_of doctype content))) e refl
    ∙ has_letter-Elem (letters_of (expression_of doctype content)) e

pub all_allowed : (doctype : Doctype) (content : Content) (word : List Child)
    → list_all (is_letter doctype content) word ≡ all_among (letters_of (expression_of doctype content)) word
all_allowed doctype content word =
    all-same (is_letter doctype content) (has_letter (letters_of (expression_of doctype content))) (is_letter-has_letter doctype content) word
