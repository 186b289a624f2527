-- Elements are named by characters as by bytes.
use Rattle.std.proofs.Common.{◌≡◌, ℕ, List, [], ◌∷◌, Some, refl, sym, ap, ◌∙◌, cond}
use Rattle.std.specs.List.{find}
use Rattle.std.specs.Str.{chars, bytes_eq, IsUtf8}
use Rattle.pur_laws.proofs.Texts.{bytes_eq-chars, chars_ascii, utf8_ascii}
use Rattle.pur_names.specs.Elements.{all_elements, element_name, element_named}
use Rattle.pur_names.specs.declared.elements.Element.{Element}
use Rattle.pur_names.proofs.ElementLaws.{element_name-ascii}

-- the characters of a name
pub chars-element_name : (e : Element) → chars (element_name e) ≡ element_name e
chars-element_name e = chars_ascii (element_name e) (element_name-ascii e)

-- the characters of a text name what its bytes name
pub element_named-chars : (text : List ℕ) → IsUtf8 text → element_named (chars text) ≡ element_named text
unfolding element_named
element_named-chars text is = go all_elements
  where
    same : (e : Element) → bytes_eq (element_name e) (chars text) ≡ bytes_eq (element_name e) text
    same e =
        ap (λ name. bytes_eq name (chars text)) (sym (chars-element_name e))
        ∙ sym (bytes_eq-chars (element_name e) text (utf8_ascii (element_name e) (element_name-ascii e)) is)

    go : (es : List Element) → find (λ e. bytes_eq (element_name e) (chars text)) es ≡ find (λ e. bytes_eq (element_name e) text) es
    go [] = refl
    go (e ∷ es) =
        ap (λ b. cond b (Some e) (find (λ e. bytes_eq (element_name e) (chars text)) es)) (same e)
        ∙ ap (cond (bytes_eq (element_name e) text) (Some e)) (go es)
