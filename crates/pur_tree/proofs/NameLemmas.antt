-- What the names of the elements are made of, by computing over the list of all.
use Rattle.std.proofs.Common.{◌≡◌, ℕ, List, [], ◌∷◌, ◌++◌, refl, Bool, true, false, ◌||◌, ◌&&◌, not, ◌==◌}
use Rattle.std.specs.List.{list_any}
use Rattle.std.proofs.lemmas.Bool.{not-true}
use Rattle.pur_names.specs.declared.elements.Element.{Element}
use Rattle.pur_names.specs.Elements.{element_name}
use Rattle.pur_names.proofs.ElementLaws.{each_element}

-- the characters that end a name in a tag
abbrev pub is_name_end : ℕ → Bool
is_name_end c = (c == 32) || (c == 62)

-- no name has one of these
pub name_runs : (e : Element) → list_any is_name_end (element_name e) ≡ false
name_runs e = not-true _ (each_element (λ d. not (list_any is_name_end (element_name d))) refl e)

-- what stands behind nodes: nothing, or the end tag of the element that they are the children of
abbrev pub is_closer : List ℕ → Bool
is_closer [] = true
is_closer (a ∷ []) = false
is_closer (a ∷ b ∷ x) = (a == 60) && (b == 47)

-- a text begins, and not with a slash
abbrev has_other_front : List ℕ → Bool
has_other_front [] = false
has_other_front (a ∷ x) = not (a == 47)

-- a tag that begins with a name is no end tag
pub tag_is_no_closer : (e : Element) (c : ℕ) (z : List ℕ) → is_closer (60 ∷ (element_name e ++ (c ∷ z))) ≡ false
tag_is_no_closer e c z = go (element_name e) (each_element (λ d. has_other_front (element_name d)) refl e)
  where
    go : (name : List ℕ) → has_other_front name ≡ true → is_closer (60 ∷ (name ++ (c ∷ z))) ≡ false
    go [] other = absurd (cc)
    go (a ∷ name) other = not-true (a == 47) other
