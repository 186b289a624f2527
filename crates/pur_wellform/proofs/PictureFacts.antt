-- In the tree of what closing leaves the attributes of each picture pass a test, where those of each picture that is read do.
use Rattle.std.proofs.Common.{◌≡◌, ℕ, List, [], ◌∷◌, Bool, true, false, ◌||◌, not, cond, Some, refl, sym, ap, subst, ◌∙◌, ⊎_elim}
use Rattle.std.specs.List.{find}
use Rattle.std.specs.Str.{bytes_eq}
use Rattle.std.proofs.lemmas.Bool.{cases_Bool}
use Rattle.pur_names.specs.Elements.{all_elements, element_name, element_named, same_element}
use Rattle.pur_names.specs.declared.elements.Element.{Element}
use Rattle.pur_names.specs.declared.elements.Element.TheVariants.{Img}
use Rattle.pur_names.proofs.ElementLaws.{same_element-Decides}
use Rattle.pur_modules.specs.Groups.{is_among}
use Rattle.pur_modules.proofs.AmongLaws.{among-passes}
use Rattle.pur_attrlist.specs.Attributes.{Attribute, is_same_text}
use Rattle.pur_tokens.specs.Pictures.{has_good_picture, is_good_tag}
use Rattle.pur_tree.specs.Nodes.{plain_elem, bare}
use Rattle.pur_tree.specs.Properties.{Holds, pictures, is_good_picture}
use Rattle.pur_wellform.specs.Laws.{ClosedKeepsPictures}
use Rattle.pur_wellform.proofs.PassingFacts.{Test, Reads, Tells, closed-passes}
use Rattle.pur_wellform.proofs.TableFacts.{wrappers}

-- an element that a name finds has the name
found-passes : (test : Element → Bool) (elements : List Element) (element : Element) → find test elements ≡ Some element → test element ≡ true
found-passes test [] element is = absurd cc
found-passes test (first ∷ elements) element is = go (test first) refl is (found-passes test elements element)
  where
    go : (b : Bool) → test first ≡ b → cond b (Some first) (find test elements) ≡ Some element
        → (find test elements ≡ Some element → test element ≡ true) → test element ≡ true
    go true passed is later = let same : first ≡ element = cc in ap test (sym same) ∙ passed
    go false passed is later = later is

named-so : (name : List ℕ) (element : Element) → element_named name ≡ Some element → bytes_eq (element_name element) name ≡ true
unfolding element_named
named-so name element is = found-passes (λ e. bytes_eq (element_name e) name) all_elements element is

abbrev says : List ℕ → Bool
says text = true

module _ (test : List Attribute → Bool) where
  -- no wrapper is a picture
  wrapper-good : (wrapper : Element) → is_among wrappers wrapper ≡ true → is_good_picture test (bare wrapper) ≡ true
  wrapper-good wrapper is = ap (λ b. b || test []) (among-passes (λ e. not (same_element e Img)) wrappers wrapper refl is)

  -- what is asked of a tag is asked of its element
  tag-good : (name : List ℕ) (attrs : List Attribute) (element : Element) → element_named name ≡ Some element → is_good_tag test name attrs ≡ true
      → is_good_picture test (plain_elem element attrs) ≡ true
  tag-good name attrs element named good = ⊎_elim
      (λ (yes : same_element element Img ≡ true).
      let picture : is_same_text (element_name Img) name ≡ true = ap (λ e. bytes_eq (element_name e) name) (sym ((same_element-Decides element Img).0 yes)) ∙ named-so name element named in
      let passed : test attrs ≡ true = subst (λ b. (not b || test attrs) ≡ true) picture good in
      ap (λ b. not b || test attrs) yes ∙ passed)
      (λ (no : same_element element Img ≡ false). ap (λ b. not b || test attrs) no)
      (cases_Bool (same_element element Img))

  picture-test : Test says (is_good_picture test)
  picture-test = record { joins = λ s t one two. refl; wraps = wrapper-good }

  picture-reads : Reads says (is_good_picture test) (has_good_picture test)
  picture-reads = record { text = λ text is. refl; start = tag-good; empty = tag-good }

  picture-tells : Tells says (is_good_picture test) (Holds (pictures test) tt)
  picture-tells = record {
    none = tt;
    text = λ text rest is more. (tt, more);
    elem = λ e kids rest is k r. (is, k, r);
  }

pub closed-pictures : ClosedKeepsPictures
closed-pictures test rules tokens nodes all tree =
    closed-passes says (is_good_picture test) (picture-test test) (Holds (pictures test) tt) (picture-tells test) (has_good_picture test) (picture-reads test)
    rules tokens nodes all tree
