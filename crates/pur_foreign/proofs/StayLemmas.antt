-- Tokens that may stay, stay as they are.
use Rattle.std.proofs.Common.{◌≡◌, ℕ, List, [], ◌∷◌, ◌++◌, refl, sym, ap, ◌∙◌, Bool, true, false, cond, flat_map, Option, Some, None, IfSome, true≢false}
use Rattle.std.specs.List.{list_all, find}
use Rattle.std.specs.Str.{bytes_eq}
use Rattle.std.proofs.lemmas.Slice.Eq.{bytes_eq-Decides}
use Rattle.std.proofs.lemmas.Bool.{and_parts}
use Rattle.pur_names.specs.Elements.{all_elements, element_name, element_named, same_element}
use Rattle.pur_names.specs.declared.elements.Element.{Element}
use Rattle.pur_names.specs.declared.elements.Element.TheVariants.{Center, Dir, Font, Img, Menu, S, Strike, U}
use Rattle.pur_modules.specs.Groups.{is_among, elements_of}
use Rattle.pur_modules.specs.declared.kinds.Doctype.{Doctype}
use Rattle.pur_modules.specs.declared.kinds.Doctype.TheVariants.{Strict, Transitional}
use Rattle.pur_attrlist.specs.Attributes.{Attribute}
use Rattle.pur_tokens.specs.Joining.{joined, has_no_neighbours}
use Rattle.pur_tokens.specs.Pictures.{has_good_picture, is_good_tag}
use Rattle.pur_tokens.specs.Tokens.{PlainToken, shows_only, text_token, start_token, end_token, empty_token, hidden_token, comment_token}
use Rattle.pur_tokens.proofs.JoiningLaws.{joined-same}
use Rattle.pur_settings.specs.Rules.{Rules, is_listed, permits_element, permits_found, permits_name}
use Rattle.pur_uripolicy.specs.Admissible.{has_source}
use Rattle.pur_uripolicy.specs.HostRules.{PlainHostRule}
use Rattle.pur_foreign.specs.Removal.{element_in, attributes_in, is_admitted, tag_image, end_image, image_of, without_foreign}
use Rattle.pur_foreign.proofs.RemovalLemmas.{end-stays, tag-stays}

-- an element that a name finds has the name
found-has : (name : List ℕ) (elements : List Element) → IfSome (find (λ e. bytes_eq (element_name e) name) elements) (λ e. element_name e ≡ name)
found-has name [] = tt
found-has name (first ∷ elements) = go (bytes_eq (element_name first) name) refl (found-has name elements)
  where
    test : Element → Bool
    test e = bytes_eq (element_name e) name

    go : (b : Bool) → bytes_eq (element_name first) name ≡ b → IfSome (find test elements) (λ e. element_name e ≡ name)
        → IfSome (cond b (Some first) (find test elements)) (λ e. element_name e ≡ name)
    go true passed later = (bytes_eq-Decides (element_name first) name).0 passed
    go false passed later = later

found-named : (name : List ℕ) → IfSome (element_named name) (λ e. element_name e ≡ name)
unfolding element_named
found-named name = found-has name all_elements

-- an element with its attributes stands for itself in a doctype
record StandsForItself (doctype : Doctype) (e : Element) : Type 0 where
  element : element_in doctype e ≡ e
  attributes : (attrs : List Attribute) → attributes_in doctype e attrs ≡ attrs

-- each that Strict has does: those that give way to others are none of them
strict-same : (e : Element) → is_among (elements_of Strict) e ≡ true → StandsForItself Strict e
strict-same Center has = absurd (true≢false (sym has))
strict-same Dir has = absurd (true≢false (sym has))
strict-same Font has = absurd (true≢false (sym has))
strict-same Menu has = absurd (true≢false (sym has))
strict-same S has = absurd (true≢false (sym has))
strict-same Strike has = absurd (true≢false (sym has))
strict-same U has = absurd (true≢false (sym has))
strict-same e has = record { element = refl; attributes = λ attrs. refl }

stands-same : (doctype : Doctype) (e : Element) → is_among (elements_of doctype) e ≡ true → StandsForItself doctype e
stands-same Strict e has = strict-same e has
stands-same Transitional e has = record { element = refl; attributes = λ attrs. refl }

module _ (rules : Rules) (rule : PlainHostRule) where
  itself : (e : Element) → permits_element rules e ≡ true → StandsForItself rules.doctype e
  itself e permitted = stands-same rules.doctype e (and_parts (is_among (elements_of rules.doctype) e) _ permitted).0

  -- a tag that is no picture's, or has a source that may be embedded, is admitted
  good-admitted : (e : Element) (attrs : List Attribute) → is_good_tag (has_source rules rule) (element_name e) attrs ≡ true → is_admitted rules rule e attrs ≡ true
  good-admitted Img attrs good = good
  good-admitted e attrs good = refl

  -- a tag of a permitted element
  tag-same : (make : List ℕ → List Attribute → PlainToken) (found : Option Element) (name : List ℕ) (attrs : List Attribute)
      → IfSome found (λ e. element_name e ≡ name) → permits_found rules found ≡ true → is_good_tag (has_source rules rule) name attrs ≡ true
      → tag_image rules rule make found attrs ≡ make name attrs ∷ []
  tag-same make None name attrs named permitted good = absurd (true≢false (sym permitted))
  tag-same make (Some e) name attrs named permitted good =
      let same = itself e permitted in
      let admitted = good-admitted e attrs (ap (λ (n : List ℕ). is_good_tag (has_source rules rule) n attrs) named ∙ good) in
      sym (tag-stays rules rule make e attrs attrs name
      (ap (permits_element rules) same.element ∙ permitted)
      ((λ i. is_admitted rules rule (same.element i) (same.attributes attrs i)) ∙ admitted)
      (sym (ap element_name same.element ∙ named))
      (sym (same.attributes attrs)))

  end-same : (found : Option Element) (name : List ℕ) → IfSome found (λ e. element_name e ≡ name) → permits_found rules found ≡ true
      → end_image rules found ≡ end_token name ∷ []
  end-same None name named permitted = absurd (true≢false (sym permitted))
  end-same (Some e) name named permitted =
      let same = itself e permitted in
      sym (end-stays rules e name (ap (permits_element rules) same.element ∙ permitted) (sym (ap element_name same.element ∙ named)))

  -- a token that may stay
  image-same : (token : PlainToken) → shows_only (permits_name rules) token ≡ true → has_good_picture (has_source rules rule) token ≡ true
      → image_of rules rule token ≡ token ∷ []
  image-same (text_token text) shown good = refl
  image-same (start_token name attrs) shown good = tag-same start_token (element_named name) name attrs (found-named name) shown good
  image-same (end_token name) shown good = end-same (element_named name) name (found-named name) shown
  image-same (empty_token name attrs) shown good = tag-same empty_token (element_named name) name attrs (found-named name) shown good
  image-same (hidden_token name body) shown good = absurd (true≢false (sym shown))
  image-same (comment_token text) shown good = absurd (true≢false (sym shown))

  images-same : (tokens : List PlainToken) → list_all (shows_only (permits_name rules)) tokens ≡ true
      → list_all (has_good_picture (has_source rules rule)) tokens ≡ true → flat_map (image_of rules rule) tokens ≡ tokens
  images-same [] shown good = refl
  images-same (token ∷ tokens) shown good =
      let shows = and_parts (shows_only (permits_name rules) token) (list_all (shows_only (permits_name rules)) tokens) shown in
      let sources = and_parts (has_good_picture (has_source rules rule) token) (list_all (has_good_picture (has_source rules rule)) tokens) good in
      (λ i. image-same token shows.0 sources.0 i ++ images-same tokens shows.1 sources.1 i)

  -- tokens that may stay
  pub tokens-stay : (tokens : List PlainToken) → list_all (shows_only (permits_name rules)) tokens ≡ true
      → list_all (has_good_picture (has_source rules rule)) tokens ≡ true → has_no_neighbours tokens ≡ true
      → without_foreign rules rule tokens ≡ tokens
  unfolding without_foreign
  tokens-stay tokens shown good none = ap joined (images-same tokens shown good) ∙ joined-same tokens none
