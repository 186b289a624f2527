-- Properties of nodes at every depth.
use Rattle.std.specs.Prelude.{List, ◌∷◌, ℕ, ◌≡◌, ◌≤◌, ◌<◌, ◌||◌, not, Bool, true, false, length}
use Rattle.std.specs.List.{list_all}
use Rattle.pur_text.specs.Characters.{is_allowed, is_blank}
use Rattle.pur_names.specs.declared.elements.Element.{Element}
use Rattle.pur_names.specs.declared.elements.Element.TheVariants.{Img}
use Rattle.pur_names.specs.Elements.{same_element}
use Rattle.pur_modules.specs.declared.kinds.Child.TheVariants.{Text, Elem}
use Rattle.pur_modules.specs.declared.kinds.Content.{Content}
use Rattle.pur_modules.specs.declared.kinds.Doctype.{Doctype}
use Rattle.pur_modules.specs.Contents.{content_held, is_empty_element, is_excluded_in}
use Rattle.pur_modules.specs.Expressions.{is_letter}
use Rattle.pur_attrlist.specs.Attributes.{Attribute, is_distinct}
use Rattle.pur_tree.specs.Nodes.{PlainElem, Nodes, no_nodes, text_first, elem_first}
use Rattle.pur_tree.specs.Places as places
use Rattle.pur_tree.specs.Spelling.{are_spellable, has_allowed_values}

-- what is asked of each text and of each element where they stand, and where the children of an element of this name stand
pub record Property : Type 1 where
  pub Where : Type 0
  pub text : Where → List ℕ → Type 0
  pub elem : Where → PlainElem → Type 0
  pub inside : Where → Element → Where

-- what is asked holds of all nodes at every depth
abbrev pub Holds : (q : Property) → q.Where → Nodes → Type 0
Holds q w no_nodes = Unit {0}
Holds q w (text_first s rest) = q.text w s × Holds q w rest
Holds q w (elem_first e kids rest) = q.elem w e × Holds q (q.inside w e.name) kids × Holds q w rest

-- no level passes the limit
abbrev pub levels : ℕ → Property
levels limit = record {
  Where = places.Place;
  text = λ at s. Unit {0};
  elem = λ at e. (places.inside at e.name).level ≤ limit;
  inside = λ at e. places.inside at e;
}

-- no text is empty, and EMPTY elements have no children; what is known from outside is whether the parent is EMPTY
abbrev pub soundness : Property
soundness = record {
  Where = Bool;
  text = λ closed s. (closed ≡ false) × (0 < length s);
  elem = λ closed e. closed ≡ false;
  inside = λ closed e. is_empty_element e;
}

-- texts have allowed characters alone, and the attributes of each element may stand in a tag
abbrev pub spellable : Property
spellable = record {
  Where = Unit {0};
  text = λ at s. list_all is_allowed s ≡ true;
  elem = λ at e. are_spellable e.attrs ≡ true;
  inside = λ at e. tt;
}

-- texts and values have allowed characters alone
abbrev pub allowed : Property
allowed = record {
  Where = Unit {0};
  text = λ at s. list_all is_allowed s ≡ true;
  elem = λ at e. has_allowed_values e.attrs ≡ true;
  inside = λ at e. at;
}

-- no two attributes of an element have one name
abbrev pub distinct : Property
distinct = record {
  Where = Unit {0};
  text = λ at s. Unit {0};
  elem = λ at e. is_distinct e.attrs ≡ true;
  inside = λ at e. at;
}

-- all elements are permitted
abbrev pub permitted : (Element → Bool) → Property
permitted permits = record {
  Where = Unit {0};
  text = λ at s. Unit {0};
  elem = λ at e. permits e.name ≡ true;
  inside = λ at e. at;
}

-- an element is no `img`, or its attributes pass the test
abbrev pub is_good_picture : (List Attribute → Bool) → PlainElem → Bool
is_good_picture test e = not (same_element e.name Img) || test e.attrs

-- the attributes of each picture pass the test
abbrev pub pictures : (List Attribute → Bool) → Property
pictures test = record {
  Where = Unit {0};
  text = λ at s. Unit {0};
  elem = λ at e. is_good_picture test e ≡ true;
  inside = λ at e. at;
}

-- each child is a letter of its parent's content, or white space text
abbrev pub letters : Doctype → Property
letters doctype = record {
  Where = Content;
  text = λ content s. (is_blank s || is_letter doctype content Text) ≡ true;
  elem = λ content e. is_letter doctype content (Elem e.name) ≡ true;
  inside = λ content e. content_held doctype e content;
}

-- no element stands in one that excludes it, at any depth; where is told by the elements round a node, innermost first
abbrev pub free : Property
free = record {
  Where = List Element;
  text = λ outer s. Unit {0};
  elem = λ outer e. is_excluded_in outer e.name ≡ false;
  inside = λ outer e. e ∷ outer;
}
