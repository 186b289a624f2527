-- Attributes of a tag, as a list of pairs of a name and a value (XML 1.0, section 3.1).
use Rattle.std.specs.Prelude.{ℕ, ◌+◌, Bool, true, not, ◌&&◌, if◌then◌else◌, List, [], ◌∷◌, ◌++◌, map, filter, Option, None, Some}
use Rattle.std.specs.List.{list_any}
use Rattle.std.specs.Str.{bytes_eq}
use Rattle.pur_attrlist.specs.Texts.{byte_count}

-- a name and a value, each the list of its characters (XML 1.0, section 3.1)
abbrev pub Attribute : Type 0
Attribute = List ℕ × List ℕ

-- whether two texts have the same characters
abbrev pub is_same_text : List ℕ → List ℕ → Bool
is_same_text = bytes_eq

-- the names, in order
abbrev pub names_of : List Attribute → List (List ℕ)
names_of pairs = map (λ pair. pair.0) pairs

-- the values, in order
abbrev pub values_of : List Attribute → List (List ℕ)
values_of pairs = map (λ pair. pair.1) pairs

-- whether an attribute has this name
abbrev pub has_name : List Attribute → List ℕ → Bool
has_name pairs name = list_any (is_same_text name) (names_of pairs)

-- whether no name comes twice (XML 1.0, section 3.1: the constraint on unique attributes)
abbrev pub is_distinct : List Attribute → Bool
is_distinct [] = true
is_distinct (pair ∷ pairs) = not (has_name pairs pair.0) && is_distinct pairs

-- the value of the first attribute of this name
abbrev pub value_of : List Attribute → List ℕ → Option (List ℕ)
value_of [] name = None
value_of (pair ∷ pairs) name = if is_same_text name pair.0 then Some pair.1 else value_of pairs name

-- the attributes with this value for the name: in the place of the old value, or as a new pair at the end
abbrev pub with_value : List Attribute → List ℕ → List ℕ → List Attribute
with_value [] name value = (name, value) ∷ []
with_value (pair ∷ pairs) name value =
    if is_same_text name pair.0 then (name, value) ∷ pairs else pair ∷ with_value pairs name value

-- the attributes with a pair at the end, if its name is new: of equal names the first is kept
abbrev pub with_new : List Attribute → List ℕ → List ℕ → List Attribute
with_new pairs name value = if has_name pairs name then pairs else pairs ++ (name, value) ∷ []

-- the attributes without that of this name
abbrev pub without : List Attribute → List ℕ → List Attribute
without pairs name = filter (λ pair. not (is_same_text name pair.0)) pairs

-- the attributes, with each left out whose name stands earlier (HTML: of equal names the first is kept)
abbrev pub first_of_names : List Attribute → List Attribute
first_of_names [] = []
first_of_names (pair ∷ pairs) = pair ∷ without (first_of_names pairs) pair.0

-- the bytes of all names and values
abbrev pub weight_of : List Attribute → ℕ
weight_of [] = 0
weight_of (pair ∷ pairs) = byte_count pair.0 + byte_count pair.1 + weight_of pairs
