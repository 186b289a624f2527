-- The names and attributes of tags (XML 1.0, section 3.1, read as leniently as HTML 4.01, appendix B, asks for).
use Rattle.std.specs.Prelude.{ℕ, zero, suc, ◌-◌, ◌==◌, Bool, not, ◌||◌, if◌then◌else◌, List, [], ◌∷◌, ◌++◌, map, length, drop, Option, None, Some, option_map}
use Rattle.std.specs.Char.{to_ascii_lowercase}
use Rattle.pur_text.specs.Characters.{is_between, is_space}
use Rattle.pur_entities.specs.References.{decoded}
use Rattle.pur_attrlist.specs.Attributes.{Attribute, first_of_names}
use Rattle.pur_lexer.specs.Places.{begins_with, is_character, run_to, rest_from}

-- a text with each of the letters A to Z in lower case
abbrev pub lowered : List ℕ → List ℕ
lowered text = map to_ascii_lowercase text

-- an ASCII letter
abbrev pub is_letter : ℕ → Bool
is_letter c = is_between 0x41 0x5A c || is_between 0x61 0x7A c

-- white space, `/` and `>` end the name of a tag
abbrev pub ends_tag_name : ℕ → Bool
ends_tag_name c = is_space c || c == 0x2F || c == 0x3E

-- these and `=`, `"`, `'` and `<` end the name of an attribute
abbrev pub ends_attribute_name : ℕ → Bool
ends_attribute_name c = ends_tag_name c || c == 0x3D || c == 0x22 || c == 0x27 || c == 0x3C

-- white space and `/` are skipped between attributes
abbrev pub ends_gap : ℕ → Bool
ends_gap c = not (is_space c || c == 0x2F)

-- white space is skipped around the `=` of an attribute
abbrev pub ends_space : ℕ → Bool
ends_space c = not (is_space c)

-- white space and `>` end a value without quotes
abbrev pub ends_bare_value : ℕ → Bool
ends_bare_value c = is_space c || c == 0x3E

-- a value as it stands, and the text behind it
pub record RawValue : Type 0 where
  pub value : List ℕ
  pub rest : List ℕ

-- a value in quotes runs to the same quote
abbrev pub quoted_value : ℕ → List ℕ → RawValue
quoted_value quote text = record {
  value = run_to (begins_with (is_character quote)) text;
  rest = drop 1 (rest_from (begins_with (is_character quote)) text);
}

-- any other value runs to white space or `>`, and may be empty
abbrev pub bare_value : List ℕ → RawValue
bare_value text = record {
  value = run_to (begins_with ends_bare_value) text;
  rest = rest_from (begins_with ends_bare_value) text;
}

-- the value that begins a text
unfoldable pub raw_value : List ℕ → RawValue
raw_value text =
    if begins_with (is_character 0x22) text then quoted_value 0x22 (drop 1 text)
    else (if begins_with (is_character 0x27) text then quoted_value 0x27 (drop 1 text) else bare_value text)

-- the attributes that were read, one or none, and the text behind them
pub record ReadAttributes : Type 0 where
  pub pairs : List Attribute
  pub rest : List ℕ

-- an attribute with a value, whose references are read
abbrev pub with_raw_value : List ℕ → RawValue → ReadAttributes
with_raw_value name raw = record { pairs = (name, decoded raw.value) ∷ []; rest = raw.rest }

-- the attribute of a name by what follows it and the white space behind it: without a `=` the value is the name itself
unfoldable pub attribute_behind : List ℕ → List ℕ → ReadAttributes
attribute_behind name text =
    if begins_with (is_character 0x3D) text then with_raw_value name (raw_value (rest_from (begins_with ends_space) (drop 1 text)))
    else record { pairs = (name, name) ∷ []; rest = text }

-- the attribute that has this name, if the name has characters; else one character is skipped
unfoldable pub named_attribute : List ℕ → List ℕ → ReadAttributes
named_attribute [] text = record { pairs = []; rest = drop 1 text }
named_attribute (c ∷ name) text = attribute_behind (lowered (c ∷ name)) (rest_from (begins_with ends_space) text)

-- the attribute that begins a text
unfoldable pub attribute_at : List ℕ → ReadAttributes
attribute_at text =
    named_attribute (run_to (begins_with ends_attribute_name) text) (rest_from (begins_with ends_attribute_name) text)

-- how a tag goes on: it ends, as an empty tag or not, before this text; or it has these attributes, and goes on with this text
pub data Step : Type 0 where
  end_step : Bool → List ℕ → Step
  attribute_step : ReadAttributes → Step

-- whether the last character is a `/`
unfoldable pub ends_with_slash : List ℕ → Bool
ends_with_slash text = begins_with (is_character 0x2F) (drop (length text - 1) text)

-- what follows the white space and `/` that were skipped: a `>` ends the tag, which is empty where the last of them is a `/`
unfoldable pub step_behind : List ℕ → List ℕ → Step
step_behind skipped text =
    if begins_with (is_character 0x3E) text then end_step (ends_with_slash skipped) (drop 1 text)
    else attribute_step (attribute_at text)

-- the next step in a tag
unfoldable pub step_of : List ℕ → Step
step_of text = step_behind (run_to (begins_with ends_gap) text) (rest_from (begins_with ends_gap) text)

-- a tag behind its name: all of its attributes, whether it is an empty tag, and the text behind it
pub record TagEnd : Type 0 where
  pub attrs : List Attribute
  pub is_empty : Bool
  pub rest : List ℕ

-- a tag's end with attributes before its own
abbrev pub with_attributes : List Attribute → TagEnd → TagEnd
with_attributes pairs tag = record { attrs = pairs ++ tag.attrs; is_empty = tag.is_empty; rest = tag.rest }

-- the end of a tag by its next step, and by the end that is read from the text on with which the tag goes on
abbrev pub end_by_step : Step → (List ℕ → Option TagEnd) → Option TagEnd
end_by_step (end_step is_empty rest) later = Some (record { attrs = []; is_empty = is_empty; rest = rest })
end_by_step (attribute_step read) later = option_map (with_attributes read.pairs) (later read.rest)

-- the end of a tag in a text whose first n characters were read already; none where the text ends before the tag does
unfoldable pub tag_end_behind : ℕ → List ℕ → Option TagEnd
tag_end_behind n [] = None
tag_end_behind (suc n) (c ∷ text) = tag_end_behind n text
tag_end_behind zero (c ∷ text) =
    end_by_step (step_of (c ∷ text)) (λ rest. tag_end_behind (length text - length rest) text)

-- a tag's end, of whose attributes each is left out whose name stands earlier
abbrev pub with_first_of_names : TagEnd → TagEnd
with_first_of_names tag = record { attrs = first_of_names tag.attrs; is_empty = tag.is_empty; rest = tag.rest }

-- the end of a tag, read from behind its name
unfoldable pub tag_end : List ℕ → Option TagEnd
tag_end text = option_map with_first_of_names (tag_end_behind 0 text)
