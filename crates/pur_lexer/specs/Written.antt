-- Tokens as they are written, with the references in their texts and values not yet read (XML 1.0, sections 2.4, 3.1 and 4.1).
use Rattle.std.specs.Prelude.{ℕ, Bool, false, not, ◌&&◌, ◌||◌, List, [], ◌∷◌, ◌++◌, map, flat_map, length, nat_lt, codes}
use Rattle.std.specs.List.{list_all}
use Rattle.pur_text.specs.Characters.{is_between}
use Rattle.pur_entities.specs.References.{decoded}
use Rattle.pur_attrlist.specs.Attributes.{Attribute, is_distinct}
use Rattle.pur_tokens.specs.Tokens.{PlainToken, text_token, start_token, end_token, empty_token, hidden_token, comment_token}
use Rattle.pur_lexer.specs.Places.{begins_with, is_character}
use Rattle.pur_lexer.specs.Tags.{is_letter, ends_tag_name, ends_attribute_name}
use Rattle.pur_lexer.specs.Constructs.{is_hiding}

-- an attribute as it is written: a space, its name, and its value between quotation marks
abbrev pub written_attribute : Attribute → List ℕ
written_attribute pair = 0x20 ∷ (pair.0 ++ (0x3D ∷ 0x22 ∷ (pair.1 ++ (0x22 ∷ []))))

-- a token as it is written: a text as it stands, a tag with its attributes, an empty tag with a space before its slash
abbrev pub written : PlainToken → List ℕ
written (text_token text) = text
written (start_token name attrs) = codes "<" ++ (name ++ (flat_map written_attribute attrs ++ codes ">"))
written (end_token name) = codes "</" ++ (name ++ codes ">")
written (empty_token name attrs) = codes "<" ++ (name ++ (flat_map written_attribute attrs ++ codes " />"))
written (hidden_token name body) = []
written (comment_token text) = []

-- an attribute whose value has its references read
abbrev pub attribute_as_read : Attribute → Attribute
attribute_as_read pair = (pair.0, decoded pair.1)

-- a token whose text and values have their references read
abbrev pub as_read : PlainToken → PlainToken
as_read (text_token text) = text_token (decoded text)
as_read (start_token name attrs) = start_token name (map attribute_as_read attrs)
as_read (end_token name) = end_token name
as_read (empty_token name attrs) = empty_token name (map attribute_as_read attrs)
as_read (hidden_token name body) = hidden_token name body
as_read (comment_token text) = comment_token text

-- a capital letter of ASCII
abbrev pub is_capital : ℕ → Bool
is_capital c = is_between 0x41 0x5A c

-- a name without capital letters and without characters that end it
abbrev pub is_unbroken : (ℕ → Bool) → List ℕ → Bool
is_unbroken ends name = list_all (λ c. not (is_capital c || ends c)) name

-- a tag's name that can be written: it begins with a letter, and is unbroken
abbrev pub is_writable_name : List ℕ → Bool
is_writable_name name = begins_with is_letter name && is_unbroken ends_tag_name name

-- an attribute that can be written: its name isn't empty and is unbroken, and its value has no quotation mark
abbrev pub is_writable_attribute : Attribute → Bool
is_writable_attribute pair =
    nat_lt 0 (length pair.0) && is_unbroken ends_attribute_name pair.0 && list_all (λ c. not (is_character 0x22 c)) pair.1

-- a tag that can be written: its name and its attributes can, and no attribute's name comes twice
abbrev pub is_writable_tag : List ℕ → List Attribute → Bool
is_writable_tag name attrs = is_writable_name name && list_all is_writable_attribute attrs && is_distinct attrs

-- a token that is read as it is written: a text has no `<`, and has characters when its references are read; a start tag
-- doesn't hide what follows it; there is no hidden content and no comment
abbrev pub is_writable : PlainToken → Bool
is_writable (text_token text) = list_all (λ c. not (is_character 0x3C c)) text && nat_lt 0 (length (decoded text))
is_writable (start_token name attrs) = is_writable_tag name attrs && not (is_hiding name)
is_writable (end_token name) = is_writable_name name
is_writable (empty_token name attrs) = is_writable_tag name attrs
is_writable (hidden_token name body) = false
is_writable (comment_token text) = false
