-- Styles (CSS 2.1, sections 4.1.8 and 4.2): declarations, and the words of a value.
use Rattle.std.specs.Prelude.{◌≡◌, ℕ, ◌==◌, ◌&&◌, ◌||◌, not, Bool, false, if◌then◌else◌, List, [], ◌∷◌, ◌++◌, ⊤, IsTrue, length, slice_index, filter, Option, Some, None}
use Rattle.std.specs.List.{list_all, list_any, flat_map, filter_map, before_first, after_first}
use Rattle.std.specs.Str.{str_to_ascii_lowercase}
use Rattle.pur_text.specs.Characters.{is_between}
use Rattle.pur_text.specs.Trimming.{trimmed}
use Rattle.pur_csstok.specs.Cuts.{pieces, is_plain, is_whole}
use Rattle.pur_csstok.specs.declared.cuts.Separator.TheVariants.{Semicolon, Space}

-- a backslash stands somewhere in the text, or `/*`, which begins a comment
unfoldable pub has_escape_or_comment : List ℕ → Bool
has_escape_or_comment [] = false
has_escape_or_comment (c ∷ text) = c == 0x5C || (c == 0x2F && slice_index text 0 == 0x2A) || has_escape_or_comment text

-- a property, in lower case, and its value
abbrev pub Pair : Type 0
Pair = List ℕ × List ℕ

abbrev pub is_colon : ℕ → Bool
is_colon c = c == 0x3A

-- a property in lower case and a value, without white space at their ends
abbrev pub clean_pair : List ℕ → List ℕ → Pair
clean_pair property value = (str_to_ascii_lowercase (trimmed property), trimmed value)

-- the declaration that a piece writes: what stands before its first colon, and what stands behind it; none where it has no
-- colon, a backslash or a comment
unfoldable pub declaration_of : List ℕ → Option Pair
declaration_of text =
    if has_escape_or_comment text || not (list_any is_colon text) then None
    else Some (clean_pair (before_first is_colon text) (after_first is_colon text))

-- the declarations of a style
abbrev pub declarations_of : List ℕ → List Pair
declarations_of style = filter_map declaration_of (pieces Semicolon style)

-- the words of a value: what stands between white space
abbrev pub is_word : List ℕ → Bool
is_word word = not (length word == 0)

abbrev pub words_of : List ℕ → List (List ℕ)
words_of value = filter is_word (pieces Space value)

-- ---- what is read as itself

-- a word without white space, quotes and parentheses
abbrev pub is_plain_word : List ℕ → Bool
is_plain_word word = is_word word && list_all (is_plain Space) word

-- a declaration as a style writes it, and a style of such declarations
abbrev pub declaration_body : Pair → List ℕ
declaration_body pair = pair.0 ++ 0x3A ∷ pair.1

abbrev pub style_text : List Pair → List ℕ
style_text pairs = flat_map (λ pair. declaration_body pair ++ 0x3B ∷ []) pairs

-- what a property's name is made of
abbrev pub is_property_character : ℕ → Bool
is_property_character c = is_between 0x61 0x7A c || c == 0x2D

-- a value that a style can hold: it stays whole, and has no white space at its ends, no backslash and no comment
pub record IsCleanValue (value : List ℕ) : Type 0 where
  pub whole : IsTrue (is_whole Semicolon value)
  pub trim : trimmed value ≡ value
  pub plain : has_escape_or_comment value ≡ false

-- a declaration that a style can write
pub record IsClean (pair : Pair) : Type 0 where
  pub property : IsTrue (list_all is_property_character pair.0)
  pub value : IsCleanValue pair.1

abbrev pub AreClean : List Pair → Type 0
AreClean [] = ⊤
AreClean (pair ∷ pairs) = IsClean pair × AreClean pairs
