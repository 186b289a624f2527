-- Selectors (CSS 2.1, sections 5.2 to 5.6, 5.8.3 and 5.9): of elements, classes and identifiers, with descendants and children.
use Rattle.std.specs.Prelude.{ℕ, ◌+◌, ◌==◌, ◌&&◌, ◌||◌, not, nat_le, nat_lt, Bool, false, if◌then◌else◌, List, [], ◌∷◌, ◌++◌, length, map, filter, codes}
use Rattle.std.specs.List.{list_all, flat_map, slice_split, join_by, join_with_byte}
use Rattle.std.specs.Str.{bytes_eq, str_to_ascii_lowercase}
use Rattle.pur_text.specs.Characters.{is_between, is_space}
use Rattle.pur_settings.specs.Rules.{Rules, permits_name}

-- ---- identifiers

abbrev pub is_letter : ℕ → Bool
is_letter c = is_between 0x41 0x5A c || is_between 0x61 0x7A c

-- a letter, a digit, `-` or `_`
abbrev pub is_name_character : ℕ → Bool
is_name_character c = is_letter c || is_between 0x30 0x39 c || c == 0x2D || c == 0x5F

-- an identifier: a letter, and behind it letters, digits, `-` and `_`
abbrev pub is_identifier : List ℕ → Bool
is_identifier [] = false
is_identifier (first ∷ behind) = is_letter first && list_all is_name_character behind

-- a class: the same, but that it may begin with `_` or `-`
abbrev pub is_class : List ℕ → Bool
is_class [] = false
is_class (first ∷ behind) = (is_letter first || first == 0x5F || first == 0x2D) && list_all is_name_character behind

-- a scope: an identifier of at most 64 characters
abbrev pub is_scope : List ℕ → Bool
is_scope text = is_identifier text && nat_le (length text) 64

-- ---- compounds

-- what begins a part of a compound: `.` and `#`
abbrev pub is_mark : ℕ → Bool
is_mark c = c == 0x2E || c == 0x23

-- a part: its mark, and what stands between that and the next one
abbrev pub Part : Type 0
Part = ℕ × List ℕ

-- a compound: what stands before its first mark, and its parts
pub record Compound : Type 0 where
  pub head : List ℕ
  pub parts : List Part

-- a compound with one more character in front
abbrev pub behind_character : ℕ → Compound → Compound
behind_character c compound =
    if is_mark c then record { head = []; parts = (c, compound.head) ∷ compound.parts }
    else record { head = c ∷ compound.head; parts = compound.parts }

-- a text as a compound
unfoldable pub compound_of : List ℕ → Compound
compound_of [] = record { head = []; parts = [] }
compound_of (c ∷ text) = behind_character c (compound_of text)

-- nothing, `*`, or the name of a permitted element in either case
abbrev pub is_head : Rules → List ℕ → Bool
is_head rules head = length head == 0 || bytes_eq head (codes "*") || permits_name rules (str_to_ascii_lowercase head)

-- `.` and a class, or `#` and an identifier
abbrev pub is_part : Part → Bool
is_part part = if part.0 == 0x2E then is_class part.1 else is_identifier part.1

-- a text that isn't empty is a compound
unfoldable pub is_compound : Rules → List ℕ → Bool
is_compound rules text = let compound = compound_of text in is_head rules compound.head && list_all is_part compound.parts

-- a compound as it is written: its head in lower case, and its parts
abbrev pub part_text : Part → List ℕ
part_text part = part.0 ∷ part.1

unfoldable pub compound_text : List ℕ → List ℕ
compound_text text = let compound = compound_of text in str_to_ascii_lowercase compound.head ++ flat_map part_text compound.parts

-- ---- selectors

abbrev pub is_child : ℕ → Bool
is_child c = c == 0x3E

abbrev pub is_comma : ℕ → Bool
is_comma c = c == 0x2C

abbrev pub is_word : List ℕ → Bool
is_word word = not (length word == 0)

-- the words of a text: what stands between white space
abbrev pub words_of : List ℕ → List (List ℕ)
words_of text = filter is_word (slice_split is_space text)

-- the chains of a selector, which stand between `>`: compounds with white space between them
abbrev pub chains_of : List ℕ → List (List (List ℕ))
chains_of text = map words_of (slice_split is_child text)

-- how many compounds chains have
abbrev pub compound_count : List (List (List ℕ)) → ℕ
compound_count [] = 0
compound_count (chain ∷ chains) = length chain + compound_count chains

-- one or more compounds
abbrev pub is_chain : Rules → List (List ℕ) → Bool
is_chain rules chain = not (length chain == 0) && list_all (is_compound rules) chain

-- the first compound of chains is this one
abbrev pub begins_with_compound : List ℕ → List (List (List ℕ)) → Bool
begins_with_compound wanted [] = false
begins_with_compound wanted ([] ∷ chains) = false
begins_with_compound wanted ((word ∷ chain) ∷ chains) = bytes_eq word wanted

-- the compound that a sheet is kept to: `#` and the scope
abbrev pub scope_compound : List ℕ → List ℕ
scope_compound scope = 0x23 ∷ scope

-- a selector that begins with that compound and has more of them needs no other in front
abbrev pub is_scoped : List ℕ → List (List (List ℕ)) → Bool
is_scoped scope chains = begins_with_compound (scope_compound scope) chains && nat_lt 1 (compound_count chains)

-- a selector has at most 16 compounds, with the one in front of it
abbrev pub is_short : List ℕ → List (List (List ℕ)) → Bool
is_short scope chains = nat_le (compound_count chains + (if is_scoped scope chains then 0 else 1)) 16

-- a text is a selector
unfoldable pub is_selector : Rules → List ℕ → List ℕ → Bool
is_selector rules scope text = list_all (is_chain rules) (chains_of text) && is_short scope (chains_of text)

-- chains as they are written
abbrev pub chain_text : List (List ℕ) → List ℕ
chain_text chain = join_with_byte 0x20 (map compound_text chain)

abbrev pub chains_text : List (List (List ℕ)) → List ℕ
chains_text chains = join_by chain_text (codes " > ") chains

-- a selector as it is written, with the scope in front of it where it needs it
unfoldable pub selector_text : List ℕ → List ℕ → List ℕ
selector_text scope text =
    (if is_scoped scope (chains_of text) then [] else scope_compound scope ++ 0x20 ∷ []) ++ chains_text (chains_of text)

-- ---- preludes

-- the selectors of a prelude, which stand between commas
abbrev pub selectors_of : List ℕ → List (List ℕ)
selectors_of prelude = slice_split is_comma prelude

abbrev pub are_selectors : Rules → List ℕ → List ℕ → Bool
are_selectors rules scope prelude = list_all (is_selector rules scope) (selectors_of prelude)

abbrev pub selectors_text : List ℕ → List ℕ → List ℕ
selectors_text scope prelude = join_by (selector_text scope) (codes ", ") (selectors_of prelude)
