-- How the bytes of an input become a text: three functions on whole lists, one after the other.
use Rattle.std.specs.Prelude.{ℕ, zero, suc, ◌-◌, ◌==◌, if◌then◌else◌, List, [], ◌∷◌, ◌++◌, filter, slice_index, Option, Some, None}
use Rattle.bstr.specs.Utf8.{decoded}
use Rattle.pur_text.specs.Characters.{is_allowed}

-- the character, where there is one
abbrev pub character_list : Option ℕ → List ℕ
character_list None = []
character_list (Some c) = c ∷ []

-- how many bytes a sequence of this size takes behind its first, where it is a character's; else the first alone is dropped
abbrev pub bytes_behind_first : Option ℕ → ℕ → ℕ
bytes_behind_first None size = 0
bytes_behind_first (Some c) size = size - 1

-- the characters of the bytes behind the first n: those of each well-formed UTF-8 sequence (Unicode, Table 3-7), from left to
-- right; a byte with which none begins has no character
unfoldable pub chars_behind : ℕ → List ℕ → List ℕ
chars_behind n [] = []
chars_behind (suc n) (b ∷ bytes) = chars_behind n bytes
chars_behind zero (b ∷ bytes) =
    let front = decoded (b ∷ bytes) in
    character_list front.char ++ chars_behind (bytes_behind_first front.char front.size) bytes

-- the characters of the bytes
abbrev pub chars_of : List ℕ → List ℕ
chars_of bytes = chars_behind 0 bytes

-- what stands for a character with these behind it: nothing for a CR before an LF, an LF for any other CR
abbrev pub line_feed_for : ℕ → List ℕ → List ℕ
line_feed_for c behind = if c == 0xD then (if slice_index behind 0 == 0xA then [] else 0xA ∷ []) else c ∷ []

-- the characters with one LF for each pair CR LF, and for each CR that no LF follows (XML 1.0, section 2.11)
unfoldable pub with_line_feeds : List ℕ → List ℕ
with_line_feeds [] = []
with_line_feeds (c ∷ behind) = line_feed_for c behind ++ with_line_feeds behind

-- the text that the bytes are cleaned to: their characters, with line feeds for line ends, those that are allowed
unfoldable pub cleaned : List ℕ → List ℕ
cleaned bytes = filter is_allowed (with_line_feeds (chars_of bytes))
