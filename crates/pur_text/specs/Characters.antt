-- Sets of characters, as tests of a character's code.
use Rattle.std.specs.Prelude.{ℕ, Bool, ◌==◌, ◌||◌, ◌&&◌, nat_le, List}
use Rattle.std.specs.List.{list_all}

-- the code lies between two others, these included
abbrev pub is_between : ℕ → ℕ → ℕ → Bool
is_between low high c = nat_le low c && nat_le c high

-- the characters that a filtered text may have: those of XML 1.0, section 2.2, but for CR (which is a line end) and the
-- controls U+007F to U+009F
abbrev pub is_allowed : ℕ → Bool
is_allowed c =
    c == 0x9 || c == 0xA || is_between 0x20 0x7E c || is_between 0xA0 0xD7FF c || is_between 0xE000 0xFFFD c
    || is_between 0x10000 0x10FFFF c

-- white space: the characters of XML 1.0, section 2.3, but for CR
abbrev pub is_space : ℕ → Bool
is_space c = c == 0x20 || c == 0x9 || c == 0xA

-- a text is white space alone
abbrev pub is_blank : List ℕ → Bool
is_blank text = list_all is_space text
