-- Addresses in a text (HTML Purifier's injector of links, in outline; RFC 3986, sections 2.2, 2.3 and 3.1, for the characters
-- and the schemes).
use Rattle.std.specs.Prelude.{ℕ, suc, ◌-◌, ◌==◌, Bool, false, not, ◌&&◌, ◌||◌, List, [], ◌∷◌, length, take, drop, nat_eq, nat_lt, if◌then◌else◌, codes}
use Rattle.std.specs.Char.{is_ascii_alphanumeric}
use Rattle.std.specs.List.{list_any, starts_with, suffix_len}

-- the characters of which an address is made: ASCII letters and digits, and these marks
abbrev pub is_address_character : ℕ → Bool
is_address_character c = is_ascii_alphanumeric c || list_any (λ mark. c == mark) (codes "-._~:/?#@!$&*+=%")

-- the marks that end a sentence or a part of one, and no address
abbrev pub is_end_mark : ℕ → Bool
is_end_mark c = list_any (λ mark. c == mark) (codes ".:!?")

-- what an address begins with
abbrev pub prefixes : List (List ℕ)
prefixes = codes "http://" ∷ codes "https://" ∷ codes "ftp://" ∷ []

-- whether a text begins with such a prefix
abbrev pub begins_address : List ℕ → Bool
begins_address text = list_any (λ prefix. starts_with nat_eq text prefix) prefixes

-- whether a text begins with such a prefix, and is longer than it
abbrev pub is_address : List ℕ → Bool
is_address text = list_any (λ prefix. starts_with nat_eq text prefix && nat_lt (length prefix) (length text)) prefixes

-- at which place of a run an address begins: the first where one of the prefixes stands, and no letter or digit in front of it;
-- the length of the run, where there is no such place. `within` says whether a letter or a digit stands in front
abbrev pub address_place : Bool → List ℕ → ℕ
address_place within [] = 0
address_place within (c ∷ run) =
    if not within && begins_address (c ∷ run) then 0 else suc (address_place (is_ascii_alphanumeric c) run)

-- what stands in a run before the place of the address, and from there on
abbrev pub before_address : List ℕ → List ℕ
before_address run = take (address_place false run) run

abbrev pub from_address : List ℕ → List ℕ
from_address run = drop (address_place false run) run

-- a text without the marks at its end
abbrev pub without_end_marks : List ℕ → List ℕ
without_end_marks text = take (length text - suffix_len is_end_mark text) text

-- and these marks
abbrev pub end_marks_of : List ℕ → List ℕ
end_marks_of text = drop (length text - suffix_len is_end_mark text) text
