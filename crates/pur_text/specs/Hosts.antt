-- Canonical hosts: names, and IPv6 addresses in brackets (RFC 3986, section 3.2.2).
use Rattle.std.specs.Prelude.{ℕ, suc, ◌+◌, ◌-◌, ◌==◌, ◌&&◌, ◌||◌, not, nat_le, Bool, false, if◌then◌else◌, List, [], ◌∷◌, length, take, drop, slice_index, codes, Option, Some, None, option_map}
use Rattle.std.specs.List.{list_all, slice_split}
use Rattle.std.specs.Option.{option_map_or}
use Rattle.std.specs.Str.Parse.{digits_value}
use Rattle.bstr.specs.Find.{first_of, matches}
use Rattle.pur_text.specs.Characters.{is_between}

abbrev pub is_digit : ℕ → Bool
is_digit b = is_between 0x30 0x39 b

-- a letter a to z or a digit
abbrev pub is_letter_or_digit : ℕ → Bool
is_letter_or_digit b = is_between 0x61 0x7A b || is_digit b

-- these, `-` and `_`
abbrev pub is_label_byte : ℕ → Bool
is_label_byte b = is_letter_or_digit b || b == 0x2D || b == 0x5F

-- a label has such bytes alone, and begins and ends with a letter or digit; so it isn't empty
abbrev pub is_label : List ℕ → Bool
is_label label =
    is_letter_or_digit (slice_index label 0) && is_letter_or_digit (slice_index label (length label - 1))
    && list_all is_label_byte label

-- the pieces between the dots, and between the colons
abbrev pub between_dots : List ℕ → List (List ℕ)
between_dots text = slice_split (λ b. b == 0x2E) text

abbrev pub between_colons : List ℕ → List (List ℕ)
between_colons text = slice_split (λ b. b == 0x3A) text

-- a name: one or more labels joined by dots
abbrev pub is_host_name : List ℕ → Bool
is_host_name text = list_all is_label (between_dots text)

-- a number 0 to 255 without leading zeros (dec-octet)
abbrev pub is_octet : List ℕ → Bool
is_octet piece =
    list_all is_digit piece && is_between 1 3 (length piece) && nat_le (digits_value 10 piece) 255
    && (length piece == 1 || not (slice_index piece 0 == 0x30))

-- four such numbers joined by dots (IPv4address)
abbrev pub is_ip4_address : List ℕ → Bool
is_ip4_address text = length (between_dots text) == 4 && list_all is_octet (between_dots text)

-- a hexadecimal digit in lower case
abbrev pub is_hex_digit : ℕ → Bool
is_hex_digit b = is_digit b || is_between 0x61 0x66 b

-- one to four hexadecimal digits (h16)
abbrev pub is_group : List ℕ → Bool
is_group piece = is_between 1 4 (length piece) && list_all is_hex_digit piece

-- the groups that the pieces stand for: each piece is a group, but the last may be an IPv4 address, which stands for two
unfoldable pub group_count : List (List ℕ) → Option ℕ
group_count [] = Some 0
group_count (piece ∷ []) = if is_group piece then Some 1 else (if is_ip4_address piece then Some 2 else None)
group_count (piece ∷ next ∷ pieces) = if is_group piece then option_map suc (group_count (next ∷ pieces)) else None

-- the pieces of one side of a `::`, which has none where it is empty
abbrev pub side_pieces : List ℕ → List (List ℕ)
side_pieces text = if length text == 0 then [] else between_colons text

-- where the first `::` stands
abbrev pub gap_place : List ℕ → Option ℕ
gap_place text = first_of (matches text (codes "::") 0)

-- eight groups, with no `::`
abbrev pub is_whole_ip6_address : List ℕ → Bool
is_whole_ip6_address text = option_map_or (λ groups. groups == 8) (group_count (between_colons text)) false

-- at most seven groups before and behind a `::`
abbrev pub is_gapped_ip6_address : List ℕ → List ℕ → Bool
is_gapped_ip6_address before behind =
    list_all is_group (side_pieces before)
    && option_map_or (λ groups. nat_le (length (side_pieces before) + groups) 7) (group_count (side_pieces behind)) false

-- IPv6address with lower-case digits: eight groups joined by colons, or at most seven with one `::` in place of those
-- that lack
abbrev pub is_ip6_address : List ℕ → Bool
is_ip6_address text =
    option_map_or (λ place. is_gapped_ip6_address (take place text) (drop (place + 2) text)) (gap_place text)
    (is_whole_ip6_address text)

-- `[`, an IPv6 address, `]`
abbrev pub is_ip6_literal : List ℕ → Bool
is_ip6_literal text =
    slice_index text 0 == 0x5B && slice_index text (length text - 1) == 0x5D
    && is_ip6_address (take (length text - 2) (drop 1 text))

-- a canonical host: at most 255 bytes, which are a name or an IPv6 literal
unfoldable pub is_host : List ℕ → Bool
is_host text = nat_le (length text) 255 && (is_host_name text || is_ip6_literal text)

-- ---- what hosts are made of

-- the bytes of a name
abbrev pub is_name_byte : ℕ → Bool
is_name_byte b = is_label_byte b || b == 0x2E

-- the bytes of an IPv6 address
abbrev pub is_ip6_byte : ℕ → Bool
is_ip6_byte b = is_hex_digit b || b == 0x3A || b == 0x2E

-- `[`, such bytes, `]`
abbrev pub is_bracketed : List ℕ → Bool
is_bracketed text =
    slice_index text 0 == 0x5B && slice_index text (length text - 1) == 0x5D
    && list_all is_ip6_byte (take (length text - 2) (drop 1 text))
