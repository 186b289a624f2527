-- Font families (CSS 2.1, section 15.3).
use Rattle.std.specs.Prelude.{ℕ, ◌==◌, ◌&&◌, ◌||◌, not, Bool, if◌then◌else◌, List, [], ◌∷◌, length, codes, Option, Some, None}
use Rattle.std.specs.List.{list_all, filter_map, join_with_byte}
use Rattle.std.specs.Option.{option_map_or, option_or}
use Rattle.std.specs.Str.{str_to_ascii_lowercase}
use Rattle.pur_text.specs.Characters.{is_space, is_between}
use Rattle.pur_text.specs.Trimming.{trimmed}
use Rattle.pur_csstok.specs.Names.{is_one_of}
use Rattle.pur_csstok.specs.Numbers.{is_digit}
use Rattle.pur_csstok.specs.Cuts.{pieces}
use Rattle.pur_csstok.specs.Declarations.{words_of}
use Rattle.pur_csstok.specs.Ends.{between, in_quotes}
use Rattle.pur_csstok.specs.declared.cuts.Separator.TheVariants.{Comma}

-- what a name is made of, and the white space in it
abbrev pub is_name_character : ℕ → Bool
is_name_character c = is_space c || is_between 0x61 0x7A c || is_between 0x41 0x5A c || is_digit c || c == 0x2D || c == 0x5F

-- words in quotes, with one space between them
abbrev pub quoted : List (List ℕ) → List ℕ
quoted words = in_quotes 0x27 (join_with_byte 0x20 words)

-- the family with this name, which has a word at least
unfoldable pub name_read : List ℕ → Option (List ℕ)
name_read name =
    if list_all is_name_character name && not (length (words_of name) == 0) then Some (quoted (words_of name)) else None

-- the generic families
abbrev pub generics : List (List ℕ)
generics = codes "serif" ∷ codes "sans-serif" ∷ codes "cursive" ∷ codes "fantasy" ∷ codes "monospace" ∷ []

-- the family of a part without quotes: a generic one in letters of either case, or a name
unfoldable pub bare_read : List ℕ → Option (List ℕ)
bare_read text =
    let lowered = str_to_ascii_lowercase text in
    if is_one_of generics lowered then Some lowered else name_read text

-- what stands in quotes of either kind
abbrev pub unquoted : List ℕ → Option (List ℕ)
unquoted text = option_or (between 0x22 text) (between 0x27 text)

-- the family of a part
unfoldable pub family_read : List ℕ → Option (List ℕ)
family_read part = option_map_or name_read (unquoted (trimmed part)) (bare_read (trimmed part))

-- the families of the parts that have one
abbrev pub families_kept : List ℕ → List (List ℕ)
families_kept text = filter_map family_read (pieces Comma text)

abbrev pub families_joined : List (List ℕ) → Option (List ℕ)
families_joined families = if length families == 0 then None else Some (join_with_byte 0x2C families)

-- the list of families that a text writes
abbrev pub families_read : List ℕ → Option (List ℕ)
families_read text = families_joined (families_kept text)
