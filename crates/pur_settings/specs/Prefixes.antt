-- The texts that may stand in front of ids (HTML 4.01, section 6.2, ID and NAME).
use Rattle.std.specs.Prelude.{ℕ, ◌==◌, ◌||◌, ◌&&◌, nat_le, Bool, true, List, [], ◌∷◌, length}
use Rattle.std.specs.List.{list_all}
use Rattle.pur_text.specs.Characters.{is_between}

-- a letter of ASCII
abbrev pub is_letter : ℕ → Bool
is_letter b = is_between 0x41 0x5A b || is_between 0x61 0x7A b

-- a letter, a digit, or one of `-_.:`
abbrev pub is_id_byte : ℕ → Bool
is_id_byte b = (is_letter b || is_between 0x30 0x39 b) || b == 0x2D || b == 0x5F || b == 0x2E || b == 0x3A

-- nothing, or a letter and behind it such bytes alone
abbrev pub begins_an_id : List ℕ → Bool
begins_an_id [] = true
begins_an_id (first ∷ behind) = is_letter first && list_all is_id_byte behind

-- what may stand in front of ids: at most 64 such bytes
abbrev pub is_id_prefix : List ℕ → Bool
is_id_prefix text = nat_le (length text) 64 && begins_an_id text
