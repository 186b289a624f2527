-- Characters as they are written in a value or in a text.
use Rattle.std.specs.Prelude.{ℕ, ◌≡◌, ◌==◌, ◌&&◌, not, Bool, true, false, List}
use Rattle.std.specs.List.{list_all, flat_map}
use Rattle.pur_text.specs.Characters.{is_allowed}
use Rattle.pur_text.specs.Escapes.{escape}
use Rattle.pur_tree.specs.Spelling.{escape_in_value}

-- a character as it is written in a value, or else in a text
abbrev pub escape_where : Bool → ℕ → List ℕ
escape_where true = escape_in_value
escape_where false = escape

-- characters as they are written there
abbrev pub written_where : Bool → List ℕ → List ℕ
written_where in_value text = flat_map (escape_where in_value) text

-- a character that stands for itself there
abbrev pub is_plain : Bool → ℕ → Bool
is_plain in_value c = is_allowed c && (not (c == 0x26) && (not (c == 0x3C) && (not (c == 0x3E) && not (in_value && c == 0x22))))

-- allowed characters are written so
pub record IsWritten (in_value : Bool) (written : List ℕ) : Type 0 where
  pub text : List ℕ
  pub allowed : list_all is_allowed text ≡ true
  pub is : written_where in_value text ≡ written
