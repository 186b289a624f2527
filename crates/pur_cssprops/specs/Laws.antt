-- What holds of all forms of values, and of styles.
use Rattle.std.specs.Prelude.{◌≡◌, ℕ, ◌==◌, ◌&&◌, ◌||◌, not, Bool, List, Some, IsTrue, IsUtf8}
use Rattle.std.specs.List.{list_all}
use Rattle.std.specs.Str.{chars}
use Rattle.pur_text.specs.Characters.{is_allowed, is_between}
use Rattle.pur_csstok.specs.Declarations.{Pair, AreClean, style_text}
use Rattle.pur_settings.specs.Rules.{Rules}
use Rattle.pur_uripolicy.specs.HostRules.{PlainHostRule}
use Rattle.pur_cssprops.specs.Forms.{word_read, value_read}
use Rattle.pur_cssprops.specs.Styles.{style_read}
use Rattle.pur_cssprops.specs.declared.forms.ValueForm.{ValueForm}
use Rattle.pur_cssprops.specs.declared.forms.WordForm.{WordForm}

-- what the characters of a text are read as is read as itself
abbrev pub ReadAsItself : Type 0
ReadAsItself =
    (rules : Rules) (rule : PlainHostRule) (form : ValueForm) (raw output : List ℕ) → IsUtf8 raw
    → value_read rules rule form (chars raw) ≡ Some output → value_read rules rule form output ≡ Some output

-- no text has both forms
abbrev pub NeverBoth : WordForm → WordForm → Type 0
NeverBoth one other = (text first second : List ℕ) → word_read one text ≡ Some first → word_read other text ≡ Some second → ⊥

-- what the characters of a text are read as, as a style, is read as itself
abbrev pub StyleReadAsItself : Type 0
StyleReadAsItself =
    (rules : Rules) (rule : PlainHostRule) (raw output : List ℕ) → IsUtf8 raw
    → style_read rules rule (chars raw) ≡ Some output → style_read rules rule output ≡ Some output

-- what a style is read as has allowed characters alone
abbrev pub StyleAllowed : Type 0
StyleAllowed =
    (rules : Rules) (rule : PlainHostRule) (raw output : List ℕ) → style_read rules rule raw ≡ Some output
    → IsTrue (list_all is_allowed output)

-- what a style is written with: printable ASCII, but for `<`, `>` and braces
abbrev pub is_style_character : ℕ → Bool
is_style_character c = is_between 0x20 0x7E c && not (c == 0x3C || c == 0x3E || c == 0x7B || c == 0x7D)

-- a style of clean declarations, written with such characters
pub record IsCleanStyle (style : List ℕ) : Type 0 where
  pub pairs : List Pair
  pub clean : AreClean pairs
  pub written : style_text pairs ≡ style
  pub characters : IsTrue (list_all is_style_character style)

-- what the characters of a text are read as, as a style, is one
abbrev pub StyleClean : Type 0
StyleClean =
    (rules : Rules) (rule : PlainHostRule) (raw output : List ℕ) → IsUtf8 raw
    → style_read rules rule (chars raw) ≡ Some output → IsCleanStyle output
