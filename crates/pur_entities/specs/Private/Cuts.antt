-- What the parts of a text are in which a reference is looked for; bytes and characters alike.
use Rattle.std.specs.Prelude.{◌≡◌, ◌⊎◌, ℕ, Bool, List, ◌∷◌, ◌++◌, ◌==◌, ◌||◌, not, IsTrue}
use Rattle.std.specs.List.{list_all}
use Rattle.std.specs.Str.{IsUtf8}

-- not an `&`
abbrev pub is_plain : ℕ → Bool
is_plain c = not (c == 0x26)

-- neither an `&` nor a `;`
abbrev pub is_inside : ℕ → Bool
is_inside c = not (c == 0x26 || c == 0x3B)

-- an `&` comes before any `;`
pub record IsCutOff (text : List ℕ) : Type 0 where
  pub before : List ℕ
  pub behind : List ℕ
  pub text_is : text ≡ before ++ 0x26 ∷ behind
  pub inside : IsTrue (list_all is_inside before)
  pub before_is_text : IsUtf8 before
  pub behind_is_text : IsUtf8 behind

-- no `;` ends a reference's body that begins the text
abbrev pub HasNoBody : List ℕ → Type 0
HasNoBody text = IsCutOff text ⊎ IsTrue (list_all is_inside text)
