use Rattle.std.specs.Prelude.{◌≡◌, ℕ, ◌+◌, ◌≤◌, Bool, true, false, not, ◌&&◌, ◌||◌, List, [], ◌∷◌, take, drop, length, Option, Some, None, option_map, String, string_bytes, bytes_eq, if◌then◌else◌, IsTrue}
use Rattle.std.specs.Global.{Vec, Global}

-- the name of a text: the UTF-8 bytes of a name, or none for standard input
abbrev pub Name : Type 0
Name = Option (List ℕ)

-- whether two names are the same
abbrev pub same_name : Name → Name → Bool
same_name None None = true
same_name None (Some _) = false
same_name (Some _) None = false
same_name (Some a) (Some b) = bytes_eq a b

-- the text of a name: the first that is listed under it, or the empty text where none is
abbrev pub text_named : List (Name × List ℕ) → Name → List ℕ
text_named [] name = []
text_named (text ∷ texts) name = if same_name text.0 name then text.1 else text_named texts name

-- whether a text of this name is listed
abbrev pub is_named : List (Name × List ℕ) → Name → Bool
is_named [] name = false
is_named (text ∷ texts) name = same_name text.0 name || is_named texts name

-- the text of the name that was chosen last: the empty text where nothing was chosen yet
abbrev pub text_chosen : List (Name × List ℕ) → Option Name → List ℕ
text_chosen texts None = []
text_chosen texts (Some name) = text_named texts name

-- whether a name was chosen, and a text of it is listed
abbrev pub is_chosen : List (Name × List ℕ) → Option Name → Bool
is_chosen texts None = false
is_chosen texts (Some name) = is_named texts name

-- what reading n bytes into a buffer means: they stand in the text at the place, the place moves on
-- behind them, and there are none exactly at the end of the text
pub record ReadsAt (text : List ℕ) (place next n : ℕ) (into : List ℕ) : Type 0 where
  pub next_place : next ≡ place + n
  pub bytes : take n into ≡ take n (drop place text)
  pub within : n ≤ length (drop place text)
  pub ended : n ≡ 0 → length text ≤ place

-- a name as a shelf's caller writes it, as the UTF-8 bytes of it
abbrev pub plain_name : Option (String Global) → Name
plain_name name = option_map string_bytes name

-- the texts that a shelf in memory is made from, as names and bytes
abbrev pub plain_texts : List (Option (String Global) × Vec ℕ) → List (Name × List ℕ)
plain_texts [] = []
plain_texts (text ∷ texts) = (plain_name text.0, text.1.items) ∷ plain_texts texts

-- whether no text is listed under the name of a later one
abbrev pub are_distinct : List (Name × List ℕ) → Bool
are_distinct [] = true
are_distinct (text ∷ texts) = not (is_named texts text.0) && are_distinct texts

-- no two texts have the same name
abbrev pub HasDistinctNames : List (Name × List ℕ) → Type 0
HasDistinctNames texts = IsTrue (are_distinct texts)
