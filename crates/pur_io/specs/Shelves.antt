use Rattle.std.specs.Prelude.{ℕ, ◌-◌, min, Bool, not, ◌||◌, List, length, Option}
use Rattle.pur_io.specs.Faults.{one_more, is_failing}
use Rattle.pur_io.specs.Texts.{Name, text_chosen, is_named, is_chosen}

-- a shelf in memory as its caller sees it: its texts, the numbers of the calls that are to fail, the
-- most bytes that one call moves, the number of its last call, its count of faults, the name chosen
-- last, the count of faults as it was chosen, and the place in its text
pub record MemShelfState : Type 0 where
  pub texts : List (Name × List ℕ)
  pub failing : List ℕ
  pub most : ℕ
  pub number : ℕ
  pub faults : ℕ
  pub chosen : Option Name
  pub mark : ℕ
  pub place : ℕ

-- whether the next call of a shelf in memory fails, where it chooses this name: its number is in the
-- list, or no text has the name
abbrev pub choice_fails : MemShelfState → Name → Bool
choice_fails shelf name = is_failing shelf.failing (one_more shelf.number) || not (is_named shelf.texts name)

-- whether the next call of a shelf in memory fails, where it reads: its number is in the list, or the
-- text chosen isn't there, or nothing was chosen
abbrev pub read_fails : MemShelfState → Bool
read_fails shelf = is_failing shelf.failing (one_more shelf.number) || not (is_chosen shelf.texts shelf.chosen)

-- how many bytes of a text are left behind a place
abbrev pub left_of : List ℕ → ℕ → ℕ
left_of text place = length text - place

-- how many bytes a read into a buffer of this length gives, where it doesn't fail
abbrev pub read_count : MemShelfState → ℕ → ℕ
read_count shelf len = min (left_of (text_chosen shelf.texts shelf.chosen) shelf.place) (min len shelf.most)

-- a shelf in memory that never fails: its texts, the name chosen last, and the place in its text
pub record SureShelfState : Type 0 where
  pub texts : List (Name × List ℕ)
  pub chosen : Option Name
  pub place : ℕ

-- a shelf over the real world as its caller sees it: the file that was opened last, if it is the one chosen; the input; its
-- count of faults, the name chosen last, whether that opened something to read from, and the count of faults as it was chosen
pub record FileShelfState (I F : Type 0) : Type 0 where
  pub file : Option F
  pub input : I
  pub faults : ℕ
  pub chosen : Option Name
  pub is_readable : Bool
  pub mark : ℕ
