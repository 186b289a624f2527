use Rattle.std.specs.Prelude.{◌≡◌, ℕ, ◌<◌, List, length, take, Option}
use Rattle.pur_io.specs.Taken.{taken_more}

-- a sink took a front of a text, and not all of it
pub record TookFront (before after : Option (List ℕ)) (text : List ℕ) : Type 0 where
  pub count : ℕ
  pub short : count < length text
  pub taken : after ≡ taken_more before (take count text)
