-- Places where a text is cut, in bytes.
use Rattle.std.specs.Prelude.{◌≡◌, ◌<◌, ◌≤◌, ℕ, Bool, true, false, List, length, drop, nat_lt, IsTrue}
use Rattle.std.specs.List.{list_all}
use Rattle.pur_lexer.specs.declared.places.Stop.{Stop}
use Rattle.pur_lexer.specs.declared.places.Stop.TheVariants.{TagName, AttributeName, Gap, Space, BareValue}
use Rattle.pur_lexer.specs.Tags.{ends_tag_name, ends_attribute_name, ends_gap, ends_space, ends_bare_value}

-- the test for what ends a run
abbrev pub stops_at : Stop → ℕ → Bool
stops_at TagName c = ends_tag_name c
stops_at AttributeName c = ends_attribute_name c
stops_at Gap c = ends_gap c
stops_at Space c = ends_space c
stops_at BareValue c = ends_bare_value c

-- the first place of a list where what follows passes the test, or its end where there is none
pub record IsFirstPlace (test : List ℕ → Bool) (bytes : List ℕ) (place : ℕ) : Type 0 where
  pub within : place ≤ length bytes
  pub before : (k : ℕ) → k < place → test (drop k bytes) ≡ false
  pub found : place < length bytes → test (drop place bytes) ≡ true

-- one or more ASCII characters
pub record IsMark (mark : List ℕ) : Type 0 where
  pub some : 0 < length mark
  pub ascii : IsTrue (list_all (λ c. nat_lt c 128) mark)
