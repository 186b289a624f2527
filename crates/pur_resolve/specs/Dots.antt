-- Paths without dot segments (RFC 3986, section 5.2.4), on the list of a path's segments. A path behind an authority is
-- empty or segments with a slash in front of each (section 3.3, path-abempty).
use Rattle.std.specs.Prelude.{ℕ, ◌+◌, ◌-◌, ◌==◌, ◌||◌, Bool, false, if◌then◌else◌, List, [], ◌∷◌, ◌++◌, drop, codes}
use Rattle.std.specs.List.{slice_split}
use Rattle.std.specs.Str.{bytes_eq}

-- a text cut at its slashes
abbrev pub pieces : List ℕ → List (List ℕ)
pieces text = slice_split (λ b. b == 0x2F) text

-- the segments of a path that is empty or begins with a slash
abbrev pub segments : List ℕ → List (List ℕ)
segments path = drop 1 (pieces path)

-- the path of segments
unfoldable pub path_of : List (List ℕ) → List ℕ
path_of [] = []
path_of (segment ∷ behind) = 0x2F ∷ (segment ++ path_of behind)

-- `.` is here, and `..` is one up
abbrev pub is_here : List ℕ → Bool
is_here segment = bytes_eq segment (codes ".")

abbrev pub is_up : List ℕ → Bool
is_up segment = bytes_eq segment (codes "..")

abbrev pub is_dotted : List ℕ → Bool
is_dotted segment = is_here segment || is_up segment

-- which of some segments stay, and how many of those in front of them each `..` among them that found none still takes
-- away
pub record Settled : Type 0 where
  pub taken : ℕ
  pub stays : List (List ℕ)

-- a segment in front of others, read from the end of the path: `.` goes, `..` takes one away, and any other goes if one is
-- to be taken, or stays
unfoldable pub settled_with : List ℕ → Settled → Settled
settled_with segment behind =
    if is_here segment then behind
    else if is_up segment then record { taken = behind.taken + 1; stays = behind.stays }
    else if behind.taken == 0 then record { taken = 0; stays = segment ∷ behind.stays }
    else record { taken = behind.taken - 1; stays = behind.stays }

-- segments without the dot segments; a dot segment at the end leaves its slash, an empty segment
unfoldable pub settled : Bool → List (List ℕ) → Settled
settled dotted [] = record { taken = 0; stays = if dotted then [] ∷ [] else [] }
settled dotted (segment ∷ behind) = settled_with segment (settled (is_dotted segment) behind)

-- the path without dot segments; what `..` takes away above the root is nothing
unfoldable pub without_dots : List ℕ → List ℕ
without_dots path = path_of (settled false (segments path)).stays
