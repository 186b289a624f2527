-- What a text is cut by.
use Rattle.std.specs.Prelude.{ℕ, ◌==◌, Bool, true, not, ◌&&◌, List, [], ◌∷◌, if◌then◌else◌}
use Rattle.std.specs.List.{list_all}
use Rattle.pur_tree.specs.Nodes.{Nodes, no_nodes, text_first, elem_first}
use Rattle.pur_inject.specs.Addresses.{is_address_character}
use Rattle.pur_inject.specs.Paragraphs.{is_line_feed}
use Rattle.pur_inject.specs.declared.runs.Sort.{Sort}
use Rattle.pur_inject.specs.declared.runs.Sort.TheVariants.{Address, LineFeed}

-- the characters of a sort
abbrev pub is_of : Sort → ℕ → Bool
is_of Address = is_address_character
is_of LineFeed = is_line_feed

-- whether a test says this of a character
abbrev pub says : (ℕ → Bool) → Bool → ℕ → Bool
says test is c = if is then test c else not (test c)

-- a text doesn't begin with a character of which a test says this
abbrev pub is_over : (ℕ → Bool) → Bool → List ℕ → Bool
is_over test is [] = true
is_over test is (c ∷ text) = not (says test is c)

-- a text has no colon
abbrev pub is_colonless : List ℕ → Bool
is_colonless text = list_all (λ c. not (c == 0x3A)) text

-- nor have the nodes' own texts
abbrev pub are_colonless : Nodes → Bool
are_colonless no_nodes = true
are_colonless (text_first s rest) = is_colonless s && are_colonless rest
are_colonless (elem_first e kids rest) = are_colonless rest
