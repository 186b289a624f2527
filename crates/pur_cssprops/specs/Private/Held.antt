-- The declarations that are kept, as a map from the names of properties to values; both as bytes.
use Rattle.std.specs.Prelude.{ℕ, List, [], ◌∷◌, map, Option, Some, None, String, string_bytes}
use Rattle.std.specs.Borrow.{Bor}
use Rattle.std.specs.Str.{bytes_eq, encode_utf8_all}
use Rattle.std.specs.declared.alloc.Global.{Global}
use Rattle.indexmap.specs.IndexMap.{IndexMap, insert_entry}
use Rattle.pur_csstok.specs.Declarations.{Pair, style_text}
use Rattle.pur_names.specs.Properties.{prop_name}
use Rattle.pur_cssprops.specs.Styles.{Kept}

-- a declaration that is kept, by the name of its property
abbrev pub named : Kept → Pair
named kept = (prop_name kept.0, encode_utf8_all kept.1)

-- the declarations that a map holds
abbrev pub entry_held : Bor (List ℕ) × String Global → Pair
entry_held entry = (entry.0.now, string_bytes entry.1)

abbrev pub held : {S : Type 0} → IndexMap (Bor (List ℕ)) (String Global) S → List Pair
held values = map entry_held values.entries

-- with one more: a property that is there keeps its place and takes the value, and another goes last
abbrev pub with_kept : List Pair → Kept → List Pair
with_kept pairs kept = insert_entry bytes_eq pairs (prop_name kept.0) (encode_utf8_all kept.1)

-- with one more, if there is one
abbrev pub with_one : List Pair → Option Kept → List Pair
with_one pairs None = pairs
with_one pairs (Some kept) = with_kept pairs kept

-- with more, one after another
abbrev pub with_all : List Pair → List Kept → List Pair
with_all pairs [] = pairs
with_all pairs (kept ∷ more) = with_all (with_kept pairs kept) more

-- the text of declarations, if there are any
unfoldable pub written : List Pair → Option (List ℕ)
written [] = None
written (pair ∷ pairs) = Some (style_text (pair ∷ pairs))
