-- What a table is that can stand for the entities when a name is looked up in it.
use Rattle.std.specs.Prelude.{Bool, true, List, [], ◌∷◌, ◌&&◌, nat_eq, Some}
use Rattle.std.specs.Cmp.Lexicographic.{slice_cmp}
use Rattle.std.specs.List.{list_all, list_any}
use Rattle.std.specs.Option.{option_eq}
use Rattle.std.specs.Ordering.{nat_cmp, is_lt}
use Rattle.std.specs.Str.{bytes_eq}
use Rattle.pur_entities.specs.Entities.{Entity, entities, named_character}

-- each name stands before the next in the order of their bytes
abbrev pub is_rising : List Entity → Bool
is_rising [] = true
is_rising (row ∷ []) = true
is_rising (row ∷ next ∷ more) = is_lt (slice_cmp nat_cmp row.0 next.0) && is_rising (next ∷ more)

-- each row has its name's character
abbrev pub is_right : List Entity → Bool
is_right table = list_all (λ row. option_eq nat_eq (named_character row.0) (Some row.1)) table

-- each entity has a row
abbrev pub is_whole : List Entity → Bool
is_whole table = list_all (λ entity. list_any (λ row. bytes_eq row.0 entity.0) table) entities
