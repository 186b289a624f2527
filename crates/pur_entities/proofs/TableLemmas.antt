-- A search by halves in a table of the entities finds what the entities say.
use Rattle.std.proofs.Common.{◌≡◌, ℕ, zero, suc, ◌+◌, ◌<◌, ◌≤◌, true, false, List, [], ◌∷◌, length, get_or, Some, None, Err, Bor, refl, sym, ap, subst, ◌∙◌, arith, ⊎_elim, map}
use Rattle.std.specs.Prelude.{Option, nat_eq}
use Rattle.std.specs.Cmp.Lexicographic.{slice_cmp, bytes_decides}
use Rattle.std.specs.List.{list_all, list_any, HoldsAt}
use Rattle.std.specs.List.Sorted.{IsBinarySearchResult, IsNonDecreasingBy}
use Rattle.std.specs.Option.{option_eq}
use Rattle.std.specs.Ordering.{nat_cmp, ordering_index, ordering_reverse, is_lt, is_eq}
use Rattle.std.specs.declared.cmp.Ordering.{Ordering}
use Rattle.std.specs.declared.cmp.Ordering.TheVariants.{Less, Equal, Greater}
use Rattle.std.specs.Str.{bytes_eq}
use Rattle.std.proofs.lemmas.Bool.{cases_Bool, cases_lt, cond-false, and_parts, both_ways}
use Rattle.std.proofs.lemmas.Cmp.{nat_list_cmp_total}
use Rattle.std.proofs.lemmas.List.Sorted.{searchable_from_sorted}
use Rattle.std.proofs.lemmas.Map.Text.{is_eq-slice_cmp}
use Rattle.pur_entities.specs.Entities.{Entity, entities, character_in, named_character}
use Rattle.pur_entities.specs.Private.Tables.{is_rising, is_right, is_whole}

-- a row as the code has it: a borrowed name, and its character
abbrev pub Row : Type 0
Row = Bor (List ℕ) × ℕ

abbrev pub entity_of : Row → Entity
entity_of row = (row.0.now, row.1)

abbrev order : List ℕ → List ℕ → Ordering
order = slice_cmp nat_cmp

-- what stands before isn't behind
not_behind : (a b : List ℕ) → is_lt (order a b) ≡ true → is_lt (order b a) ≡ false
not_behind a b before = by (order a b) before (nat_list_cmp_total.antisymm b a)
  where
    by : (o : Ordering) → is_lt o ≡ true → order b a ≡ ordering_reverse o → is_lt (order b a) ≡ false
    by Less is e = ap is_lt e
    by Equal is e = ap is_lt e
    by Greater is e = absurd (both_ways _ refl is)

-- a rising table is sorted
sorted : (table : List Row) → is_rising (map entity_of table) ≡ true → (k : ℕ) (d : Row) → k + 1 < length table
    → is_lt (order (get_or table (k + 1) d).0.now (get_or table k d).0.now) ≡ false
sorted [] is k d within = absurd (omega arith)
sorted (row ∷ []) is k d within = absurd (omega arith)
sorted (row ∷ next ∷ more) is zero d within = not_behind row.0.now next.0.now (and_parts _ _ is).0
sorted (row ∷ next ∷ more) is (suc k) d within =
    let up : suc k + 1 ≡ suc (k + 1) = omega arith in
    rw up (sorted (next ∷ more) (and_parts _ _ is).1 k d (omega arith))

pub searchable : (table : List Row) (name : List ℕ) → is_rising (map entity_of table) ≡ true
    → IsNonDecreasingBy (λ (row : Row). ordering_index (order row.0.now name)) table
searchable table name is =
    searchable_from_sorted nat_list_cmp_total (λ (row : Row). row.0.now) table name (λ k d _ within. sorted table is k d within)

-- names that compare as equal are equal
same_name : (a b : List ℕ) → order a b ≡ Equal → a ≡ b
same_name a b e = (bytes_decides a b).0 (sym (is_eq-slice_cmp a b) ∙ ap is_eq e)

other_name : (a b : List ℕ) → is_eq (order a b) ≡ false → bytes_eq a b ≡ false
other_name a b e = sym (is_eq-slice_cmp a b) ∙ e

-- the row at a place
row_right : (table : List Row) (place : ℕ) (d : Row) → is_right (map entity_of table) ≡ true → place < length table
    → named_character (get_or table place d).0.now ≡ Some (get_or table place d).1
row_right [] place d all within = absurd (omega arith)
row_right (row ∷ more) zero d all within = same (named_character row.0.now) (and_parts _ _ all).0
  where
    same : (o : Option ℕ) → option_eq nat_eq o (Some row.1) ≡ true → o ≡ Some row.1
    same None is = absurd (both_ways _ refl is)
    same (Some c) is = ap Some (grind (arith, is))
row_right (row ∷ more) (suc place) d all within = row_right more place d (and_parts _ _ all).1 (omega arith)

-- a name that no row has is no entity's
absent_in : (rows list : List Entity) (name : List ℕ) → list_all (λ (entity : Entity). list_any (λ (row : Entity). bytes_eq row.0 entity.0) rows) list ≡ true
    → list_any (λ (row : Entity). bytes_eq row.0 name) rows ≡ false → character_in list name ≡ None
unfolding character_in
absent_in rows [] name whole none = refl
absent_in rows (entity ∷ more) name whole none =
    let both = and_parts _ _ whole in
    ⊎_elim
    (λ (yes : bytes_eq entity.0 name ≡ true).
    let same : entity.0 ≡ name = (bytes_decides entity.0 name).0 yes in
    absurd (both_ways _ none (subst (λ n. list_any (λ (row : Entity). bytes_eq row.0 n) rows ≡ true) same both.0)))
    (λ (no : bytes_eq entity.0 name ≡ false). cond-false _ _ _ no ∙ absent_in rows more name both.1 none)
    (cases_Bool (bytes_eq entity.0 name))

-- no row has the name
none_of : (table : List Row) (name : List ℕ) → ((k : ℕ) (d : Row) → k < length table → is_eq (order (get_or table k d).0.now name) ≡ false)
    → list_any (λ (row : Entity). bytes_eq row.0 name) (map entity_of table) ≡ false
none_of [] name other = refl
none_of (row ∷ more) name other =
    let first : bytes_eq row.0.now name ≡ false = other_name row.0.now name (other 0 row (omega arith)) in
    rw first (none_of more name (λ k d within. other (suc k) d (omega arith)))

pub found_at : (table : List Row) (name : List ℕ) (place : ℕ) → is_right (map entity_of table) ≡ true → place < length table
    → HoldsAt (λ (row : Row). order row.0.now name ≡ Equal) table place → (d : Row) → Some (get_or table place d).1 ≡ named_character name
found_at table name place right within equal d =
    sym (row_right table place d right within) ∙ ap named_character (same_name (get_or table place d).0.now name (equal d))

pub not_found : (table : List Row) (name : List ℕ) (place : ℕ) → is_rising (map entity_of table) ≡ true → is_whole (map entity_of table) ≡ true
    → IsBinarySearchResult (λ (row : Row). order row.0.now name) table (Err place) → None ≡ named_character name
unfolding named_character
not_found table name place rising whole searched =
    let parts = searched (searchable table name rising) in
    let other : (k : ℕ) (d : Row) → k < length table → is_eq (order (get_or table k d).0.now name) ≡ false =
    λ k d within. ⊎_elim
    (λ (low : k < place). ap is_eq (parts.0 k d (omega arith) low))
    (λ (high : place ≤ k). ap is_eq (parts.1 k d high within))
    (cases_lt k place) in
    sym (absent_in (map entity_of table) entities name whole (none_of table name other))
