-- What stored pairs hold, as lists of attributes.
use Rattle.std.proofs.Common.{◌≡◌, ℕ, zero, suc, ◌+◌, ◌<◌, nat_lt, Bool, true, false, not, cond, if◌then◌else◌, List, [], ◌∷◌, length, get_or, set, remove, slice_get, slice_index_or, map, position, Option, Some, None, IfSome, IfNone, refl, sym, ap, ◌∙◌, arith}
use Rattle.std.specs.List.{position_or_len, refill}
use Rattle.std.specs.Option.{option_map}
use Rattle.std.proofs.lemmas.Grind.{common_steps}
use Rattle.pur_attrlist.specs.Attributes.{Attribute, is_same_text, names_of, values_of, has_name}
use Rattle.pur_attrlist.specs.Private.Places.{with_value_at, IsPlaceOf, place_of}
use Rattle.pur_attrlist.specs.Private.Stored.{text_in, attribute_in}
use Rattle.pur_attrlist.specs.declared.stored_pair.StoredPair.{StoredPair}
use Rattle.pur_attrlist.specs.declared.stored_text.StoredText.{StoredText}
use Rattle.pur_attrlist.proofs.TextLaws.{same_text}
use Rattle.pur_attrlist.proofs.AttributeLaws.{both_false}

-- the names and the values at a place
pub pairs-told : (pairs : List StoredPair) (place : ℕ) (pair : StoredPair) → place < length (map attribute_in pairs)
    → (slice_get (names_of (map attribute_in pairs)) place ≡ Some (text_in (get_or pairs place pair).name)) × (slice_get (values_of (map attribute_in pairs)) place ≡ Some (text_in (get_or pairs place pair).value))
pairs-told [] place pair within = absurd (omega arith)
pairs-told (first ∷ pairs) zero pair within = (refl, refl)
pairs-told (first ∷ pairs) (suc place) pair within = pairs-told pairs place pair (omega arith)

-- a value that is written
pub pairs-set : (pairs : List StoredPair) (place : ℕ) (pair : StoredPair) (value : StoredText)
    → map attribute_in (set pairs place (record { name = (get_or pairs place pair).name; value = value })) ≡ with_value_at (map attribute_in pairs) place (text_in value)
pairs-set [] place pair value = refl
pairs-set (first ∷ pairs) zero pair value = refl
pairs-set (first ∷ pairs) (suc place) pair value = ap (λ (l : List Attribute). attribute_in first ∷ l) (pairs-set pairs place pair value)

refill-set : (pairs : List StoredPair) (place : ℕ) (pair : StoredPair) → refill (length pairs) pairs (set pairs place pair) ≡ set pairs place pair
refill-set pairs place pair = grind (arith, common_steps)

pub pairs-written : (pairs written : List StoredPair) (place : ℕ) (pair : StoredPair) (value : StoredText) → written ≡ pairs
    → map attribute_in (refill (length pairs) pairs (set written place (record { name = (slice_index_or written place pair).name; value = value }))) ≡ with_value_at (map attribute_in pairs) place (text_in value)
pairs-written pairs written place pair value same =
    rw (same, refill-set pairs place (record { name = (get_or pairs place pair).name; value = value })) (pairs-set pairs place pair value)

-- a pair that is taken out
pub map-remove : {X Y : Type 0} (f : X → Y) (xs : List X) (place : ℕ) → map f (remove xs place) ≡ remove (map f xs) place
map-remove f [] zero = refl
map-remove f [] (suc place) = refl
map-remove f (x ∷ xs) zero = refl
map-remove {X} {Y} f (x ∷ xs) (suc place) = ap (λ (l : List Y). f x ∷ l) (map-remove f xs place)

-- a search among the names

module _ (name : List ℕ) where
  step : (b : Bool) (p n : ℕ)
      → cond (nat_lt (cond (not b) (1 + p) 0) (suc n)) (Some (cond (not b) (1 + p) 0)) None ≡ (if b then Some 0 else option_map suc (cond (nat_lt p n) (Some p) None))
  step true p n = grind (arith, common_steps)
  step false p n = grind (arith, common_steps)

  -- a search along the pairs
  pub position-place_of : (pairs : List StoredPair) → position (λ (pair : StoredPair). is_same_text name (text_in pair.name)) pairs ≡ place_of (names_of (map attribute_in pairs)) name
  position-place_of [] = refl
  position-place_of (pair ∷ pairs) =
      step (is_same_text name (text_in pair.name)) (position_or_len (λ (pair : StoredPair). is_same_text name (text_in pair.name)) pairs) (length pairs)
      ∙ ap (λ (r : Option ℕ). if is_same_text name (text_in pair.name) then Some 0 else option_map suc r) (position-place_of pairs)

  found : (pairs : List Attribute) (place : ℕ) → place_of (names_of pairs) name ≡ Some place → IsPlaceOf pairs name place
  found [] place e = cc
  found (pair ∷ pairs) place e = by (is_same_text name pair.0) refl (place_of (names_of pairs) name) (found pairs) e
    where
      by : (b : Bool) → is_same_text name pair.0 ≡ b → (r : Option ℕ) → ((k : ℕ) → r ≡ Some k → IsPlaceOf pairs name k)
          → (if b then Some 0 else option_map suc r) ≡ Some place → IsPlaceOf (pair ∷ pairs) name place
      by true here r rest e =
          let front : 0 ≡ place = cc in
          rw (← front) (record { within = omega arith; named = ap (λ (text : List ℕ). Some text) (sym (same_text name pair.0 here)) })
      by false here None rest e = cc
      by false here (Some k) rest e =
          let later : suc k ≡ place = cc in
          rw (← later) (record { within = omega (arith, (rest k refl).within); named = (rest k refl).named })

  absent : (pairs : List Attribute) → place_of (names_of pairs) name ≡ None → has_name pairs name ≡ false
  absent [] e = refl
  absent (pair ∷ pairs) e = by (is_same_text name pair.0) refl (place_of (names_of pairs) name) (absent pairs) e
    where
      by : (b : Bool) → is_same_text name pair.0 ≡ b → (r : Option ℕ) → (r ≡ None → has_name pairs name ≡ false)
          → (if b then Some 0 else option_map suc r) ≡ None → has_name (pair ∷ pairs) name ≡ false
      by true here r rest e = cc
      by false here None rest e = rw here (rest refl)
      by false here (Some k) rest e = cc

  -- a name that no attribute has is found nowhere
  pub place_of-absent : (pairs : List Attribute) → has_name pairs name ≡ false → place_of (names_of pairs) name ≡ None
  place_of-absent [] e = refl
  place_of-absent (pair ∷ pairs) e =
      let none = both_false (is_same_text name pair.0) (has_name pairs name) e in
      rw (none.0, place_of-absent pairs none.1) refl

  -- the answer of a search is a place of the name, or there is none
  pub IsPlaceOf-place_of : (pairs : List Attribute) (r : Option ℕ) → r ≡ place_of (names_of pairs) name → IfSome r (IsPlaceOf pairs name)
  IsPlaceOf-place_of pairs None e = tt
  IsPlaceOf-place_of pairs (Some place) e = found pairs place (sym e)

  pub absent-place_of : (pairs : List Attribute) (r : Option ℕ) → r ≡ place_of (names_of pairs) name → IfNone r (has_name pairs name ≡ false)
  absent-place_of pairs None e = absent pairs (sym e)
  absent-place_of pairs (Some place) e = tt
