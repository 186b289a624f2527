-- Laws of lists of attributes with distinct names.
use Rattle.std.proofs.Common.{◌≡◌, ℕ, zero, suc, ◌+◌, ◌-◌, ◌^◌, ◌≤◌, min, add-one, Bool, true, false, not, ◌&&◌, ◌||◌, cond, List, [], ◌∷◌, ◌++◌, length, take, drop, remove, slice_get, Option, Some, None, refl, sym, ap, ◌∙◌, arith}
use Rattle.std.proofs.lemmas.List.{append-nil}
use Rattle.std.specs.Str.{chars, IsUtf8}
use Rattle.pur_attrlist.specs.Texts.{byte_count}
use Rattle.pur_attrlist.specs.Attributes.{Attribute, is_same_text, names_of, values_of, has_name, is_distinct, value_of, with_value, with_new, without, first_of_names, weight_of}
use Rattle.pur_attrlist.specs.Private.Places.{with_value_at}
use Rattle.pur_attrlist.proofs.TextLaws.{same_text, is_same_text-refl, is_same_text-sym, byte_count-chars}

pub both_false : (a b : Bool) → (a || b) ≡ false → (a ≡ false) × (b ≡ false)
both_false true b e = cc
both_false false b e = (refl, e)

pub either_true : (a b : Bool) → b ≡ true → (a || b) ≡ true
either_true true b e = refl
either_true false b e = e

pub none_and_all : (a b : Bool) → (not a && b) ≡ true → (a ≡ false) × (b ≡ true)
none_and_all true b e = cc
none_and_all false b e = (refl, e)

pub same_some : (a b : List ℕ) → ◌≡◌ {A = Option (List ℕ)} (Some a) (Some b) → a ≡ b
same_some a b e = cc

-- at the front of a list with distinct names
module _ (pair : Attribute) (pairs : List Attribute) (distinct : is_distinct (pair ∷ pairs) ≡ true) where
  pub first_is_new : has_name pairs pair.0 ≡ false
  first_is_new = (none_and_all (has_name pairs pair.0) (is_distinct pairs) distinct).0

  pub rest_is_distinct : is_distinct pairs ≡ true
  rest_is_distinct = (none_and_all (has_name pairs pair.0) (is_distinct pairs) distinct).1

  pub another_name : (name : List ℕ) → has_name pairs name ≡ true → is_same_text name pair.0 ≡ false
  another_name name there = by (is_same_text name pair.0) refl
    where
      by : (b : Bool) → is_same_text name pair.0 ≡ b → is_same_text name pair.0 ≡ false
      by false e = e
      by true e =
          let here : has_name pairs name ≡ false = ap (has_name pairs) (same_text name pair.0 e) ∙ first_is_new in
          cc

-- the name at a place is in the list
pub has_name-at : (pairs : List Attribute) (name : List ℕ) (place : ℕ) → slice_get (names_of pairs) place ≡ Some name → has_name pairs name ≡ true
has_name-at [] name place e = cc
has_name-at (pair ∷ pairs) name zero e =
    let same : pair.0 ≡ name = same_some pair.0 name e in
    let here : is_same_text name pair.0 ≡ true = ap (is_same_text name) same ∙ is_same_text-refl name in
    rw here refl
has_name-at (pair ∷ pairs) name (suc place) e = either_true (is_same_text name pair.0) (has_name pairs name) (has_name-at pairs name place e)

-- the value at the place of a name is its value
pub value_of-at : (pairs : List Attribute) (name : List ℕ) (place : ℕ) → is_distinct pairs ≡ true → slice_get (names_of pairs) place ≡ Some name → slice_get (values_of pairs) place ≡ value_of pairs name
value_of-at [] name place distinct e = cc
value_of-at (pair ∷ pairs) name zero distinct e =
    let same : pair.0 ≡ name = same_some pair.0 name e in
    let here : is_same_text name pair.0 ≡ true = ap (is_same_text name) same ∙ is_same_text-refl name in
    rw here refl
value_of-at (pair ∷ pairs) name (suc place) distinct e =
    let other = another_name pair pairs distinct name (has_name-at pairs name place e) in
    rw other (value_of-at pairs name place (rest_is_distinct pair pairs distinct) e)

pub value_of-absent : (pairs : List Attribute) (name : List ℕ) → has_name pairs name ≡ false → value_of pairs name ≡ None
value_of-absent [] name absent = refl
value_of-absent (pair ∷ pairs) name absent =
    let none = both_false (is_same_text name pair.0) (has_name pairs name) absent in
    rw none.0 (value_of-absent pairs name none.1)

-- a value written at the place of a name is written for that name
pub with_value_at-is : (pairs : List Attribute) (name : List ℕ) (place : ℕ) (value : List ℕ) → is_distinct pairs ≡ true → slice_get (names_of pairs) place ≡ Some name → with_value_at pairs place value ≡ with_value pairs name value
with_value_at-is [] name place value distinct e = cc
with_value_at-is (pair ∷ pairs) name zero value distinct e =
    let same : pair.0 ≡ name = same_some pair.0 name e in
    let here : is_same_text name pair.0 ≡ true = ap (is_same_text name) same ∙ is_same_text-refl name in
    rw here (ap (λ (first : List ℕ). (first, value) ∷ pairs) same)
with_value_at-is (pair ∷ pairs) name (suc place) value distinct e =
    let other = another_name pair pairs distinct name (has_name-at pairs name place e) in
    rw other (ap (λ (l : List Attribute). pair ∷ l) (with_value_at-is pairs name place value (rest_is_distinct pair pairs distinct) e))

pub with_value-absent : (pairs : List Attribute) (name value : List ℕ) → has_name pairs name ≡ false → with_value pairs name value ≡ pairs ++ (name, value) ∷ []
with_value-absent [] name value absent = refl
with_value-absent (pair ∷ pairs) name value absent =
    let none = both_false (is_same_text name pair.0) (has_name pairs name) absent in
    rw none.0 (ap (λ (l : List Attribute). pair ∷ l) (with_value-absent pairs name value none.1))

pub without-absent : (pairs : List Attribute) (name : List ℕ) → has_name pairs name ≡ false → without pairs name ≡ pairs
without-absent [] name absent = refl
without-absent (pair ∷ pairs) name absent =
    let none = both_false (is_same_text name pair.0) (has_name pairs name) absent in
    rw none.0 (ap (λ (l : List Attribute). pair ∷ l) (without-absent pairs name none.1))

-- the list without the pair at the place of a name is the list without that name
pub remove-at : (pairs : List Attribute) (name : List ℕ) (place : ℕ) → is_distinct pairs ≡ true → slice_get (names_of pairs) place ≡ Some name → remove pairs place ≡ without pairs name
remove-at [] name place distinct e = cc
remove-at (pair ∷ pairs) name zero distinct e =
    let same : pair.0 ≡ name = same_some pair.0 name e in
    let here : is_same_text name pair.0 ≡ true = ap (is_same_text name) same ∙ is_same_text-refl name in
    let absent : has_name pairs name ≡ false = ap (has_name pairs) (sym same) ∙ first_is_new pair pairs distinct in
    rw here (sym (without-absent pairs name absent))
remove-at (pair ∷ pairs) name (suc place) distinct e =
    let other = another_name pair pairs distinct name (has_name-at pairs name place e) in
    rw other (ap (λ (l : List Attribute). pair ∷ l) (remove-at pairs name place (rest_is_distinct pair pairs distinct) e))

pub has_name-without_same : (pairs : List Attribute) (name : List ℕ) → has_name (without pairs name) name ≡ false
has_name-without_same [] name = refl
has_name-without_same (pair ∷ pairs) name = by (is_same_text name pair.0) refl (has_name-without_same pairs name)
  where
    by : (b : Bool) → is_same_text name pair.0 ≡ b → has_name (without pairs name) name ≡ false → has_name (cond (not b) (pair ∷ without pairs name) (without pairs name)) name ≡ false
    by true e rest = rest
    by false e rest = rw e rest

-- a name that is taken out is gone
pub has_name-removed : (pairs : List Attribute) (name : List ℕ) (place : ℕ) → is_distinct pairs ≡ true → slice_get (names_of pairs) place ≡ Some name → has_name (remove pairs place) name ≡ false
has_name-removed pairs name place distinct e = rw (remove-at pairs name place distinct e) (has_name-without_same pairs name)

-- what keeps names distinct

pub has_name-append : (pairs more : List Attribute) (name : List ℕ) → has_name (pairs ++ more) name ≡ (has_name pairs name || has_name more name)
has_name-append [] more name = refl
has_name-append (pair ∷ pairs) more name = by (is_same_text name pair.0) (has_name-append pairs more name)
  where
    by : (b : Bool) → has_name (pairs ++ more) name ≡ (has_name pairs name || has_name more name) → (b || has_name (pairs ++ more) name) ≡ ((b || has_name pairs name) || has_name more name)
    by true rest = refl
    by false rest = rest

pub is_distinct-push : (pairs : List Attribute) (name value : List ℕ) → is_distinct pairs ≡ true → has_name pairs name ≡ false → is_distinct (pairs ++ (name, value) ∷ []) ≡ true
is_distinct-push [] name value distinct absent = refl
is_distinct-push (pair ∷ pairs) name value distinct absent =
    let none = both_false (is_same_text name pair.0) (has_name pairs name) absent in
    let new : has_name (pairs ++ (name, value) ∷ []) pair.0 ≡ false =
    has_name-append pairs ((name, value) ∷ []) pair.0 ∙ rw (first_is_new pair pairs distinct, is_same_text-sym pair.0 name, none.0) refl in
    rw new (is_distinct-push pairs name value (rest_is_distinct pair pairs distinct) none.1)

pub names_of-with_value_at : (pairs : List Attribute) (place : ℕ) (value : List ℕ) → names_of (with_value_at pairs place value) ≡ names_of pairs
names_of-with_value_at [] place value = refl
names_of-with_value_at (pair ∷ pairs) zero value = refl
names_of-with_value_at (pair ∷ pairs) (suc place) value = ap (λ (l : List (List ℕ)). pair.0 ∷ l) (names_of-with_value_at pairs place value)

pub is_distinct-names : (pairs others : List Attribute) → names_of pairs ≡ names_of others → is_distinct pairs ≡ is_distinct others
is_distinct-names [] [] e = refl
is_distinct-names [] (other ∷ others) e = cc
is_distinct-names (pair ∷ pairs) [] e = cc
is_distinct-names (pair ∷ pairs) (other ∷ others) e =
    let front : pair.0 ≡ other.0 = cc in
    let rest : names_of pairs ≡ names_of others = cc in
    let first : has_name pairs pair.0 ≡ has_name others other.0 = cc in
    rw (first, is_distinct-names pairs others rest) refl

pub is_distinct-with_value_at : (pairs : List Attribute) (place : ℕ) (value : List ℕ) → is_distinct pairs ≡ true → is_distinct (with_value_at pairs place value) ≡ true
is_distinct-with_value_at pairs place value distinct =
    is_distinct-names (with_value_at pairs place value) pairs (names_of-with_value_at pairs place value) ∙ distinct

pub has_name-without : (pairs : List Attribute) (name other : List ℕ) → has_name pairs other ≡ false → has_name (without pairs name) other ≡ false
has_name-without [] name other absent = refl
has_name-without (pair ∷ pairs) name other absent =
    let none = both_false (is_same_text other pair.0) (has_name pairs other) absent in
    by (is_same_text name pair.0) none.0 (has_name-without pairs name other none.1)
  where
    by : (b : Bool) → is_same_text other pair.0 ≡ false → has_name (without pairs name) other ≡ false → has_name (cond (not b) (pair ∷ without pairs name) (without pairs name)) other ≡ false
    by true first rest = rest
    by false first rest = rw first rest

pub is_distinct-without : (pairs : List Attribute) (name : List ℕ) → is_distinct pairs ≡ true → is_distinct (without pairs name) ≡ true
is_distinct-without [] name distinct = refl
is_distinct-without (pair ∷ pairs) name distinct =
    by (is_same_text name pair.0)
    (has_name-without pairs name pair.0 (first_is_new pair pairs distinct))
    (is_distinct-without pairs name (rest_is_distinct pair pairs distinct))
  where
    by : (b : Bool) → has_name (without pairs name) pair.0 ≡ false → is_distinct (without pairs name) ≡ true → is_distinct (cond (not b) (pair ∷ without pairs name) (without pairs name)) ≡ true
    by true first rest = rest
    by false first rest = rw first rest

-- a walk along the places

pub take-next : (pairs : List Attribute) (place : ℕ) (name value : List ℕ) → slice_get (names_of pairs) place ≡ Some name → slice_get (values_of pairs) place ≡ Some value → take (suc place) pairs ≡ take place pairs ++ (name, value) ∷ []
take-next [] place name value n v = cc
take-next (pair ∷ pairs) zero name value n v =
    let same : pair.0 ≡ name = same_some pair.0 name n in
    let told : pair.1 ≡ value = same_some pair.1 value v in
    λ i. (same i, told i) ∷ []
take-next (pair ∷ pairs) (suc place) name value n v = ap (λ (l : List Attribute). pair ∷ l) (take-next pairs place name value n v)

-- the names before a place are others
pub has_name-take : (pairs : List Attribute) (place : ℕ) (name : List ℕ) → is_distinct pairs ≡ true → slice_get (names_of pairs) place ≡ Some name → has_name (take place pairs) name ≡ false
has_name-take [] place name distinct e = cc
has_name-take (pair ∷ pairs) zero name distinct e = refl
has_name-take (pair ∷ pairs) (suc place) name distinct e =
    rw (another_name pair pairs distinct name (has_name-at pairs name place e))
    (has_name-take pairs place name (rest_is_distinct pair pairs distinct) e)

pub weight_of-drop : (pairs : List Attribute) (place : ℕ) (name value : List ℕ) → slice_get (names_of pairs) place ≡ Some name → slice_get (values_of pairs) place ≡ Some value → weight_of (drop place pairs) ≡ byte_count name + byte_count value + weight_of (drop (suc place) pairs)
weight_of-drop [] place name value n v = cc
weight_of-drop (pair ∷ pairs) zero name value n v =
    let same : pair.0 ≡ name = same_some pair.0 name n in
    let told : pair.1 ≡ value = same_some pair.1 value v in
    λ i. byte_count (same i) + byte_count (told i) + weight_of pairs
weight_of-drop (pair ∷ pairs) (suc place) name value n v = weight_of-drop pairs place name value n v

saturated : (w a b r m : ℕ) → min (min (min (w + a) m + b) m + r) m ≡ min (w + (a + b + r)) m
saturated w a b r m = omega arith

-- a name and a value are counted, up to the greatest number
pub weight-next : (pairs : List Attribute) (place : ℕ) (name value : List ℕ) (w with_name with_both total : ℕ) → IsUtf8 name → IsUtf8 value
    → slice_get (names_of pairs) place ≡ Some (chars name) → slice_get (values_of pairs) place ≡ Some (chars value)
    → with_name ≡ min (w + length name) (2 ^ 64 - 1) → with_both ≡ min (with_name + length value) (2 ^ 64 - 1)
    → min (w + weight_of (drop place pairs)) (2 ^ 64 - 1) ≡ total → min (with_both + weight_of (drop (place + 1) pairs)) (2 ^ 64 - 1) ≡ total
weight-next pairs place name value w with_name with_both total name_valid value_valid named valued e f sum =
    let step : weight_of (drop place pairs) ≡ length name + length value + weight_of (drop (suc place) pairs) =
    weight_of-drop pairs place (chars name) (chars value) named valued
    ∙ rw (byte_count-chars name name_valid, byte_count-chars value value_valid) refl in
    rw (f, e, add-one) (saturated w (length name) (length value) (weight_of (drop (suc place) pairs)) (2 ^ 64 - 1) ∙ rw (← step) sum)

-- nothing is left past the end
pub weight_of-past : (pairs : List Attribute) (place : ℕ) → length pairs ≤ place → weight_of (drop place pairs) ≡ 0
weight_of-past [] zero past = refl
weight_of-past [] (suc place) past = refl
weight_of-past (pair ∷ pairs) zero past = absurd (omega arith)
weight_of-past (pair ∷ pairs) (suc place) past = weight_of-past pairs place (omega arith)

-- a list that is read pair by pair

has_name-without_other : (pairs : List Attribute) (name other : List ℕ) → is_same_text name other ≡ false → has_name (without pairs name) other ≡ has_name pairs other
has_name-without_other [] name other differs = refl
has_name-without_other (pair ∷ pairs) name other differs = by (is_same_text name pair.0) refl (has_name-without_other pairs name other differs)
  where
    by : (b : Bool) → is_same_text name pair.0 ≡ b → has_name (without pairs name) other ≡ has_name pairs other
        → has_name (cond (not b) (pair ∷ without pairs name) (without pairs name)) other ≡ (is_same_text other pair.0 || has_name pairs other)
    by true here rest =
        let another : is_same_text other pair.0 ≡ false =
        ap (is_same_text other) (sym (same_text name pair.0 here)) ∙ is_same_text-sym other name ∙ differs in
        rw another rest
    by false here rest = ap (λ (b : Bool). is_same_text other pair.0 || b) rest

without-push : (pairs : List Attribute) (name : List ℕ) (pair : Attribute) → without (pairs ++ pair ∷ []) name ≡ without pairs name ++ cond (not (is_same_text name pair.0)) (pair ∷ []) []
without-push [] name pair = refl
without-push (first ∷ pairs) name pair = by (is_same_text name first.0) (without-push pairs name pair)
  where
    by : (b : Bool) → without (pairs ++ pair ∷ []) name ≡ without pairs name ++ cond (not (is_same_text name pair.0)) (pair ∷ []) []
        → cond (not b) (first ∷ without (pairs ++ pair ∷ []) name) (without (pairs ++ pair ∷ []) name)
        ≡ cond (not b) (first ∷ without pairs name) (without pairs name) ++ cond (not (is_same_text name pair.0)) (pair ∷ []) []
    by true rest = rest
    by false rest = ap (λ (l : List Attribute). first ∷ l) rest

front_kept : (front : Attribute) (pairs : List Attribute) (pair : Attribute)
    → front ∷ without (with_new pairs pair.0 pair.1) front.0 ≡ with_new (front ∷ without pairs front.0) pair.0 pair.1
front_kept front pairs pair = by (is_same_text front.0 pair.0) refl (has_name pairs pair.0) refl
  where
    by : (same : Bool) → is_same_text front.0 pair.0 ≡ same → (there : Bool) → has_name pairs pair.0 ≡ there
        → front ∷ without (with_new pairs pair.0 pair.1) front.0 ≡ with_new (front ∷ without pairs front.0) pair.0 pair.1
    by true e true h =
        let front_is : is_same_text pair.0 front.0 ≡ true = is_same_text-sym pair.0 front.0 ∙ e in
        rw (h, front_is) refl
    by true e false h =
        let front_is : is_same_text pair.0 front.0 ≡ true = is_same_text-sym pair.0 front.0 ∙ e in
        rw (h, front_is, without-push pairs front.0 pair, e) (ap (λ (l : List Attribute). front ∷ l) (append-nil (without pairs front.0)))
    by false e true h =
        let other : is_same_text pair.0 front.0 ≡ false = is_same_text-sym pair.0 front.0 ∙ e in
        rw (h, other, has_name-without_other pairs front.0 pair.0 e, h) refl
    by false e false h =
        let other : is_same_text pair.0 front.0 ≡ false = is_same_text-sym pair.0 front.0 ∙ e in
        rw (h, other, has_name-without_other pairs front.0 pair.0 e, h, without-push pairs front.0 pair, e) refl

-- one more pair at the end is kept where its name is new
pub first_of_names-push : (pairs : List Attribute) (pair : Attribute) → first_of_names (pairs ++ pair ∷ []) ≡ with_new (first_of_names pairs) pair.0 pair.1
first_of_names-push [] pair = refl
first_of_names-push (first ∷ pairs) pair =
    ap (λ (l : List Attribute). first ∷ without l first.0) (first_of_names-push pairs pair) ∙ front_kept first (first_of_names pairs) pair
