-- Attributes as a list of pairs: what a change of one name does to the others, and to what all pass.
use Rattle.std.proofs.Common.{◌≡◌, ℕ, Bool, true, false, not, ◌||◌, cond, List, [], ◌∷◌, ◌++◌, Option, Some, None, refl, sym, ap, ◌∙◌}
use Rattle.std.specs.List.{list_all, filter_map, cons_option}
use Rattle.std.proofs.lemmas.Bool.{cond-true, cond-false, and_parts, and_from}
use Rattle.pur_laws.proofs.Lists.{all-append}
use Rattle.pur_attrlist.specs.Attributes.{Attribute, is_same_text, has_name, value_of, with_value, with_new, without}
use Rattle.pur_attrlist.proofs.AttributeLaws.{value_of-absent, has_name-without_same, has_name-append, either_true}
use Rattle.pur_attrlist.proofs.TextLaws.{same_text, is_same_text-refl}

pub value_of-with_same : (pairs : List Attribute) (name value : List ℕ) → value_of (with_value pairs name value) name ≡ Some value
value_of-with_same [] name value = cond-true _ _ _ (is_same_text-refl name)
value_of-with_same (pair ∷ pairs) name value = go (is_same_text name pair.0) refl (value_of-with_same pairs name value)
  where
    go : (b : Bool) → is_same_text name pair.0 ≡ b → value_of (with_value pairs name value) name ≡ Some value
        → value_of (cond b ((name, value) ∷ pairs) (pair ∷ with_value pairs name value)) name ≡ Some value
    go true e rest = cond-true _ _ _ (is_same_text-refl name)
    go false e rest = cond-false _ _ _ e ∙ rest

pub value_of-with_other : (pairs : List Attribute) (name other value : List ℕ) → is_same_text other name ≡ false
    → value_of (with_value pairs name value) other ≡ value_of pairs other
value_of-with_other [] name other value isnt = cond-false _ _ _ isnt
value_of-with_other (pair ∷ pairs) name other value isnt = go (is_same_text name pair.0) refl (value_of-with_other pairs name other value isnt)
  where
    go : (b : Bool) → is_same_text name pair.0 ≡ b → value_of (with_value pairs name value) other ≡ value_of pairs other
        → value_of (cond b ((name, value) ∷ pairs) (pair ∷ with_value pairs name value)) other ≡ value_of (pair ∷ pairs) other
    go true e rest =
        let isnt_it : is_same_text other pair.0 ≡ false = ap (is_same_text other) (sym (same_text name pair.0 e)) ∙ isnt in
        cond-false _ _ _ isnt ∙ sym (cond-false _ _ _ isnt_it)
    go false e rest = ap (cond (is_same_text other pair.0) (Some pair.1)) rest

pub value_of-without_same : (pairs : List Attribute) (name : List ℕ) → value_of (without pairs name) name ≡ None
value_of-without_same pairs name = value_of-absent (without pairs name) name (has_name-without_same pairs name)

value_of-push_other : (pairs : List Attribute) (name other value : List ℕ) → is_same_text other name ≡ false
    → value_of (pairs ++ (name, value) ∷ []) other ≡ value_of pairs other
value_of-push_other [] name other value isnt = cond-false _ _ _ isnt
value_of-push_other (pair ∷ pairs) name other value isnt =
    ap (cond (is_same_text other pair.0) (Some pair.1)) (value_of-push_other pairs name other value isnt)

pub value_of-new_other : (pairs : List Attribute) (name other value : List ℕ) → is_same_text other name ≡ false
    → value_of (with_new pairs name value) other ≡ value_of pairs other
value_of-new_other pairs name other value isnt = go (has_name pairs name)
  where
    go : (b : Bool) → value_of (cond b pairs (pairs ++ (name, value) ∷ [])) other ≡ value_of pairs other
    go true = refl
    go false = value_of-push_other pairs name other value isnt

pub has_name-new : (pairs : List Attribute) (name value : List ℕ) → has_name (with_new pairs name value) name ≡ true
has_name-new pairs name value = go (has_name pairs name) refl
  where
    go : (b : Bool) → has_name pairs name ≡ b → has_name (cond b pairs (pairs ++ (name, value) ∷ [])) name ≡ true
    go true e = e
    go false e = has_name-append pairs ((name, value) ∷ []) name ∙ either_true (has_name pairs name) (is_same_text name name || false) (ap (λ b. b || false) (is_same_text-refl name))

module _ (test : Attribute → Bool) where
  pub all-with_value : (pairs : List Attribute) (name value : List ℕ) → list_all test pairs ≡ true → test (name, value) ≡ true
      → list_all test (with_value pairs name value) ≡ true
  all-with_value [] name value all one = and_from _ _ one refl
  all-with_value (pair ∷ pairs) name value all one =
      let parts = and_parts (test pair) (list_all test pairs) all in
      go (is_same_text name pair.0) parts.0 parts.1 (all-with_value pairs name value parts.1 one)
    where
      go : (b : Bool) → test pair ≡ true → list_all test pairs ≡ true → list_all test (with_value pairs name value) ≡ true
          → list_all test (cond b ((name, value) ∷ pairs) (pair ∷ with_value pairs name value)) ≡ true
      go true first rest changed = and_from _ _ one rest
      go false first rest changed = and_from _ _ first changed

  pub all-new : (pairs : List Attribute) (name value : List ℕ) → list_all test pairs ≡ true → test (name, value) ≡ true
      → list_all test (with_new pairs name value) ≡ true
  all-new pairs name value all one = go (has_name pairs name)
    where
      go : (b : Bool) → list_all test (cond b pairs (pairs ++ (name, value) ∷ [])) ≡ true
      go true = all
      go false = all-append test pairs ((name, value) ∷ []) all (and_from _ _ one refl)

  -- what all pass, the one of a name passes
  pub all-value_of : (pairs : List Attribute) (name value : List ℕ) → list_all test pairs ≡ true → value_of pairs name ≡ Some value
      → test (name, value) ≡ true
  all-value_of [] name value all is = absurd (cc)
  all-value_of (pair ∷ pairs) name value all is =
      let parts = and_parts (test pair) (list_all test pairs) all in
      go (is_same_text name pair.0) refl is parts.0 (all-value_of pairs name value parts.1)
    where
      go : (b : Bool) → is_same_text name pair.0 ≡ b → cond b (Some pair.1) (value_of pairs name) ≡ Some value → test pair ≡ true
          → (value_of pairs name ≡ Some value → test (name, value) ≡ true) → test (name, value) ≡ true
      go true e found first rest =
          let value_is : pair.1 ≡ value = cc in
          ap (λ n. test (n, value)) (same_text name pair.0 e) ∙ ap (λ v. test (pair.0, v)) (sym value_is) ∙ first
      go false e found first rest = rest found

-- what each passes that is given, all pass
pub all-filter_map : {X Y : Type 0} (h : X → Option Y) (test : Y → Bool) → ((x : X) (y : Y) → h x ≡ Some y → test y ≡ true)
    → (xs : List X) → list_all test (filter_map h xs) ≡ true
all-filter_map h test gives [] = refl
all-filter_map {Y = Y} h test gives (x ∷ xs) = go (h x) refl (all-filter_map h test gives xs)
  where
    go : (o : Option Y) → h x ≡ o → list_all test (filter_map h xs) ≡ true → list_all test (cons_option o (filter_map h xs)) ≡ true
    go None e rest = rest
    go (Some y) e rest = and_from _ _ (gives x y e) rest

-- what each passes that is given for one that passes, all pass
pub all-filter_where : {X Y : Type 0} (h : X → Option Y) (before : X → Bool) (after : Y → Bool)
    → ((x : X) (y : Y) → before x ≡ true → h x ≡ Some y → after y ≡ true) → (xs : List X) → list_all before xs ≡ true
    → list_all after (filter_map h xs) ≡ true
all-filter_where h before after gives [] all = refl
all-filter_where {Y = Y} h before after gives (x ∷ xs) all =
    let parts = and_parts (before x) (list_all before xs) all in
    go (h x) refl parts.0 (all-filter_where h before after gives xs parts.1)
  where
    go : (o : Option Y) → h x ≡ o → before x ≡ true → list_all after (filter_map h xs) ≡ true → list_all after (cons_option o (filter_map h xs)) ≡ true
    go None e first rest = rest
    go (Some y) e first rest = and_from _ _ (gives x y first e) rest

-- where each that passes is given as it is, all stay
pub filter_map-same : {X : Type 0} (h : X → Option X) (test : X → Bool) → ((x : X) → test x ≡ true → h x ≡ Some x) → (xs : List X)
    → list_all test xs ≡ true → filter_map h xs ≡ xs
filter_map-same h test stays [] all = refl
filter_map-same h test stays (x ∷ xs) all =
    let parts = and_parts (test x) (list_all test xs) all in
    ap (λ o. cons_option o (filter_map h xs)) (stays x parts.0) ∙ ap (λ l. x ∷ l) (filter_map-same h test stays xs parts.1)

-- ---- which names there are

pub has_name-with_value : (pairs : List Attribute) (name other value : List ℕ) → is_same_text other name ≡ false
    → has_name (with_value pairs name value) other ≡ has_name pairs other
has_name-with_value [] name other value isnt = ap (λ b. b || false) isnt
has_name-with_value (pair ∷ pairs) name other value isnt = go (is_same_text name pair.0) refl (has_name-with_value pairs name other value isnt)
  where
    go : (b : Bool) → is_same_text name pair.0 ≡ b → has_name (with_value pairs name value) other ≡ has_name pairs other
        → has_name (cond b ((name, value) ∷ pairs) (pair ∷ with_value pairs name value)) other ≡ (is_same_text other pair.0 || has_name pairs other)
    go true e rest = ap (λ n. is_same_text other n || has_name pairs other) (same_text name pair.0 e)
    go false e rest = ap (λ b. is_same_text other pair.0 || b) rest

pub has_name-new_other : (pairs : List Attribute) (name other value : List ℕ) → has_name pairs other ≡ true
    → has_name (with_new pairs name value) other ≡ true
has_name-new_other pairs name other value there = go (has_name pairs name)
  where
    go : (b : Bool) → has_name (cond b pairs (pairs ++ (name, value) ∷ [])) other ≡ true
    go true = there
    go false = has_name-append pairs ((name, value) ∷ []) other ∙ ap (λ b. b || has_name ((name, value) ∷ []) other) there

pub has_name-without_other : (pairs : List Attribute) (name other : List ℕ) → is_same_text other name ≡ false
    → has_name (without pairs name) other ≡ has_name pairs other
has_name-without_other [] name other isnt = refl
has_name-without_other (pair ∷ pairs) name other isnt = go (is_same_text name pair.0) refl (has_name-without_other pairs name other isnt)
  where
    go : (b : Bool) → is_same_text name pair.0 ≡ b → has_name (without pairs name) other ≡ has_name pairs other
        → has_name (cond (not b) (pair ∷ without pairs name) (without pairs name)) other ≡ (is_same_text other pair.0 || has_name pairs other)
    go true e rest =
        let isnt_it : is_same_text other pair.0 ≡ false = ap (is_same_text other) (sym (same_text name pair.0 e)) ∙ isnt in
        rest ∙ sym (ap (λ b. b || has_name pairs other) isnt_it)
    go false e rest = ap (λ b. is_same_text other pair.0 || b) rest

pub value_of-without_other : (pairs : List Attribute) (name other : List ℕ) → is_same_text other name ≡ false
    → value_of (without pairs name) other ≡ value_of pairs other
value_of-without_other [] name other isnt = refl
value_of-without_other (pair ∷ pairs) name other isnt = go (is_same_text name pair.0) refl (value_of-without_other pairs name other isnt)
  where
    go : (b : Bool) → is_same_text name pair.0 ≡ b → value_of (without pairs name) other ≡ value_of pairs other
        → value_of (cond (not b) (pair ∷ without pairs name) (without pairs name)) other ≡ cond (is_same_text other pair.0) (Some pair.1) (value_of pairs other)
    go true e rest =
        let isnt_it : is_same_text other pair.0 ≡ false = ap (is_same_text other) (sym (same_text name pair.0 e)) ∙ isnt in
        rest ∙ sym (cond-false _ _ _ isnt_it)
    go false e rest = ap (cond (is_same_text other pair.0) (Some pair.1)) rest

-- ---- what is there already

pub with_value-same : (pairs : List Attribute) (name value : List ℕ) → value_of pairs name ≡ Some value → with_value pairs name value ≡ pairs
with_value-same [] name value is = absurd (cc)
with_value-same (pair ∷ pairs) name value is = go (is_same_text name pair.0) refl is (with_value-same pairs name value)
  where
    go : (b : Bool) → is_same_text name pair.0 ≡ b → cond b (Some pair.1) (value_of pairs name) ≡ Some value
        → (value_of pairs name ≡ Some value → with_value pairs name value ≡ pairs)
        → cond b ((name, value) ∷ pairs) (pair ∷ with_value pairs name value) ≡ pair ∷ pairs
    go true e found rest =
        let told : pair.1 ≡ value = cc in
        ap (λ (n : List ℕ). (n, value) ∷ pairs) (same_text name pair.0 e) ∙ ap (λ (v : List ℕ). (pair.0, v) ∷ pairs) (sym told)
    go false e found rest = ap (λ l. pair ∷ l) (rest found)

pub new-same : (pairs : List Attribute) (name value : List ℕ) → has_name pairs name ≡ true → with_new pairs name value ≡ pairs
new-same pairs name value there = cond-true _ _ _ there

-- ---- pairs that are read or left out, and keep their names

module _ (h : Attribute → Option Attribute) (keeps : (x y : Attribute) → h x ≡ Some y → y.0 ≡ x.0) where
  -- the first of a name is there where it is read
  pub found-read : (pairs : List Attribute) (name value : List ℕ) (y : Attribute) → value_of pairs name ≡ Some value → h (name, value) ≡ Some y
      → has_name (filter_map h pairs) name ≡ true
  found-read [] name value y is reads = absurd (cc)
  found-read (pair ∷ pairs) name value y is reads = go (is_same_text name pair.0) refl is (found-read pairs name value y)
    where
      here : (o : Option Attribute) → h pair ≡ o → o ≡ Some y → is_same_text name pair.0 ≡ true → has_name (cons_option o (filter_map h pairs)) name ≡ true
      here None e reads same = absurd (cc)
      here (Some z) e reads same = ap (λ b. b || has_name (filter_map h pairs) name) (ap (is_same_text name) (keeps pair z e) ∙ same)

      later : (o : Option Attribute) → has_name (filter_map h pairs) name ≡ true → has_name (cons_option o (filter_map h pairs)) name ≡ true
      later None there = there
      later (Some z) there = either_true (is_same_text name z.0) (has_name (filter_map h pairs) name) there

      go : (b : Bool) → is_same_text name pair.0 ≡ b → cond b (Some pair.1) (value_of pairs name) ≡ Some value
          → (value_of pairs name ≡ Some value → h (name, value) ≡ Some y → has_name (filter_map h pairs) name ≡ true)
          → has_name (filter_map h (pair ∷ pairs)) name ≡ true
      go true e found rest =
          let told : pair.1 ≡ value = cc in
          let it : h pair ≡ Some y = sym (ap (λ (n : List ℕ). h (n, pair.1)) (same_text name pair.0 e)) ∙ ap (λ (v : List ℕ). h (name, v)) told ∙ reads in
          here (h pair) refl it e
      go false e found rest = later (h pair) (rest found reads)
