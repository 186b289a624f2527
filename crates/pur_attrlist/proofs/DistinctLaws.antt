-- What keeps the names of a list of attributes distinct.
use Rattle.std.proofs.Common.{◌≡◌, ℕ, Bool, true, false, not, ◌||◌, cond, List, [], ◌∷◌, ◌++◌, refl, ap, ◌∙◌}
use Rattle.std.proofs.lemmas.Bool.{and_from}
use Rattle.pur_attrlist.specs.Attributes.{Attribute, is_same_text, names_of, has_name, is_distinct, with_value, with_new, first_of_names}
use Rattle.pur_attrlist.specs.Styles.{with_style}
use Rattle.pur_attrlist.proofs.AttributeLaws.{none_and_all, has_name-without_same, is_distinct-push, is_distinct-names, is_distinct-without}
use Rattle.pur_attrlist.proofs.TextLaws.{same_text, is_same_text-sym}

-- a value for one name leaves other names as they were
pub has_name-with_other : (pairs : List Attribute) (name other value : List ℕ) → is_same_text other name ≡ false
    → has_name (with_value pairs name value) other ≡ has_name pairs other
has_name-with_other [] name other value isnt = ap (λ b. b || false) isnt
has_name-with_other (pair ∷ pairs) name other value isnt = go (is_same_text name pair.0) refl (has_name-with_other pairs name other value isnt)
  where
    go : (b : Bool) → is_same_text name pair.0 ≡ b → has_name (with_value pairs name value) other ≡ has_name pairs other
        → has_name (cond b ((name, value) ∷ pairs) (pair ∷ with_value pairs name value)) other ≡ has_name (pair ∷ pairs) other
    go true e rest = ap (λ n. is_same_text other n || has_name pairs other) (same_text name pair.0 e)
    go false e rest = ap (λ b. is_same_text other pair.0 || b) rest

pub is_distinct-with_value : (pairs : List Attribute) (name value : List ℕ) → is_distinct pairs ≡ true → is_distinct (with_value pairs name value) ≡ true
is_distinct-with_value [] name value apart = refl
is_distinct-with_value (pair ∷ pairs) name value apart =
    let parts = none_and_all (has_name pairs pair.0) (is_distinct pairs) apart in
    go (is_same_text name pair.0) refl parts.0 (is_distinct-with_value pairs name value parts.1)
  where
    go : (b : Bool) → is_same_text name pair.0 ≡ b → has_name pairs pair.0 ≡ false → is_distinct (with_value pairs name value) ≡ true
        → is_distinct (cond b ((name, value) ∷ pairs) (pair ∷ with_value pairs name value)) ≡ true
    go true e first rest =
        is_distinct-names ((name, value) ∷ pairs) (pair ∷ pairs) (ap (λ n. n ∷ names_of pairs) (same_text name pair.0 e)) ∙ apart
    go false e first rest =
        and_from _ _ (ap not (has_name-with_other pairs name pair.0 value (is_same_text-sym pair.0 name ∙ e) ∙ first)) rest

pub is_distinct-with_new : (pairs : List Attribute) (name value : List ℕ) → is_distinct pairs ≡ true → is_distinct (with_new pairs name value) ≡ true
is_distinct-with_new pairs name value apart = go (has_name pairs name) refl
  where
    go : (b : Bool) → has_name pairs name ≡ b → is_distinct (cond b pairs (pairs ++ (name, value) ∷ [])) ≡ true
    go true e = apart
    go false e = is_distinct-push pairs name value apart e

pub is_distinct-with_style : (style : List ℕ) (pairs : List Attribute) → is_distinct pairs ≡ true → is_distinct (with_style style pairs) ≡ true
is_distinct-with_style [] pairs apart = apart
is_distinct-with_style (c ∷ style) pairs apart = is_distinct-with_value pairs _ _ apart

pub is_distinct-first : (pairs : List Attribute) → is_distinct (first_of_names pairs) ≡ true
is_distinct-first [] = refl
is_distinct-first (pair ∷ pairs) =
    and_from _ _ (ap not (has_name-without_same (first_of_names pairs) pair.0))
    (is_distinct-without (first_of_names pairs) pair.0 (is_distinct-first pairs))
