-- Attributes that are put into a new list, one after the other.
use Rattle.std.proofs.Common.{◌≡◌, ℕ, Bool, true, false, not, ◌||◌, cond, List, [], ◌∷◌, ◌++◌, map, Option, Some, None, IsUtf8, Bor, refl, sym, ap, subst, ◌∙◌, arith}
use Rattle.std.specs.Prelude.{codes, is_some}
use Rattle.std.specs.List.{filter_map, cons_option, find, list_all}
use Rattle.std.specs.Str.{bytes_eq, chars}
use Rattle.std.specs.Option.{option_and_then, option_map}
use Rattle.std.proofs.lemmas.Bool.{and_from, cond-true, cond-false}
use Rattle.std.proofs.lemmas.List.{append_assoc, append-nil, nil_from_length}
use Rattle.std.specs.Vec.Iter.{into_iter_items, into_iter_len}
use Rattle.std.specs.declared.alloc.Global.{Global}
use Rattle.std.specs.declared.vec.IntoIter.{IntoIter}
use Rattle.std.proofs.lemmas.Option.{same_Some}
use Rattle.std.proofs.lemmas.Slice.Eq.{bytes_eq-Decides}
use Rattle.pur_laws.proofs.Cases.{read-chars}
use Rattle.pur_laws.proofs.Texts.{is_ascii}
use Rattle.pur_names.specs.Attributes.{attr_name, attr_named, all_attrs}
use Rattle.pur_names.proofs.AttrLaws.{each_attr}
use Rattle.pur_names.specs.declared.attributes.Attr.{Attr}
use Rattle.pur_names.specs.declared.elements.Element.{Element}
use Rattle.pur_settings.specs.Rules.{Rules, permits_attribute}
use Rattle.pur_attrlist.specs.Attributes.{Attribute, is_same_text, has_name, is_distinct, value_of, with_new}
use Rattle.pur_attrlist.proofs.AttributeLaws.{both_false, none_and_all, has_name-append}
use Rattle.pur_attrlist.proofs.TextLaws.{same_text, is_same_text-sym}
use Rattle.pur_uripolicy.specs.HostRules.{PlainHostRule}
use Rattle.pur_validity.specs.Attributes.{attribute_read, value_on}
use Rattle.pur_attrs.specs.Private.Parts.{with_one}
use Rattle.pur_attrs.specs.Steps.{name_as_id, kept_attribute}

-- what has no length is empty
pub none-left : {T : Type 0} (it : IntoIter T Global) → into_iter_len it ≡ 0 → into_iter_items it ≡ []
none-left it e = nil_from_length _ (omega (arith, e, it.rest.ok.0))

-- ---- pairs put behind others

-- pairs behind others, each unless its name is there
abbrev pub put_all : List Attribute → List Attribute → List Attribute
put_all done [] = done
put_all done (pair ∷ more) = put_all (with_new done pair.0 pair.1) more

-- one more in front of others
pub put-one : (done : List Attribute) (pair : Option Attribute) (more : List Attribute) → put_all (with_one done pair) more ≡ put_all done (cons_option pair more)
put-one done None more = refl
put-one done (Some pair) more = refl

-- in a list with distinct names no name in front is the one of a pair behind
name-apart : (done : List Attribute) (pair : Attribute) (more : List Attribute) → is_distinct (done ++ pair ∷ more) ≡ true → has_name done pair.0 ≡ false
name-apart [] pair more apart = refl
name-apart (first ∷ done) pair more apart =
    let here = none_and_all (has_name (done ++ pair ∷ more) first.0) (is_distinct (done ++ pair ∷ more)) apart in
    let behind = both_false (has_name done first.0) (has_name (pair ∷ more) first.0) (sym (has_name-append done (pair ∷ more) first.0) ∙ here.0) in
    let isnt = both_false (is_same_text first.0 pair.0) (has_name more first.0) behind.1 in
    ap (λ b. b || has_name done pair.0) (is_same_text-sym pair.0 first.0 ∙ isnt.0) ∙ name-apart done pair more here.1

pub put-distinct : (done more : List Attribute) → is_distinct (done ++ more) ≡ true → put_all done more ≡ done ++ more
put-distinct done [] apart = sym (append-nil done)
put-distinct done (pair ∷ more) apart =
    let seam : (done ++ pair ∷ []) ++ more ≡ done ++ pair ∷ more = append_assoc done (pair ∷ []) more in
    ap (λ l. put_all l more) (cond-false (has_name done pair.0) done (done ++ pair ∷ []) (name-apart done pair more apart))
    ∙ put-distinct (done ++ pair ∷ []) more (ap is_distinct seam ∙ apart) ∙ seam

-- ---- pairs that are read or left out, and keep their names

module _ (h : Attribute → Option Attribute) (keeps : (x y : Attribute) → h x ≡ Some y → y.0 ≡ x.0) where
  name-left : (pairs : List Attribute) (name : List ℕ) → has_name pairs name ≡ false → has_name (filter_map h pairs) name ≡ false
  name-left [] name none = refl
  name-left (pair ∷ pairs) name none =
      let parts = both_false (is_same_text name pair.0) (has_name pairs name) none in
      go (h pair) refl parts.0 (name-left pairs name parts.1)
    where
      go : (o : Option Attribute) → h pair ≡ o → is_same_text name pair.0 ≡ false → has_name (filter_map h pairs) name ≡ false
          → has_name (cons_option o (filter_map h pairs)) name ≡ false
      go None e first rest = rest
      go (Some y) e first rest =
          ap (λ b. b || has_name (filter_map h pairs) name) (ap (is_same_text name) (keeps pair y e) ∙ first) ∙ rest

  pub distinct-left : (pairs : List Attribute) → is_distinct pairs ≡ true → is_distinct (filter_map h pairs) ≡ true
  distinct-left [] apart = refl
  distinct-left (pair ∷ pairs) apart =
      let parts = none_and_all (has_name pairs pair.0) (is_distinct pairs) apart in
      go (h pair) refl parts.0 (distinct-left pairs parts.1)
    where
      go : (o : Option Attribute) → h pair ≡ o → has_name pairs pair.0 ≡ false → is_distinct (filter_map h pairs) ≡ true
          → is_distinct (cons_option o (filter_map h pairs)) ≡ true
      go None e first rest = rest
      go (Some y) e first rest =
          and_from _ _ (ap not (ap (has_name (filter_map h pairs)) (keeps pair y e) ∙ name-left pairs pair.0 first)) rest

-- ---- names that become ids

-- a name without a value is no name
pub unnamed : (attrs : List Attribute) (name : List ℕ) → value_of attrs name ≡ None → has_name attrs name ≡ false
unnamed [] name none = refl
unnamed (pair ∷ attrs) name none = go (is_same_text name pair.0) none (unnamed attrs name)
  where
    go : (b : Bool) → cond b (Some pair.1) (value_of attrs name) ≡ None → (value_of attrs name ≡ None → has_name attrs name ≡ false)
        → (b || has_name attrs name) ≡ false
    go true is rest = absurd (cc)
    go false is rest = rest is

-- and one with a value is one
pub named : (attrs : List Attribute) (name value : List ℕ) → value_of attrs name ≡ Some value → has_name attrs name ≡ true
named [] name value some = absurd (cc)
named (pair ∷ attrs) name value some = go (is_same_text name pair.0) some (named attrs name value)
  where
    go : (b : Bool) → cond b (Some pair.1) (value_of attrs name) ≡ Some value → (value_of attrs name ≡ Some value → has_name attrs name ≡ true)
        → (b || has_name attrs name) ≡ true
    go true is rest = refl
    go false is rest = rest is

pub no-name : (attrs : List Attribute) → has_name attrs (codes "name") ≡ false → map name_as_id attrs ≡ attrs
no-name [] none = refl
no-name (pair ∷ attrs) none =
    let parts = both_false (is_same_text (codes "name") pair.0) (has_name attrs (codes "name")) none in
    ap (λ p. p ∷ map name_as_id attrs) (cond-false (is_same_text (codes "name") pair.0) (codes "id", pair.1) pair parts.0)
    ∙ ap (λ l. pair ∷ l) (no-name attrs parts.1)

-- a name is there where its value is found
pub found-named : (attrs : List Attribute) (name : List ℕ) (found : Option (Bor (List ℕ))) → option_map (λ value. chars value.now) found ≡ value_of attrs name
    → is_some found ≡ has_name attrs name
found-named attrs name None is = sym (unnamed attrs name (sym is))
found-named attrs name (Some value) is = sym (named attrs name (chars value.now) (sym is))

pub as_id-other : (pair : Attribute) → is_same_text (codes "name") pair.0 ≡ false → pair ≡ name_as_id pair
as_id-other pair isnt = sym (cond-false (is_same_text (codes "name") pair.0) (codes "id", pair.1) pair isnt)

pub as_id-name : (pair : Attribute) → is_same_text (codes "name") pair.0 ≡ true → (codes "id", pair.1) ≡ name_as_id pair
as_id-name pair is = sym (cond-true (is_same_text (codes "name") pair.0) (codes "id", pair.1) pair is)

name-as_id : (attrs : List Attribute) (name : List ℕ) → is_same_text name (codes "id") ≡ false → has_name attrs name ≡ false
    → has_name (map name_as_id attrs) name ≡ false
name-as_id [] name isnt none = refl
name-as_id (pair ∷ attrs) name isnt none =
    let parts = both_false (is_same_text name pair.0) (has_name attrs name) none in
    go (is_same_text (codes "name") pair.0) parts.0 (name-as_id attrs name isnt parts.1)
  where
    go : (b : Bool) → is_same_text name pair.0 ≡ false → has_name (map name_as_id attrs) name ≡ false
        → has_name (cond b (codes "id", pair.1) pair ∷ map name_as_id attrs) name ≡ false
    go true first rest = ap (λ b. b || has_name (map name_as_id attrs) name) isnt ∙ rest
    go false first rest = ap (λ b. b || has_name (map name_as_id attrs) name) first ∙ rest

-- where there is no id, names stay distinct
pub distinct-as_id : (attrs : List Attribute) → has_name attrs (codes "id") ≡ false → is_distinct attrs ≡ true → is_distinct (map name_as_id attrs) ≡ true
distinct-as_id [] none apart = refl
distinct-as_id (pair ∷ attrs) none apart =
    let here = both_false (is_same_text (codes "id") pair.0) (has_name attrs (codes "id")) none in
    let parts = none_and_all (has_name attrs pair.0) (is_distinct attrs) apart in
    go (is_same_text (codes "name") pair.0) refl here.0 here.1 parts.0 (distinct-as_id attrs here.1 parts.1)
  where
    go : (b : Bool) → is_same_text (codes "name") pair.0 ≡ b → is_same_text (codes "id") pair.0 ≡ false → has_name attrs (codes "id") ≡ false
        → has_name attrs pair.0 ≡ false → is_distinct (map name_as_id attrs) ≡ true
        → is_distinct (cond b (codes "id", pair.1) pair ∷ map name_as_id attrs) ≡ true
    go true e isnt no_id first rest =
        let no_more : has_name attrs (codes "name") ≡ false = ap (has_name attrs) (same_text (codes "name") pair.0 e) ∙ first in
        and_from _ _ (ap not (ap (λ l. has_name l (codes "id")) (no-name attrs no_more) ∙ no_id)) rest
    go false e isnt no_id first rest =
        and_from _ _ (ap not (name-as_id attrs pair.0 (is_same_text-sym pair.0 (codes "id") ∙ isnt) first)) rest

-- ---- what is read of an attribute

-- what stays is the name with what the value is read as
pub kept-read : (rules : Rules) (rule : PlainHostRule) (element : Element) (pair : Attribute)
    → kept_attribute rules rule element pair ≡ option_map (λ value. (pair.0, value)) (attribute_read rules rule element pair.0 pair.1)
kept-read rules rule element pair = go (attr_named pair.0)
  where
    named : (attr : Attr) (b : Bool) → cond b (option_map {U = Attribute} (λ value. (pair.0, value)) (value_on rules rule element attr pair.1)) None
        ≡ option_map (λ value. (pair.0, value)) (cond b (value_on rules rule element attr pair.1) None)
    named attr true = refl
    named attr false = refl

    go : (o : Option Attr)
        → option_and_then (λ attr. cond (permits_attribute rules element attr) (option_map {U = Attribute} (λ value. (pair.0, value)) (value_on rules rule element attr pair.1)) None) o
        ≡ option_map (λ value. (pair.0, value)) (option_and_then (λ attr. cond (permits_attribute rules element attr) (value_on rules rule element attr pair.1) None) o)
    go None = refl
    go (Some attr) = named attr (permits_attribute rules element attr)
