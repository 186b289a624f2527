-- Attributes that are put into a new list, one after the other, each with its name.
use Rattle.std.proofs.Common.{◌≡◌, ℕ, Bool, true, false, not, ◌||◌, List, [], ◌∷◌, ◌++◌, Option, Some, None, refl, sym, ap, ◌∙◌, arith}
use Rattle.std.specs.List.{filter_map, cons_option}
use Rattle.std.proofs.lemmas.Bool.{and_from, cond-false}
use Rattle.std.proofs.lemmas.List.{append_assoc, append-nil, nil_from_length}
use Rattle.std.specs.Vec.Iter.{into_iter_items, into_iter_len}
use Rattle.std.specs.declared.alloc.Global.{Global}
use Rattle.std.specs.declared.vec.IntoIter.{IntoIter}
use Rattle.pur_attrlist.specs.Attributes.{Attribute, is_same_text, has_name, is_distinct, with_new}
use Rattle.pur_attrlist.proofs.AttributeLaws.{both_false, none_and_all, has_name-append}
use Rattle.pur_attrlist.proofs.TextLaws.{is_same_text-sym}
use Rattle.std.specs.Option.{option_map}
use Rattle.std.proofs.lemmas.Option.{same_Some}
use Rattle.pur_uri.specs.Uris.{PlainUri}
use Rattle.pur_absolute.specs.Absolute.{absolute_attribute, absolute_value}
use Rattle.pur_absolute.specs.Private.Parts.{with_one}

-- what has no length is empty
pub none-left : {T : Type 0} (it : IntoIter T Global) → into_iter_len it ≡ 0 → into_iter_items it ≡ []
none-left it e = nil_from_length _ (omega (arith, e, it.rest.ok.0))

-- pairs behind others, each unless its name is there
abbrev pub put_all : List Attribute → List Attribute → List Attribute
put_all done [] = done
put_all done (pair ∷ more) = put_all (with_new done pair.0 pair.1) more

-- one more in front of others
pub put-one : (done : List Attribute) (pair : Option Attribute) (more : List Attribute) → put_all (with_one done pair) more ≡ put_all done (cons_option pair more)
put-one done None more = refl
put-one done (Some pair) more = refl

-- in a list with distinct names no name in front is the one of a pair behind
name-apart : (done : List Attribute) (pair : Attribute) (more : List Attribute) → is_distinct (done ++ pair ∷ more) ≡ true → has_name done pair.0 ≡ false
name-apart [] pair more apart = refl
name-apart (first ∷ done) pair more apart =
    let here = none_and_all (has_name (done ++ pair ∷ more) first.0) (is_distinct (done ++ pair ∷ more)) apart in
    let behind = both_false (has_name done first.0) (has_name (pair ∷ more) first.0) (sym (has_name-append done (pair ∷ more) first.0) ∙ here.0) in
    let isnt = both_false (is_same_text first.0 pair.0) (has_name more first.0) behind.1 in
    ap (λ b. b || has_name done pair.0) (is_same_text-sym pair.0 first.0 ∙ isnt.0) ∙ name-apart done pair more here.1

pub put-distinct : (done more : List Attribute) → is_distinct (done ++ more) ≡ true → put_all done more ≡ done ++ more
put-distinct done [] apart = sym (append-nil done)
put-distinct done (pair ∷ more) apart =
    let seam : (done ++ pair ∷ []) ++ more ≡ done ++ pair ∷ more = append_assoc done (pair ∷ []) more in
    ap (λ l. put_all l more) (cond-false (has_name done pair.0) done (done ++ pair ∷ []) (name-apart done pair more apart))
    ∙ put-distinct (done ++ pair ∷ []) more (ap is_distinct seam ∙ apart) ∙ seam

-- pairs that stay or go, and keep their names
module _ (h : Attribute → Option Attribute) (keeps : (x y : Attribute) → h x ≡ Some y → y.0 ≡ x.0) where
  pub name-left : (pairs : List Attribute) (name : List ℕ) → has_name pairs name ≡ false → has_name (filter_map h pairs) name ≡ false
  name-left [] name none = refl
  name-left (pair ∷ pairs) name none =
      let parts = both_false (is_same_text name pair.0) (has_name pairs name) none in
      go (h pair) refl parts.0 (name-left pairs name parts.1)
    where
      go : (o : Option Attribute) → h pair ≡ o → is_same_text name pair.0 ≡ false → has_name (filter_map h pairs) name ≡ false
          → has_name (cons_option o (filter_map h pairs)) name ≡ false
      go None e first rest = rest
      go (Some y) e first rest =
          ap (λ b. b || has_name (filter_map h pairs) name) (ap (is_same_text name) (keeps pair y e) ∙ first) ∙ rest

  pub distinct-left : (pairs : List Attribute) → is_distinct pairs ≡ true → is_distinct (filter_map h pairs) ≡ true
  distinct-left [] apart = refl
  distinct-left (pair ∷ pairs) apart =
      let parts = none_and_all (has_name pairs pair.0) (is_distinct pairs) apart in
      go (h pair) refl parts.0 (distinct-left pairs parts.1)
    where
      go : (o : Option Attribute) → h pair ≡ o → has_name pairs pair.0 ≡ false → is_distinct (filter_map h pairs) ≡ true
          → is_distinct (cons_option o (filter_map h pairs)) ≡ true
      go None e first rest = rest
      go (Some y) e first rest =
          and_from _ _ (ap not (ap (has_name (filter_map h pairs)) (keeps pair y e) ∙ name-left pairs pair.0 first)) rest

-- what becomes of an attribute has its name
pub absolute-name : (allows : PlainUri → Bool) (base : PlainUri) (x y : Attribute) → absolute_attribute allows base x ≡ Some y → y.0 ≡ x.0
absolute-name allows base x y is = go (absolute_value allows base x) is
  where
    go : (o : Option (List ℕ)) → ◌≡◌ {A = Option Attribute} (option_map (λ value. (x.0, value)) o) (Some y) → y.0 ≡ x.0
    go None e = absurd (cc)
    go (Some value) e = ap (λ (p : Attribute). p.0) (sym (same_Some (x.0, value) y e))
