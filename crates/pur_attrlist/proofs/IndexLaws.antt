-- An index of names keeps up with the list of the names.
use Rattle.std.proofs.Common.{◌≡◌, ℕ, zero, suc, Bool, true, false, cond, if◌then◌else◌, List, [], ◌∷◌, ◌++◌, length, remove, slice_get, Option, Some, None, String, refl, sym, ap, ◌∙◌, arith}
use Rattle.std.specs.Str.{chars, bytes_eq, IsUtf8}
use Rattle.std.specs.Option.{option_map}
use Rattle.std.proofs.lemmas.Grind.{common_steps}
use Rattle.std.specs.BTreeMap.{BTreeMap, get_by_text}
use Rattle.std.specs.declared.alloc.Global.{Global}
use Rattle.std.proofs.lemmas.List.{length-map, map-append}
use Rattle.pur_laws.proofs.Texts.{bytes_eq-chars}
use Rattle.pur_attrlist.specs.Attributes.{Attribute, names_of, has_name, is_distinct}
use Rattle.pur_attrlist.specs.Private.Places.{place_of, moved_down}
use Rattle.pur_attrlist.specs.Private.Index.{IsIndexOf}
use Rattle.pur_attrlist.proofs.TextLaws.{same_text, is_same_text-sym}
use Rattle.pur_attrlist.proofs.AttributeLaws.{has_name-removed}
use Rattle.pur_attrlist.proofs.StorageLaws.{place_of-absent, map-remove}

none_parts : (b : Bool) (r : Option ℕ) → (if b then Some 0 else option_map suc r) ≡ None → (b ≡ false) × (r ≡ None)
none_parts true r e = cc
none_parts false None e = (refl, refl)
none_parts false (Some k) e = cc

-- a new name at the end
pub place_of-push : (names : List (List ℕ)) (name text : List ℕ) → place_of names name ≡ None
    → place_of (names ++ name ∷ []) text ≡ cond (bytes_eq name text) (Some (length names)) (place_of names text)
place_of-push [] name text none = rw (is_same_text-sym text name) refl
place_of-push (first ∷ names) name text none =
    let parts = none_parts (bytes_eq name first) (place_of names name) none in
    ap (λ (r : Option ℕ). if bytes_eq text first then Some 0 else option_map suc r) (place_of-push names name text parts.1)
    ∙ by (bytes_eq name text) refl parts.0
  where
    by : (b : Bool) → bytes_eq name text ≡ b → bytes_eq name first ≡ false
        → (if bytes_eq text first then Some 0 else option_map suc (cond b (Some (length names)) (place_of names text)))
        ≡ cond b (Some (suc (length names))) (if bytes_eq text first then Some 0 else option_map suc (place_of names text))
    by true same other =
        let first_differs : bytes_eq text first ≡ false = ap (λ (t : List ℕ). bytes_eq t first) (sym (same_text name text same)) ∙ other in
        rw first_differs refl
    by false same other = refl

moved_from_suc : (r : Option ℕ) → r ≡ option_map (moved_down 0) (option_map suc r)
moved_from_suc None = refl
moved_from_suc (Some k) = grind (arith, common_steps)

moved_front : (gone : ℕ) → 0 ≡ moved_down (suc gone) 0
moved_front gone = grind (arith, common_steps)

moved_suc : (gone k : ℕ) → suc (moved_down gone k) ≡ moved_down (suc gone) (suc k)
moved_suc gone k = grind (arith, common_steps)

moved_later : (gone : ℕ) (r : Option ℕ) → option_map suc (option_map (moved_down gone) r) ≡ option_map (moved_down (suc gone)) (option_map suc r)
moved_later gone None = refl
moved_later gone (Some k) = ap (λ (n : ℕ). Some n) (moved_suc gone k)

-- another name, when one is taken out
other_moves : (names : List (List ℕ)) (gone : ℕ) (name text : List ℕ) → slice_get names gone ≡ Some name → bytes_eq text name ≡ false
    → place_of (remove names gone) text ≡ option_map (moved_down gone) (place_of names text)
other_moves [] gone name text e other = cc
other_moves (first ∷ names) zero name text e other =
    let same : first ≡ name = cc in
    let differs : bytes_eq text first ≡ false = ap (bytes_eq text) same ∙ other in
    rw differs (moved_from_suc (place_of names text))
other_moves (first ∷ names) (suc gone) name text e other =
    ap (λ (r : Option ℕ). if bytes_eq text first then Some 0 else option_map suc r) (other_moves names gone name text e other)
    ∙ by (bytes_eq text first) (place_of names text)
  where
    by : (b : Bool) (r : Option ℕ) → (if b then Some 0 else option_map suc (option_map (moved_down gone) r)) ≡ option_map (moved_down (suc gone)) (if b then Some 0 else option_map suc r)
    by true r = ap (λ (n : ℕ). Some n) (moved_front gone)
    by false r = moved_later gone r

-- a name is taken out, and stands nowhere else
pub place_of-remove : (names : List (List ℕ)) (gone : ℕ) (name text : List ℕ) → slice_get names gone ≡ Some name → place_of (remove names gone) name ≡ None
    → place_of (remove names gone) text ≡ option_map (moved_down gone) (cond (bytes_eq name text) None (place_of names text))
place_of-remove names gone name text e nowhere = by (bytes_eq name text) refl
  where
    by : (b : Bool) → bytes_eq name text ≡ b → place_of (remove names gone) text ≡ option_map (moved_down gone) (cond b None (place_of names text))
    by true same = ap (place_of (remove names gone)) (sym (same_text name text same)) ∙ nowhere
    by false same = other_moves names gone name text e (is_same_text-sym text name ∙ same)

-- the index after a pair with a new name
pub IsIndexOf-put : (old new : BTreeMap (String Global) ℕ) (pairs : List Attribute) (name value key : List ℕ) (place : ℕ) → IsIndexOf old pairs → IsUtf8 key
    → ((text : List ℕ) → get_by_text new text ≡ cond (bytes_eq key text) (Some place) (get_by_text old text)) → chars key ≡ name → place ≡ length pairs
    → has_name pairs name ≡ false → IsIndexOf new (pairs ++ (name, value) ∷ [])
IsIndexOf-put old new pairs name value key place index valid updated same_key at_end is_new =
    let names = names_of pairs in
    let nowhere : place_of names name ≡ None = place_of-absent name pairs is_new in
    let end : place ≡ length names = at_end ∙ sym (length-map pairs (λ (pair : Attribute). pair.0)) in
    record {
      finds = λ text utf8.
          rw (map-append (λ (pair : Attribute). pair.0) pairs ((name, value) ∷ []))
          (updated text
          ∙ rw (bytes_eq-chars key text valid utf8, same_key, end, index.finds text utf8) (sym (place_of-push names name (chars text) nowhere)));
    }

-- the index after a pair is taken out
pub IsIndexOf-take_out : (old less new : BTreeMap (String Global) ℕ) (pairs : List Attribute) (place : ℕ) (name key : List ℕ) → IsIndexOf old pairs → IsUtf8 key
    → ((text : List ℕ) → get_by_text less text ≡ cond (bytes_eq key text) None (get_by_text old text)) → chars key ≡ name
    → ((text : List ℕ) → get_by_text new text ≡ option_map (moved_down place) (get_by_text less text))
    → is_distinct pairs ≡ true → slice_get (names_of pairs) place ≡ Some name → IsIndexOf new (remove pairs place)
IsIndexOf-take_out old less new pairs place name key index valid removed same_key moved distinct named =
    let names = names_of pairs in
    let gone : names_of (remove pairs place) ≡ remove names place = map-remove (λ (pair : Attribute). pair.0) pairs place in
    let nowhere : place_of (remove names place) name ≡ None =
    ap (λ l. place_of l name) (sym gone) ∙ place_of-absent name (remove pairs place) (has_name-removed pairs name place distinct named) in
    record {
      finds = λ text utf8.
          moved text
          ∙ ap (option_map (moved_down place))
          (removed text ∙ rw (bytes_eq-chars key text valid utf8, same_key, index.finds text utf8) refl)
          ∙ sym (place_of-remove names place name (chars text) named nowhere)
          ∙ ap (λ l. place_of l (chars text)) (sym gone);
    }
