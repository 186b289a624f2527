-- The URI that `src` writes: what it is where a pair is put behind others, and that no other name changes it.
use Rattle.std.proofs.Common.{◌≡◌, ℕ, Bool, true, false, cond, List, [], ◌∷◌, ◌++◌, Option, Some, None, refl, sym, ap, ◌∙◌, encode_utf8_all}
use Rattle.std.specs.Prelude.{codes}
use Rattle.std.specs.Option.{option_and_then, option_or}
use Rattle.std.proofs.lemmas.Bool.{cond-true, cond-false}
use Rattle.pur_attrlist.specs.Attributes.{Attribute, is_same_text, has_name, value_of, with_new}
use Rattle.pur_attrlist.proofs.AttributeLaws.{value_of-absent}
use Rattle.pur_attrlist.proofs.TextLaws.{same_text, is_same_text-refl}
use Rattle.pur_uri.specs.Uris.{PlainUri, uri_of}
use Rattle.pur_validity.specs.Attributes.{source_in}
use Rattle.pur_attrs.specs.Ids.{with_id}
use Rattle.pur_attrs.specs.Steps.{with_language}
use Rattle.pur_attrs.specs.Private.Parts.{source_of}
use Rattle.pur_attrs.proofs.ElementLemmas.{language-other}
use Rattle.pur_attrs.proofs.PairLemmas.{value_of-with_other, value_of-without_other, value_of-new_other}

abbrev written : Option (List ℕ) → Option PlainUri
written found = option_and_then (λ value. uri_of (encode_utf8_all value)) found

value_of-behind : (pairs : List Attribute) (name value : List ℕ) → value_of pairs name ≡ None → value_of (pairs ++ (name, value) ∷ []) name ≡ Some value
value_of-behind [] name value none = ap (λ b. cond b (Some value) None) (is_same_text-refl name)
value_of-behind (pair ∷ pairs) name value none = go (is_same_text name pair.0) none (value_of-behind pairs name value)
  where
    go : (b : Bool) → cond b (Some pair.1) (value_of pairs name) ≡ None
        → (value_of pairs name ≡ None → value_of (pairs ++ (name, value) ∷ []) name ≡ Some value)
        → cond b (Some pair.1) (value_of (pairs ++ (name, value) ∷ []) name) ≡ Some value
    go true is rest = absurd (cc)
    go false is rest = rest is

or-none : (o : Option PlainUri) → option_or o None ≡ o
or-none None = refl
or-none (Some uri) = refl

-- a pair whose name is new brings what it writes
pub source-more : (attrs : List Attribute) (name value : List ℕ) → has_name attrs name ≡ false
    → option_or (source_of attrs) (source_in name value) ≡ source_of (with_new attrs name value)
source-more attrs name value new = go (is_same_text (codes "src") name) refl
  where
    go : (b : Bool) → is_same_text (codes "src") name ≡ b
        → option_or (source_of attrs) (cond b (uri_of (encode_utf8_all value)) None) ≡ source_of (with_new attrs name value)
    go true e =
        let same : codes "src" ≡ name = same_text (codes "src") name e in
        let none : value_of attrs name ≡ None = value_of-absent attrs name new in
        ap (λ o. option_or (written o) (uri_of (encode_utf8_all value))) (ap (value_of attrs) same ∙ none)
        ∙ ap written (sym (value_of-behind attrs name value none))
        ∙ ap (λ n. written (value_of (attrs ++ (name, value) ∷ []) n)) (sym same)
        ∙ ap source_of (sym (cond-false (has_name attrs name) attrs (attrs ++ (name, value) ∷ []) new))
    go false e = or-none (source_of attrs) ∙ ap written (sym (value_of-new_other attrs name (codes "src") value e))

-- and one whose name is there brings nothing
pub source-same : (attrs : List Attribute) (name value : List ℕ) → has_name attrs name ≡ true → source_of attrs ≡ source_of (with_new attrs name value)
source-same attrs name value has = ap source_of (sym (cond-true (has_name attrs name) attrs (attrs ++ (name, value) ∷ []) has))

-- what becomes of an id leaves it, and so do languages
pub source-id : (told : List (Option (List ℕ))) (attrs : List Attribute) → source_of (with_id told attrs) ≡ source_of attrs
source-id [] attrs = refl
source-id (None ∷ more) attrs = ap written (value_of-without_other attrs (codes "id") (codes "src") refl)
source-id (Some id ∷ more) attrs = ap written (value_of-with_other attrs (codes "id") (codes "src") id refl)

pub source-language : (language : Option (List ℕ)) (attrs : List Attribute) → source_of (with_language language attrs) ≡ source_of attrs
source-language language attrs = ap written (language-other language attrs (codes "src") refl refl)
