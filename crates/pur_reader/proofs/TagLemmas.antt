-- Tags and their attributes, as they are cut.
use Rattle.std.proofs.Common.{◌≡◌, ℕ, Bool, true, false, List, [], ◌∷◌, ◌++◌, length, refl, sym, ap, subst, ◌∙◌, append_assoc}
use Rattle.std.specs.Prelude.{◌==◌, ◌||◌, not}
use Rattle.std.specs.List.{list_all, list_any}
use Rattle.std.specs.Str.{bytes_eq}
use Rattle.std.proofs.lemmas.Bool.{and_parts, and_from, eqb-true, both_ways, not-true}
use Rattle.std.proofs.lemmas.List.{nil_from_length}
use Rattle.std.proofs.lemmas.Slice.Eq.{bytes_eq-Decides}
use Rattle.pur_laws.proofs.Lists.{all-append, all-parts}
use Rattle.pur_names.specs.declared.elements.Element.{Element}
use Rattle.pur_names.specs.Elements.{element_name}
use Rattle.pur_names.specs.Attributes.{attr_name, all_attrs}
use Rattle.pur_names.proofs.ElementLaws.{each_element}
use Rattle.pur_names.proofs.AttrLaws.{each_attr}
use Rattle.pur_text.specs.Characters.{is_allowed}
use Rattle.pur_attrlist.specs.Attributes.{Attribute, is_distinct, has_name, with_new, is_same_text}
use Rattle.pur_attrlist.proofs.AttributeLaws.{both_false, has_name-append, is_distinct-push, rest_is_distinct, first_is_new}
use Rattle.pur_tree.specs.Nodes.{PlainElem}
use Rattle.pur_tree.specs.Spelling.{escaped_value, attribute_text, attributes_text, is_attr_name, is_spellable_attribute, are_spellable}
use Rattle.pur_tree.proofs.CutLemmas.{is_stop, run_cut, tail_same}
use Rattle.pur_tree.proofs.AttributeLemmas.{values_alike}
use Rattle.pur_reader.proofs.CharacterLemmas.{some_named}
use Rattle.pur_reader.proofs.ReferenceLemmas.{no_quotes}
use Rattle.pur_reader.specs.Private.Escaping.{written_where, IsWritten}
use Rattle.pur_reader.specs.Private.Tags.{is_end, end_text, tag_text, IsTagRest, raw_attribute, IsAttributeFront}

-- ---- attributes in front

-- an attribute's parts are known from the text
pub record SameFront (n v r m w q : List ℕ) : Type 0 where
  pub name : n ≡ m
  pub value : v ≡ w
  pub rest : r ≡ q

pub front_same : (n v r m w q t : List ℕ) → IsAttributeFront n v r t → IsAttributeFront m w q t → SameFront n v r m w q
front_same n v r m w q t a b =
    let names = run_cut (λ c. c == 61) n m (61 ∷ 34 ∷ (v ++ 34 ∷ r)) (61 ∷ 34 ∷ (w ++ 34 ∷ q)) a.no_equals b.no_equals refl refl
    (tail_same 32 32 _ _ (sym a.is ∙ b.is)) in
    let values = run_cut (λ c. c == 34) v w (34 ∷ r) (34 ∷ q) a.no_quote b.no_quote refl refl (tail_same 34 34 _ _ (tail_same 61 61 _ _ names.1)) in
    record { name = names.0; value = values.0; rest = tail_same 34 34 _ _ values.1 }

-- what `cut_quoted` wants of the text behind a name
pub quoted_front : (name value rest n quoted front text : List ℕ) → IsAttributeFront name value rest text → text ≡ 32 ∷ front → front ≡ n ++ 61 ∷ quoted
    → list_any (λ c. c == 61) n ≡ false → quoted ≡ 34 ∷ (value ++ 34 ∷ rest)
quoted_front name value rest n quoted front text a e f none =
    tail_same 61 61 _ _ (run_cut (λ c. c == 61) n name (61 ∷ quoted) (61 ∷ 34 ∷ (value ++ 34 ∷ rest)) none a.no_equals refl refl
    (sym f ∙ tail_same 32 32 _ _ (sym e ∙ a.is))).1

pub no_equals : (name : List ℕ) → is_attr_name name ≡ true → list_any (λ c. c == 61) name ≡ false
no_equals name is = some_named all_attrs name (list_any (λ c. c == 61) name ≡ false)
    (λ a same. subst (λ n. list_any (λ c. c == 61) n ≡ false) same (not-true _ (each_attr (λ d. not (list_any (λ c. c == 61) (attr_name d))) refl a))) is

-- a spelled attribute in its parts
pub attribute_parts : (pair : Attribute) (x : List ℕ) → attribute_text pair ++ x ≡ raw_attribute pair.0 (escaped_value pair.1) x
attribute_parts pair x =
    ap (λ z. 32 ∷ z) (append_assoc pair.0 (61 ∷ 34 ∷ (escaped_value pair.1 ++ (34 ∷ []))) x
    ∙ ap (λ z. pair.0 ++ (61 ∷ 34 ∷ z)) (append_assoc (escaped_value pair.1) (34 ∷ []) x))

pub attribute_front : (pair : Attribute) (x t : List ℕ) → is_spellable_attribute pair ≡ true → t ≡ attribute_text pair ++ x → IsAttributeFront pair.0 (escaped_value pair.1) x t
attribute_front pair x t good e = record {
  no_equals = no_equals pair.0 (and_parts (is_attr_name pair.0) (list_all is_allowed pair.1) good).0;
  no_quote = no_quotes pair.1;
  is = e ∙ attribute_parts pair x;
}

-- what isn't so cut is no attribute
pub other_name : (name value rest t : List ℕ) → IsAttributeFront name value rest t → is_attr_name name ≡ false
    → (pair : Attribute) (x : List ℕ) → is_spellable_attribute pair ≡ true → t ≡ attribute_text pair ++ x → ⊥
other_name name value rest t front other pair x good e =
    let same = front_same name value rest pair.0 (escaped_value pair.1) x t front (attribute_front pair x t good e) in
    both_ways (is_attr_name name) other (ap is_attr_name same.name ∙ (and_parts (is_attr_name pair.0) (list_all is_allowed pair.1) good).0)

pub other_value : (name value rest t : List ℕ) → IsAttributeFront name value rest t → (IsWritten true value → ⊥)
    → (pair : Attribute) (x : List ℕ) → is_spellable_attribute pair ≡ true → t ≡ attribute_text pair ++ x → ⊥
unfolding escaped_value
other_value name value rest t front other pair x good e =
    let same = front_same name value rest pair.0 (escaped_value pair.1) x t front (attribute_front pair x t good e) in
    other (record { text = pair.1; allowed = (and_parts (is_attr_name pair.0) (list_all is_allowed pair.1) good).1; is = sym same.value })

pub attribute_read : (name value raw rest t : List ℕ) → IsAttributeFront name raw rest t → written_where true value ≡ raw → t ≡ attribute_text (name, value) ++ rest
unfolding escaped_value
attribute_read name value raw rest t front e =
    front.is ∙ ap (λ v. raw_attribute name v rest) (sym e) ∙ sym (attribute_parts (name, value) rest)

-- the attribute that begins a text is the one that was read
pub same_attribute : (pair other : Attribute) (x y t : List ℕ) → is_spellable_attribute pair ≡ true → is_spellable_attribute other ≡ true
    → t ≡ attribute_text pair ++ x → t ≡ attribute_text other ++ y → (pair ≡ other) × (x ≡ y)
same_attribute pair other x y t a b e f =
    let same = front_same _ _ x _ _ y t (attribute_front pair x t a e) (attribute_front other y t b f) in
    (ap (λ n. (n, pair.1)) same.name ∙ ap (λ v. (other.0, v)) (values_alike pair.1 other.1 same.value), same.rest)

-- ---- all attributes

pub end_is : (b : Bool) → is_end (end_text b) ≡ true
end_is true = refl
end_is false = refl

pub is_end_text : (t : List ℕ) → is_end t ≡ true → t ≡ end_text (not (length t == 0))
is_end_text t e = go (length t == 0) refl e
  where
    go : (b : Bool) → (length t == 0) ≡ b → (b || bytes_eq t (end_text true)) ≡ true → t ≡ end_text (not b)
    go true none e = nil_from_length t (eqb-true (length t) 0 none)
    go false some e = (bytes_eq-Decides t (end_text true)).0 e

-- where no tag ends, an attribute begins, of those that may stand behind the ones before
pub record Begins (attrs : List Attribute) (rest : List ℕ) : Type 0 where
  pub pair : Attribute
  pub more : List Attribute
  pub is_empty : Bool
  pub good : are_spellable (attrs ++ pair ∷ more) ≡ true
  pub one : is_spellable_attribute pair ≡ true
  pub new : has_name attrs pair.0 ≡ false
  pub is : rest ≡ attribute_text pair ++ (attributes_text more ++ end_text is_empty)

-- the names of later attributes are others
new_name : (attrs more : List Attribute) (pair : Attribute) → is_distinct (attrs ++ pair ∷ more) ≡ true → has_name attrs pair.0 ≡ false
new_name [] more pair good = refl
new_name (a ∷ attrs) more pair good = go (is_same_text pair.0 a.0) refl (new_name attrs more pair (rest_is_distinct a (attrs ++ pair ∷ more) good))
  where
    go : (b : Bool) → is_same_text pair.0 a.0 ≡ b → has_name attrs pair.0 ≡ false → (b || has_name attrs pair.0) ≡ false
    go false e none = none
    go true e none =
        let same : pair.0 ≡ a.0 = (bytes_eq-Decides pair.0 a.0).0 e in
        let absent : has_name (attrs ++ pair ∷ more) a.0 ≡ false = first_is_new a (attrs ++ pair ∷ more) good in
        let parts = both_false (has_name attrs a.0) (has_name (pair ∷ more) a.0) (sym (has_name-append attrs (pair ∷ more) a.0) ∙ absent) in
        let here = both_false (is_same_text a.0 pair.0) (has_name more a.0) parts.1 in
        absurd (both_ways (is_same_text a.0 pair.0) here.0 ((bytes_eq-Decides a.0 pair.0).1 (sym same)))

pub begins : (attrs : List Attribute) (rest : List ℕ) → IsTagRest attrs rest → is_end rest ≡ false → Begins attrs rest
begins attrs rest w other = go w.more w.good w.is
  where
    go : (more : List Attribute) → are_spellable (attrs ++ more) ≡ true → attributes_text more ++ end_text w.is_empty ≡ rest → Begins attrs rest
    go [] good e = absurd (both_ways (is_end rest) other (ap is_end (sym e) ∙ end_is w.is_empty))
    go (pair ∷ more) good e =
        let both = and_parts (list_all is_spellable_attribute (attrs ++ pair ∷ more)) (is_distinct (attrs ++ pair ∷ more)) good in
        let later = all-parts is_spellable_attribute attrs (pair ∷ more) both.0 in
        record {
          pair = pair;
          more = more;
          is_empty = w.is_empty;
          good = good;
          one = (and_parts (is_spellable_attribute pair) (list_all is_spellable_attribute more) later.1).0;
          new = new_name attrs more pair both.1;
          is = sym e ∙ append_assoc (attribute_text pair) (attributes_text more) (end_text w.is_empty);
        }

-- an attribute that was read is the one that begins, and the rest is the rest
pub attribute_taken : (attrs : List Attribute) (pair : Attribute) (rest behind : List ℕ) → is_spellable_attribute pair ≡ true → rest ≡ attribute_text pair ++ behind
    → Begins attrs rest → IsTagRest (attrs ++ pair ∷ []) behind
attribute_taken attrs pair rest behind good e b =
    let same = same_attribute b.pair pair _ behind rest b.one good b.is e in
    record {
      more = b.more;
      is_empty = b.is_empty;
      good = ap are_spellable (append_assoc attrs (pair ∷ []) b.more ∙ ap (λ p. attrs ++ p ∷ b.more) (sym same.0)) ∙ b.good;
      is = same.1;
    }

-- one whose name stands already isn't
pub name_taken : (attrs : List Attribute) (pair : Attribute) (rest behind : List ℕ) → is_spellable_attribute pair ≡ true → rest ≡ attribute_text pair ++ behind
    → has_name attrs pair.0 ≡ true → Begins attrs rest → ⊥
name_taken attrs pair rest behind good e has b =
    let same = same_attribute b.pair pair _ behind rest b.one good b.is e in
    both_ways (has_name attrs pair.0) (ap (λ (p : Attribute). has_name attrs p.0) (sym same.0) ∙ b.new) has

pub new_is_last : (attrs : List Attribute) (name value : List ℕ) → has_name attrs name ≡ false → with_new attrs name value ≡ attrs ++ (name, value) ∷ []
new_is_last attrs name value e = rw e refl

pub one_more_is_good : (attrs : List Attribute) (name value : List ℕ) → are_spellable attrs ≡ true → is_spellable_attribute (name, value) ≡ true → has_name attrs name ≡ false
    → are_spellable (attrs ++ (name, value) ∷ []) ≡ true
one_more_is_good attrs name value good one new =
    let both = and_parts (list_all is_spellable_attribute attrs) (is_distinct attrs) good in
    and_from _ _ (all-append is_spellable_attribute attrs ((name, value) ∷ []) both.0 (and_from _ _ one refl)) (is_distinct-push attrs name value both.1 new)

pub attributes_text-push : (attrs : List Attribute) (pair : Attribute) (x : List ℕ) → attributes_text (attrs ++ pair ∷ []) ++ x ≡ attributes_text attrs ++ (attribute_text pair ++ x)
attributes_text-push [] pair x = append_assoc (attribute_text pair) [] x
attributes_text-push (a ∷ attrs) pair x =
    append_assoc (attribute_text a) (attributes_text (attrs ++ pair ∷ [])) x ∙ ap (λ t. attribute_text a ++ t) (attributes_text-push attrs pair x)
    ∙ sym (append_assoc (attribute_text a) (attributes_text attrs) (attribute_text pair ++ x))

-- ---- tags

no_space : (e : Element) → list_any (λ c. c == 32) (element_name e) ≡ false
no_space e = not-true _ (each_element (λ d. not (list_any (λ c. c == 32) (element_name d))) refl e)

stops_at_space : (attrs : List Attribute) (b : Bool) → is_stop (λ c. c == 32) (attributes_text attrs ++ end_text b) ≡ true
stops_at_space [] true = refl
stops_at_space [] false = refl
stops_at_space (a ∷ attrs) b = refl

-- the name of a tag, and what stands behind it
pub tag_cut : (e : PlainElem) (b : Bool) (inner name rest : List ℕ) → inner ≡ tag_text e b → inner ≡ name ++ rest → list_any (λ c. c == 32) name ≡ false
    → is_stop (λ c. c == 32) rest ≡ true → (element_name e.name ≡ name) × (attributes_text e.attrs ++ end_text b ≡ rest)
tag_cut e b inner name rest is cut none stops =
    run_cut (λ c. c == 32) (element_name e.name) name (attributes_text e.attrs ++ end_text b) rest (no_space e.name) none (stops_at_space e.attrs b) stops (sym is ∙ cut)

pub is_tag_rest : (e : PlainElem) (b : Bool) (rest : List ℕ) → are_spellable e.attrs ≡ true → attributes_text e.attrs ++ end_text b ≡ rest → IsTagRest [] rest
is_tag_rest e b rest good is = record { more = e.attrs; is_empty = b; good = good; is = is }
