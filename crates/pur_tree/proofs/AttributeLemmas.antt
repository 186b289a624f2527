-- Attributes in a tag: where each ends, and where the tag ends.
use Rattle.std.proofs.Common.{◌≡◌, ℕ, List, [], ◌∷◌, ◌++◌, refl, ap, sym, subst, ◌∙◌, Bool, true, false, ◌&&◌, ◌||◌, ◌==◌, not, if◌then◌else◌, slice_index, codes, append_assoc}
use Rattle.std.specs.List.{list_all, list_any}
use Rattle.std.specs.Str.{bytes_eq}
use Rattle.std.proofs.lemmas.Bool.{and_parts, eqb-true, not-true}
use Rattle.std.proofs.lemmas.List.{append_cancel_left}
use Rattle.std.proofs.lemmas.List.Folds.{list_any-append}
use Rattle.std.proofs.lemmas.Slice.Eq.{bytes_eq-Decides}
use Rattle.pur_text.specs.Escapes.{escape}
use Rattle.pur_names.specs.declared.attributes.Attr.{Attr}
use Rattle.pur_names.specs.Attributes.{attr_name, all_attrs}
use Rattle.pur_names.specs.Elements.{element_name}
use Rattle.pur_attrlist.specs.Attributes.{Attribute}
use Rattle.pur_tree.specs.Nodes.{PlainElem}
use Rattle.pur_tree.specs.Spelling.{escape_in_value, escaped_value, attribute_text, attributes_text, is_attr_name, is_spellable_attribute}
use Rattle.pur_tree.proofs.CutLemmas.{is_stop, run_cut, tail_same}
use Rattle.pur_tree.proofs.EscapeLemmas.{form_of, escape-form}
use Rattle.pur_tree.proofs.NameLemmas.{is_name_end, is_closer, tag_is_no_closer}

-- what holds of all names of some attributes holds of each of them
pub names_pass : (test : List ℕ → Bool) (as' : List Attr) (name : List ℕ) → list_all (λ a. test (attr_name a)) as' ≡ true
    → list_any (λ a. bytes_eq (attr_name a) name) as' ≡ true → test name ≡ true
names_pass test [] name all some = absurd (cc)
names_pass test (a ∷ as') name all some = go (bytes_eq (attr_name a) name) refl some (names_pass test as' name (and_parts _ _ all).1)
  where
    go : (b : Bool) → bytes_eq (attr_name a) name ≡ b → (b || list_any (λ a. bytes_eq (attr_name a) name) as') ≡ true
        → (list_any (λ a. bytes_eq (attr_name a) name) as' ≡ true → test name ≡ true) → test name ≡ true
    go true h s r = subst (λ n. test n ≡ true) ((bytes_eq-Decides (attr_name a) name).0 h) (and_parts _ _ all).0
    go false h s r = r s

-- a text begins with a slash
abbrev pub has_slash : List ℕ → Bool
has_slash [] = false
has_slash (c ∷ x) = c == 47

no_equals : (name : List ℕ) → is_attr_name name ≡ true → list_any (λ c. c == 61) name ≡ false
no_equals name h = not-true _ (names_pass (λ n. not (list_any (λ c. c == 61) n)) all_attrs name refl h)

no_slash : (name : List ℕ) → is_attr_name name ≡ true → has_slash name ≡ false
no_slash name h = not-true _ (names_pass (λ n. not (has_slash n)) all_attrs name refl h)

-- the end of a tag behind its attributes
abbrev pub is_tag_end : List ℕ → Bool
is_tag_end [] = false
is_tag_end (c ∷ x) = (c == 62) || ((c == 32) && has_slash x)

-- the forms that a character of a value is written in
abbrev value_form : Bool → Bool → Bool → Bool → ℕ → List ℕ
value_form true a l g c = codes "&quot;"
value_form false a l g c = form_of a l g c

value_form-of : (c : ℕ) → escape_in_value c ≡ value_form (c == 34) (c == 38) (c == 60) (c == 62) c
value_form-of c = go (c == 34)
  where
    go : (q : Bool) → (if q then codes "&quot;" else escape c) ≡ value_form q (c == 38) (c == 60) (c == 62) c
    go true = refl
    go false = escape-form c

-- no quotation mark stands in a written value
no_quote_in_form : (q a l g : Bool) (c : ℕ) → (c == 34) ≡ q → list_any (λ d. d == 34) (value_form q a l g c) ≡ false
no_quote_in_form true a l g c h = refl
no_quote_in_form false true l g c h = refl
no_quote_in_form false false true g c h = refl
no_quote_in_form false false false true c h = refl
no_quote_in_form false false false false c h = rw h refl

pub no_quote : (s : List ℕ) → list_any (λ d. d == 34) (escaped_value s) ≡ false
unfolding escaped_value
no_quote [] = refl
no_quote (c ∷ s) =
    list_any-append (λ d. d == 34) (escape_in_value c) (escaped_value s)
    ∙ ap (λ b. b || list_any (λ d. d == 34) (escaped_value s)) (ap (list_any (λ d. d == 34)) (value_form-of c) ∙ no_quote_in_form (c == 34) (c == 38) (c == 60) (c == 62) c refl)
    ∙ no_quote s

-- the character that a written value begins with
abbrev front_char : List ℕ → ℕ
front_char [] = 0
front_char (a ∷ x) =
    if a == 38 then (if slice_index x 0 == 113 then 34 else (if slice_index x 0 == 97 then 38 else (if slice_index x 0 == 108 then 60 else 62))) else a

front_char-form : (c : ℕ) (x : List ℕ) (q : Bool) → (c == 34) ≡ q → (a : Bool) → (c == 38) ≡ a → (l : Bool) → (c == 60) ≡ l → (g : Bool) → (c == 62) ≡ g
    → front_char (value_form q a l g c ++ x) ≡ c
front_char-form c x true o a p l q g r = sym (eqb-true c 34 o)
front_char-form c x false o true p l q g r = sym (eqb-true c 38 p)
front_char-form c x false o false p true q g r = sym (eqb-true c 60 q)
front_char-form c x false o false p false q true r = sym (eqb-true c 62 r)
front_char-form c x false o false p false q false r = rw p refl

front_char-escape : (c : ℕ) (x : List ℕ) → front_char (escape_in_value c ++ x) ≡ c
front_char-escape c x =
    ap (λ e. front_char (e ++ x)) (value_form-of c) ∙ front_char-form c x (c == 34) refl (c == 38) refl (c == 60) refl (c == 62) refl

-- a written character isn't empty
pub record ValueFront (c : ℕ) : Type 0 where
  pub head : ℕ
  pub tail : List ℕ
  pub is : escape_in_value c ≡ head ∷ tail

value_front : (c : ℕ) → ValueFront c
value_front c = go (c == 34) (c == 38) (c == 60) (c == 62) (value_form-of c)
  where
    go : (q a l g : Bool) → escape_in_value c ≡ value_form q a l g c → ValueFront c
    go true a l g h = record { head = 38; tail = codes "quot;"; is = h }
    go false true l g h = record { head = 38; tail = codes "amp;"; is = h }
    go false false true g h = record { head = 38; tail = codes "lt;"; is = h }
    go false false false true h = record { head = 38; tail = codes "gt;"; is = h }
    go false false false false h = record { head = c; tail = []; is = h }

-- two values that are written alike are one
pub values_alike : (s t : List ℕ) → escaped_value s ≡ escaped_value t → s ≡ t
unfolding escaped_value
values_alike [] [] h = refl
values_alike [] (d ∷ t) h = absurd (let f = value_front d in let w : [] ≡ f.head ∷ (f.tail ++ escaped_value t) = h ∙ ap (λ e. e ++ escaped_value t) f.is in cc)
values_alike (c ∷ s) [] h = absurd (let f = value_front c in let w : [] ≡ f.head ∷ (f.tail ++ escaped_value s) = sym h ∙ ap (λ e. e ++ escaped_value s) f.is in cc)
values_alike (c ∷ s) (d ∷ t) h =
    let same : c ≡ d = sym (front_char-escape c (escaped_value s)) ∙ ap front_char h ∙ front_char-escape d (escaped_value t) in
    let rest : s ≡ t = values_alike s t (append_cancel_left (escape_in_value d) (escaped_value s) (escaped_value t) (ap (λ e. escape_in_value e ++ escaped_value s) (sym same) ∙ h)) in
    ap (λ e. e ∷ s) same ∙ ap (λ u. d ∷ u) rest

-- a tag in its parts, with what stands behind it
pub tag_front : (name attrs end t y : List ℕ) → ((60 ∷ (name ++ (attrs ++ end))) ++ t) ++ y ≡ 60 ∷ (name ++ (attrs ++ (end ++ (t ++ y))))
tag_front name attrs end t y =
    ap (λ z. 60 ∷ z) (append_assoc (name ++ (attrs ++ end)) t y ∙ append_assoc name (attrs ++ end) (t ++ y) ∙ ap (λ z. name ++ z) (append_assoc attrs end (t ++ y)))

-- an attribute is no end of a tag
attribute_is_no_end : (pair : Attribute) (x : List ℕ) → is_attr_name pair.0 ≡ true → is_tag_end (attribute_text pair ++ x) ≡ false
attribute_is_no_end pair x h = go pair.0 (no_slash pair.0 h)
  where
    go : (n : List ℕ) → has_slash n ≡ false → has_slash ((n ++ (61 ∷ 34 ∷ (escaped_value pair.1 ++ (34 ∷ [])))) ++ x) ≡ false
    go [] e = refl
    go (c ∷ n) e = e

-- an attribute in its parts, with what stands behind it
attribute_parts : (pair : Attribute) (x : List ℕ) → attribute_text pair ++ x ≡ 32 ∷ (pair.0 ++ (61 ∷ 34 ∷ (escaped_value pair.1 ++ (34 ∷ x))))
attribute_parts pair x =
    ap (λ z. 32 ∷ z) (append_assoc pair.0 (61 ∷ 34 ∷ (escaped_value pair.1 ++ (34 ∷ []))) x
    ∙ ap (λ z. pair.0 ++ (61 ∷ 34 ∷ z)) (append_assoc (escaped_value pair.1) (34 ∷ []) x))

no_end : {A : Type 0} (x y : List ℕ) → is_tag_end x ≡ true → is_tag_end y ≡ false → x ≡ y → A
no_end x y p q e = absurd (let w = ap is_tag_end e in cc)

-- two lists of attributes with one text, up to the end of the tag, are one
pub attributes_cut : (as' bs : List Attribute) (x y : List ℕ) → list_all is_spellable_attribute as' ≡ true → list_all is_spellable_attribute bs ≡ true
    → is_tag_end x ≡ true → is_tag_end y ≡ true → attributes_text as' ++ x ≡ attributes_text bs ++ y → (as' ≡ bs) × (x ≡ y)
attributes_cut [] [] x y p q s t h = (refl, h)
attributes_cut [] (b ∷ bs) x y p q s t h =
    no_end x _ s (attribute_is_no_end b (attributes_text bs ++ y) (and_parts _ _ (and_parts (is_spellable_attribute b) _ q).0).0) (h ∙ append_assoc (attribute_text b) (attributes_text bs) y)
attributes_cut (a ∷ as') [] x y p q s t h =
    no_end y _ t (attribute_is_no_end a (attributes_text as' ++ x) (and_parts _ _ (and_parts (is_spellable_attribute a) _ p).0).0) (sym h ∙ append_assoc (attribute_text a) (attributes_text as') x)
attributes_cut (a ∷ as') (b ∷ bs) x y p q s t h =
    let more = attributes_text as' ++ x in
    let others = attributes_text bs ++ y in
    let whole : attribute_text a ++ more ≡ attribute_text b ++ others = sym (append_assoc (attribute_text a) (attributes_text as') x) ∙ h ∙ append_assoc (attribute_text b) (attributes_text bs) y in
    let name = run_cut (λ c. c == 61) a.0 b.0 (61 ∷ 34 ∷ (escaped_value a.1 ++ (34 ∷ more))) (61 ∷ 34 ∷ (escaped_value b.1 ++ (34 ∷ others)))
    (no_equals a.0 (and_parts _ _ (and_parts (is_spellable_attribute a) _ p).0).0) (no_equals b.0 (and_parts _ _ (and_parts (is_spellable_attribute b) _ q).0).0) refl refl
    (tail_same 32 32 _ _ (sym (attribute_parts a more) ∙ whole ∙ attribute_parts b others)) in
    let value = run_cut (λ c. c == 34) (escaped_value a.1) (escaped_value b.1) (34 ∷ more) (34 ∷ others) (no_quote a.1) (no_quote b.1) refl refl
    (tail_same 34 34 _ _ (tail_same 61 61 _ _ name.1)) in
    let rest = attributes_cut as' bs x y (and_parts (is_spellable_attribute a) _ p).1 (and_parts (is_spellable_attribute b) _ q).1 s t (tail_same 34 34 _ _ value.1) in
    (ap (λ n. (n, a.1) ∷ as') name.0 ∙ ap (λ v. (b.0, v) ∷ as') (values_alike a.1 b.1 value.0) ∙ ap (λ r. b ∷ r) rest.0, rest.1)

end_stops : (a b s : Bool) → (a || (b && s)) ≡ true → (b || a) ≡ true
end_stops true true s h = refl
end_stops true false s h = refl
end_stops false true s h = refl
end_stops false false s h = absurd (cc)

-- behind the name of a tag stands what ends a name
pub name_ends : (as' : List Attribute) (x : List ℕ) → is_tag_end x ≡ true → is_stop is_name_end (attributes_text as' ++ x) ≡ true
name_ends [] [] h = absurd (cc)
name_ends [] (c ∷ x) h = end_stops (c == 62) (c == 32) (has_slash x) h
name_ends (a ∷ as') x h = refl

-- a tag that begins with a name is no end tag
pub tag_no_closer : (e : PlainElem) (x : List ℕ) → is_tag_end x ≡ true → is_closer (60 ∷ (element_name e.name ++ (attributes_text e.attrs ++ x))) ≡ false
tag_no_closer e x h = go e.attrs x h
  where
    go : (as' : List Attribute) (x : List ℕ) → is_tag_end x ≡ true → is_closer (60 ∷ (element_name e.name ++ (attributes_text as' ++ x))) ≡ false
    go [] [] h = absurd (cc)
    go [] (c ∷ x) h = tag_is_no_closer e.name c x
    go (a ∷ as') x h = tag_is_no_closer e.name 32 (((a.0 ++ (61 ∷ 34 ∷ (escaped_value a.1 ++ (34 ∷ [])))) ++ attributes_text as') ++ x)
