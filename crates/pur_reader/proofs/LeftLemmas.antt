-- What is left of a spelling, by what it begins with.
use Rattle.std.proofs.Common.{◌≡◌, ◌≤◌, ℕ, Bool, true, false, List, [], ◌∷◌, ◌++◌, refl, sym, ap, subst, ◌∙◌, append_assoc, arith, cond}
use Rattle.std.specs.Prelude.{◌==◌, ◌||◌, not}
use Rattle.std.specs.List.{list_all, list_any}
use Rattle.std.proofs.lemmas.Bool.{and_parts, eqb-true, both_ways, not-true}
use Rattle.std.proofs.lemmas.List.Folds.{list_any-append}
use Rattle.pur_laws.proofs.Tests.{same_number}
use Rattle.pur_names.specs.declared.elements.Element.{Element}
use Rattle.pur_names.specs.Elements.{element_name}
use Rattle.pur_names.specs.Attributes.{attr_name, all_attrs}
use Rattle.pur_names.proofs.ElementLaws.{each_element, element_name-distinct}
use Rattle.pur_names.proofs.AttrLaws.{each_attr}
use Rattle.pur_modules.specs.Contents.{is_empty_element}
use Rattle.pur_text.specs.Characters.{is_allowed}
use Rattle.pur_text.specs.Escapes.{escaped}
use Rattle.pur_attrlist.specs.Attributes.{Attribute, is_distinct}
use Rattle.pur_attrlist.proofs.AttributeLaws.{both_false}
use Rattle.pur_tree.specs.Nodes.{PlainElem, plain_elem, Nodes, starts_with_text, level_in}
use Rattle.pur_tree.specs.Places.{Place, fragment, inside, inside_all, LevelFits}
use Rattle.pur_tree.specs.Spelling.{escaped_value, attribute_text, attributes_text, is_attr_name, is_spellable_attribute, are_spellable, start_tag_of, end_tag_of, empty_tag_of, Spells, spells_nothing, spells_text, spells_empty, spells_element}
use Rattle.pur_tree.proofs.CutLemmas.{is_stop, run_cut, head_same, tail_same}
use Rattle.pur_tree.proofs.NameLemmas.{is_closer}
use Rattle.pur_tree.proofs.EscapeLemmas.{escape_front, no_tag_in_escaped}
use Rattle.pur_tree.proofs.AttributeLemmas.{is_tag_end, tag_no_closer, attributes_cut}
use Rattle.pur_reader.proofs.CharacterLemmas.{some_named}
use Rattle.pur_reader.proofs.ReferenceLemmas.{no_closes}
use Rattle.pur_reader.proofs.TagLemmas.{tag_cut}
use Rattle.pur_reader.specs.Private.Escaping.{IsWritten}
use Rattle.pur_reader.specs.Private.Tags.{end_text, tag_text}
use Rattle.pur_reader.specs.Private.Reading.{is_tag_front, Left, left_nothing, left_text, left_empty, left_start, left_end}

-- ---- texts

stop_is : (t : List ℕ) → is_tag_front t ≡ true → is_stop (λ c. c == 60) t ≡ true
stop_is [] h = refl
stop_is (c ∷ t) h = h

-- a written text, and what stands behind it, by their first character
record TextFront (c : ℕ) (s z : List ℕ) : Type 0 where
  pub head : ℕ
  pub tail : List ℕ
  pub is : escaped (c ∷ s) ++ z ≡ head ∷ tail
  pub no_tag : (head == 60) ≡ false

text_front : (c : ℕ) (s z : List ℕ) → TextFront c s z
unfolding escaped
text_front c s z = let f = escape_front c in record { head = f.head; tail = (f.tail ++ escaped s) ++ z; is = ap (λ e. (e ++ escaped s) ++ z) f.is; no_tag = f.no_tag }

text_is_no_tag : {A : Type 0} (c : ℕ) (s z w : List ℕ) → escaped (c ∷ s) ++ z ≡ 60 ∷ w → A
text_is_no_tag c s z w h =
    let f = text_front c s z in
    absurd (both_ways (f.head == 60) f.no_tag (rw (head_same f.head 60 f.tail w (sym f.is ∙ h)) refl))

-- what begins with a `<` begins with nothing else
tag_is_no_text : {A : Type 0} (a : ℕ) (run z w : List ℕ) → list_any (λ c. c == 60) (a ∷ run) ≡ false → 60 ∷ w ≡ a ∷ z → A
tag_is_no_text a run z w none h =
    absurd (both_ways (a == 60) (both_false (a == 60) (list_any (λ c. c == 60) run) none).0 (ap (λ c. c == 60) (sym (head_same 60 a w z h)) ∙ same_number 60))

pub record TextLeft (es : List Element) (run behind : List ℕ) : Type 0 where
  pub written : IsWritten false run
  pub left : Left es behind

pub text_left : {es : List Element} {u : List ℕ} → Left es u → (a : ℕ) (run behind : List ℕ) → u ≡ a ∷ (run ++ behind) → list_any (λ c. c == 60) (a ∷ run) ≡ false
    → is_tag_front behind ≡ true → TextLeft es (a ∷ run) behind
unfolding escaped
text_left left_nothing a run behind e none front = absurd (cc)
text_left {es} (left_text c s t all stops more) a run behind e none front =
    let cut = run_cut (λ c. c == 60) (escaped (c ∷ s)) (a ∷ run) t behind (no_tag_in_escaped (c ∷ s)) none (stop_is t stops) (stop_is behind front) e in
    record { written = record { text = c ∷ s; allowed = all; is = cut.0 }; left = subst (λ v. Left es v) cut.1 more }
text_left (left_empty d t empty good low more) a run behind e none front = tag_is_no_text a run _ _ none e
text_left (left_start d t full good low more) a run behind e none front = tag_is_no_text a run _ _ none e
text_left (left_end es d t same more) a run behind e none front = tag_is_no_text a run _ _ none e

-- ---- tags

tag_parts : (name attrs end t : List ℕ) → (60 ∷ (name ++ (attrs ++ end))) ++ t ≡ 60 ∷ (name ++ (attrs ++ (end ++ t)))
tag_parts name attrs end t = ap (λ z. 60 ∷ z) (append_assoc name (attrs ++ end) t ∙ ap (λ z. name ++ z) (append_assoc attrs end t))

-- a tag with its end taken apart
end_parts : (e : PlainElem) (b : Bool) (t : List ℕ) → tag_text e b ++ 62 ∷ t ≡ element_name e.name ++ (attributes_text e.attrs ++ (end_text b ++ 62 ∷ t))
end_parts e b t =
    append_assoc (element_name e.name) (attributes_text e.attrs ++ end_text b) (62 ∷ t)
    ∙ ap (λ z. element_name e.name ++ z) (append_assoc (attributes_text e.attrs) (end_text b) (62 ∷ t))

pub empty_parts : (e : PlainElem) (t : List ℕ) → empty_tag_of e ++ t ≡ 60 ∷ (tag_text e true ++ 62 ∷ t)
empty_parts e t = tag_parts (element_name e.name) (attributes_text e.attrs) (32 ∷ 47 ∷ 62 ∷ []) t ∙ ap (λ z. 60 ∷ z) (sym (end_parts e true t))

pub start_parts : (e : PlainElem) (t : List ℕ) → start_tag_of e ++ t ≡ 60 ∷ (tag_text e false ++ 62 ∷ t)
start_parts e t = tag_parts (element_name e.name) (attributes_text e.attrs) (62 ∷ []) t ∙ ap (λ z. 60 ∷ z) (sym (end_parts e false t))

pub end_tag_parts : (e : Element) (t : List ℕ) → end_tag_of e ++ t ≡ 60 ∷ 47 ∷ (element_name e ++ 62 ∷ t)
end_tag_parts e t = ap (λ z. 60 ∷ 47 ∷ z) (append_assoc (element_name e) (62 ∷ []) t)

ends_tag : (b : Bool) (t : List ℕ) → is_tag_end (end_text b ++ 62 ∷ t) ≡ true
ends_tag true t = refl
ends_tag false t = refl

pub no_closer : (e : PlainElem) (b : Bool) (t : List ℕ) → is_closer (60 ∷ (tag_text e b ++ 62 ∷ t)) ≡ false
no_closer e b t = ap (λ z. is_closer (60 ∷ z)) (end_parts e b t) ∙ tag_no_closer e (end_text b ++ 62 ∷ t) (ends_tag b t)

pub record EndLeft (ds : List Element) (x : List ℕ) : Type 0 where
  pub outer : List Element
  pub name : Element
  pub rest : List ℕ
  pub same : ds ≡ outer ++ name ∷ []
  pub is : x ≡ element_name name ++ 62 ∷ rest
  pub left : Left outer rest

pub end_left : {ds : List Element} {u : List ℕ} → Left ds u → (x : List ℕ) → u ≡ 60 ∷ 47 ∷ x → EndLeft ds x
end_left left_nothing x h = absurd (cc)
end_left (left_text c s t all stops more) x h = text_is_no_tag c s t _ h
end_left (left_empty e t empty good low more) x h =
    absurd (both_ways _ (no_closer e true t) (ap is_closer (sym (empty_parts e t) ∙ h)))
end_left (left_start e t full good low more) x h =
    absurd (both_ways _ (no_closer e false t) (ap is_closer (sym (start_parts e t) ∙ h)))
end_left (left_end es e t same more) x h = record {
  outer = es;
  name = e;
  rest = t;
  same = same;
  is = tail_same 47 47 _ _ (tail_same 60 60 _ _ (sym h ∙ end_tag_parts e t));
  left = more;
}

-- what is open behind a tag
abbrev pub opened_behind : List Element → Element → Bool → List Element
opened_behind es e b = cond b es (es ++ e ∷ [])

pub record TagLeft (es : List Element) (x : List ℕ) : Type 0 where
  pub elem : PlainElem
  pub is_empty : Bool
  pub rest : List ℕ
  pub good : are_spellable elem.attrs ≡ true
  pub low : LevelFits es elem.name
  pub kind : is_empty_element elem.name ≡ is_empty
  pub is : x ≡ tag_text elem is_empty ++ 62 ∷ rest
  pub left : Left (opened_behind es elem.name is_empty) rest

pub tag_left : {es : List Element} {u : List ℕ} → Left es u → (x : List ℕ) → u ≡ 60 ∷ x → is_closer u ≡ false → TagLeft es x
tag_left left_nothing x h other = absurd (cc)
tag_left (left_text c s t all stops more) x h other = text_is_no_tag c s t _ h
tag_left (left_empty e t empty good low more) x h other = record {
  elem = e;
  is_empty = true;
  rest = t;
  good = good;
  low = low;
  kind = empty;
  is = tail_same 60 60 _ _ (sym h ∙ empty_parts e t);
  left = more;
}
tag_left (left_start e t full good low more) x h other = record {
  elem = e;
  is_empty = false;
  rest = t;
  good = good;
  low = low;
  kind = full;
  is = tail_same 60 60 _ _ (sym h ∙ start_parts e t);
  left = more;
}
tag_left (left_end es e t same more) x h other = absurd (cc)

-- ---- no `>` stands inside of a tag

pub no_close_in_name : (e : Element) → list_any (λ c. c == 62) (element_name e) ≡ false
no_close_in_name e = not-true _ (each_element (λ d. not (list_any (λ c. c == 62) (element_name d))) refl e)

no_close_in_attr_name : (name : List ℕ) → is_attr_name name ≡ true → list_any (λ c. c == 62) name ≡ false
no_close_in_attr_name name is = some_named all_attrs name (list_any (λ c. c == 62) name ≡ false)
    (λ a same. subst (λ n. list_any (λ c. c == 62) n ≡ false) same (not-true _ (each_attr (λ d. not (list_any (λ c. c == 62) (attr_name d))) refl a))) is

no_close_append : (a b : List ℕ) → list_any (λ c. c == 62) a ≡ false → list_any (λ c. c == 62) b ≡ false → list_any (λ c. c == 62) (a ++ b) ≡ false
no_close_append a b p q = list_any-append (λ c. c == 62) a b ∙ ap (λ v. v || list_any (λ c. c == 62) b) p ∙ q

no_close_in_attributes : (pairs : List Attribute) → list_all is_spellable_attribute pairs ≡ true → list_any (λ c. c == 62) (attributes_text pairs) ≡ false
no_close_in_attributes [] all = refl
no_close_in_attributes (pair ∷ pairs) all =
    let both = and_parts (is_spellable_attribute pair) (list_all is_spellable_attribute pairs) all in
    let name = no_close_in_attr_name pair.0 (and_parts (is_attr_name pair.0) (list_all is_allowed pair.1) both.0).0 in
    no_close_append (attribute_text pair) (attributes_text pairs)
    (no_close_append pair.0 (61 ∷ 34 ∷ (escaped_value pair.1 ++ 34 ∷ [])) name (no_close_append (escaped_value pair.1) (34 ∷ []) (no_closes pair.1) refl))
    (no_close_in_attributes pairs both.1)

no_close_at_end : (b : Bool) → list_any (λ c. c == 62) (end_text b) ≡ false
no_close_at_end true = refl
no_close_at_end false = refl

pub no_close_in_tag : (e : PlainElem) (b : Bool) → are_spellable e.attrs ≡ true → list_any (λ c. c == 62) (tag_text e b) ≡ false
no_close_in_tag e b good =
    no_close_append (element_name e.name) (attributes_text e.attrs ++ end_text b) (no_close_in_name e.name)
    (no_close_append (attributes_text e.attrs) (end_text b) (no_close_in_attributes e.attrs (and_parts (list_all is_spellable_attribute e.attrs) (is_distinct e.attrs) good).0) (no_close_at_end b))

-- ---- a tag that is cut at its `>`

pub record CutTag (es : List Element) (inner rest : List ℕ) : Type 0 where
  pub elem : PlainElem
  pub is_empty : Bool
  pub good : are_spellable elem.attrs ≡ true
  pub low : LevelFits es elem.name
  pub kind : is_empty_element elem.name ≡ is_empty
  pub is : inner ≡ tag_text elem is_empty
  pub left : Left (opened_behind es elem.name is_empty) rest

pub cut_tag : (es : List Element) (inner rest : List ℕ) → Left es (60 ∷ (inner ++ 62 ∷ rest)) → list_any (λ c. c == 62) inner ≡ false
    → is_closer (60 ∷ (inner ++ 62 ∷ rest)) ≡ false → CutTag es inner rest
cut_tag es inner rest left none other =
    let t = tag_left left (inner ++ 62 ∷ rest) refl other in
    let cut = run_cut (λ c. c == 62) inner (tag_text t.elem t.is_empty) (62 ∷ rest) (62 ∷ t.rest) none (no_close_in_tag t.elem t.is_empty t.good) refl refl t.is in
    record {
      elem = t.elem;
      is_empty = t.is_empty;
      good = t.good;
      low = t.low;
      kind = t.kind;
      is = cut.0;
      left = subst (λ v. Left (opened_behind es t.elem.name t.is_empty) v) (sym (tail_same 62 62 _ _ cut.1)) t.left;
    }

-- what doesn't begin with a slash begins no end tag
pub no_slash_no_closer : (inner rest : List ℕ) → ((x : List ℕ) → inner ≡ 47 ∷ x → ⊥) → is_closer (60 ∷ (inner ++ 62 ∷ rest)) ≡ false
no_slash_no_closer [] rest none = refl
no_slash_no_closer (a ∷ inner) rest none = go (a == 47) refl
  where
    go : (b : Bool) → (a == 47) ≡ b → (a == 47) ≡ false
    go false e = e
    go true e = absurd (none inner (ap (λ c. c ∷ inner) (eqb-true a 47 e)))

same_elem : (e d : PlainElem) → e.name ≡ d.name → e.attrs ≡ d.attrs → e ≡ d
same_elem e d p q = ap (λ n. plain_elem n e.attrs) p ∙ ap (plain_elem d.name) q

same_end : (b c : Bool) → end_text b ++ 62 ∷ [] ≡ end_text c ++ 62 ∷ [] → b ≡ c
same_end true true h = refl
same_end false false h = refl
same_end true false h = absurd (omega (arith, head_same 32 62 _ _ h))
same_end false true h = absurd (omega (arith, head_same 62 32 _ _ h))

no_space : (e : Element) → list_any (λ c. c == 32) (element_name e) ≡ false
no_space e = not-true _ (each_element (λ d. not (list_any (λ c. c == 32) (element_name d))) refl e)

stops_at_space : (attrs : List Attribute) (b : Bool) → is_stop (λ c. c == 32) (attributes_text attrs ++ end_text b) ≡ true
stops_at_space [] true = refl
stops_at_space [] false = refl
stops_at_space (a ∷ attrs) b = refl

-- a text is the inside of one tag at most
pub same_tag : (e d : PlainElem) (b c : Bool) → are_spellable e.attrs ≡ true → are_spellable d.attrs ≡ true → tag_text e b ≡ tag_text d c → (e ≡ d) × (b ≡ c)
same_tag e d b c p q h =
    let names = tag_cut e b (tag_text d c) (element_name d.name) (attributes_text d.attrs ++ end_text c) (sym h) refl (no_space d.name) (stops_at_space d.attrs c) in
    let ends = attributes_cut e.attrs d.attrs (end_text b ++ 62 ∷ []) (end_text c ++ 62 ∷ []) (and_parts (list_all is_spellable_attribute e.attrs) (is_distinct e.attrs) p).0
    (and_parts (list_all is_spellable_attribute d.attrs) (is_distinct d.attrs) q).0 (ends_tag b []) (ends_tag c [])
    (sym (append_assoc (attributes_text e.attrs) (end_text b) (62 ∷ [])) ∙ ap (λ t. t ++ 62 ∷ []) names.1 ∙ append_assoc (attributes_text d.attrs) (end_text c) (62 ∷ [])) in
    (same_elem e d (element_name-distinct e.name d.name names.0) ends.0, same_end b c ends.1)

-- where a tag is left, it fits
pub record Fitting (es : List Element) (e : PlainElem) (b : Bool) (rest : List ℕ) : Type 0 where
  pub low : LevelFits es e.name
  pub kind : is_empty_element e.name ≡ b
  pub left : Left (opened_behind es e.name b) rest

pub fitting : (es : List Element) (e : PlainElem) (b : Bool) (rest : List ℕ) → are_spellable e.attrs ≡ true → Left es (60 ∷ (tag_text e b ++ 62 ∷ rest)) → Fitting es e b rest
fitting es e b rest good left =
    let t = cut_tag es (tag_text e b) rest left (no_close_in_tag e b good) (no_closer e b rest) in
    let same = same_tag t.elem e t.is_empty b t.good good (sym t.is) in
    subst (λ d. Fitting es d b rest) same.0
    (subst (λ c. Fitting es t.elem c rest) same.1 (record { low = t.low; kind = t.kind; left = t.left }))

-- ---- a spelling is left

pub inside_last : (at : Place) (es : List Element) (e : Element) → inside_all at (es ++ e ∷ []) ≡ inside (inside_all at es) e
inside_last at [] e = refl
inside_last at (d ∷ es) e = inside_last (inside at d) es e

front_behind : {n : Nodes} {t : List ℕ} → Spells n t → (x : List ℕ) → starts_with_text n ≡ false → is_tag_front x ≡ true → is_tag_front (t ++ x) ≡ true
front_behind spells_nothing x h k = k
front_behind (spells_text {c} {s} {rest} {t} plain alone more) x h k = absurd (cc)
front_behind (spells_empty {e} {rest} {t} empty good more) x h k = refl
front_behind (spells_element {e} {kids} {rest} {u} {t} full good inner more) x h k = refl

pub left_spelled : {n : Nodes} {t : List ℕ} → Spells n t → (es : List Element) (x : List ℕ) → level_in (inside_all fragment es) n ≤ 128 → is_tag_front x ≡ true
    → Left es x → Left es (t ++ x)
left_spelled spells_nothing es x low front left = left
left_spelled (spells_text {c} {s} {rest} {t} plain alone more) es x low front left =
    subst (λ v. Left es v) (sym (append_assoc (escaped (c ∷ s)) t x))
    (left_text c s (t ++ x) plain (front_behind more x alone front) (left_spelled more es x low front left))
left_spelled (spells_empty {e} {rest} {t} empty good more) es x low front left =
    subst (λ v. Left es v) (sym (append_assoc (empty_tag_of e) t x))
    (left_empty e (t ++ x) empty good (omega (arith, low)) (left_spelled more es x (omega (arith, low)) front left))
left_spelled (spells_element {e} {kids} {rest} {u} {t} full good inner more) es x low front left =
    let behind = end_tag_of e.name ++ (t ++ x) in
    let last : level_in (inside_all fragment (es ++ e.name ∷ [])) kids ≤ 128 =
    subst (λ at. level_in at kids ≤ 128) (sym (inside_last fragment es e.name)) (omega (arith, low)) in
    let closed : Left (es ++ e.name ∷ []) behind = left_end es e.name (t ++ x) refl (left_spelled more es x (omega (arith, low)) front left) in
    subst (λ v. Left es v)
    (ap (λ v. start_tag_of e ++ v) (ap (λ v. u ++ v) (sym (append_assoc (end_tag_of e.name) t x)) ∙ sym (append_assoc u (end_tag_of e.name ++ t) x))
    ∙ sym (append_assoc (start_tag_of e) (u ++ (end_tag_of e.name ++ t)) x))
    (left_start e (u ++ behind) full good (omega (arith, low)) (left_spelled inner (es ++ e.name ∷ []) behind last refl closed))

-- where nothing is left, nothing is open
pub nothing_left : {es : List Element} {u : List ℕ} → Left es u → u ≡ [] → es ≡ []
nothing_left left_nothing e = refl
nothing_left (left_text c s t all stops more) e = absurd (let f = text_front c s t in let w : f.head ∷ f.tail ≡ [] = sym f.is ∙ e in cc)
nothing_left (left_empty d t empty good low more) e = absurd (cc)
nothing_left (left_start d t full good low more) e = absurd (cc)
nothing_left (left_end es d t same more) e = absurd (cc)
