-- The steps of reading.
use Rattle.std.proofs.Common.{◌≡◌, ◌≤◌, ◌<◌, ℕ, Bool, true, false, List, [], ◌∷◌, ◌++◌, length, refl, sym, ap, subst, ◌∙◌, append-nil, arith, IsUtf8, String, string_bytes, Result, IfOk, Ok, Err, ⊎_elim}
use Rattle.std.specs.Prelude.{◌==◌}
use Rattle.std.specs.declared.alloc.Global.{Global}
use Rattle.std.specs.List.{list_any}
use Rattle.std.specs.Str.{chars}
use Rattle.std.proofs.lemmas.Bool.{both_ways, eqb-true, cases_lt}
use Rattle.pur_laws.proofs.Firsts.{any-at}
use Rattle.pur_laws.proofs.Texts.{no_chars, some_chars}
use Rattle.pur_names.specs.declared.elements.Element.{Element}
use Rattle.pur_names.specs.Elements.{element_name, same_element}
use Rattle.pur_names.proofs.ElementLaws.{element_name-distinct, same_element-Decides}
use Rattle.pur_modules.specs.Contents.{is_empty_element}
use Rattle.pur_text.specs.Texts.{text_of}
use Rattle.pur_tree.specs.Building.{Building, written_of, opened_of, last_of}
use Rattle.pur_tree.specs.Nodes.{PlainElem}
use Rattle.pur_tree.specs.Places.{fragment}
use Rattle.pur_tree.specs.Spelling.{are_spellable}
use Rattle.pur_tree.specs.Tokens.{start_token, end_token, empty_token, opening_of, closing_of}
use Rattle.pur_tree.proofs.CutLemmas.{run_cut, tail_same}
use Rattle.pur_tree.proofs.NameLemmas.{is_closer}
use Rattle.pur_reader.specs.declared.reading.Open.{Open}
use Rattle.pur_reader.specs.Private.Escaping.{written_where}
use Rattle.pur_reader.specs.Private.Tags.{tag_text}
use Rattle.pur_reader.specs.Private.Reading.{Left, AreOpen, HasRead, is_tag_front}
use Rattle.pur_reader.proofs.LeftLemmas.{TextLeft, text_left, end_left, tag_left, fitting, no_close_in_name, empty_parts, start_parts, end_tag_parts}
use Rattle.pur_reader.proofs.OpenLemmas.{IsLast, open_last, last_same}
use Rattle.pur_reader.proofs.WrittenLemmas.{token_read}

-- what holds of an answer
pub if_ok : {A E : Type 0} (P Q : A → Type 0) (result : Result A E) → ((x : A) → P x → Q x) → IfOk result P → IfOk result Q
if_ok P Q (Ok x) f h = f x h
if_ok P Q (Err e) f h = tt

-- ---- texts

pub run_left : (es : List Element) (run behind : List ℕ) → 0 < length run → Left es (run ++ behind) → list_any (λ c. c == 60) run ≡ false → is_tag_front behind ≡ true → TextLeft es run behind
run_left es [] behind some left none front = absurd (omega arith)
run_left es (a ∷ run) behind some left none front = text_left left a run behind refl none front

pub some_text : (s : String Global) (run : List ℕ) → IsUtf8 run → 0 < length run → written_where false (text_of s) ≡ chars run → 0 < length (string_bytes s)
some_text s run is some e = ⊎_elim
    (λ (yes : 0 < length (string_bytes s)). yes)
    (λ (no : length (string_bytes s) ≤ 0).
    let none : chars run ≡ [] = sym e ∙ ap (written_where false) (no_chars (string_bytes s) (omega arith)) in
    let more = some_chars run is some in
    absurd (omega (arith, more, ap length none)))
    (cases_lt 0 (length (string_bytes s)))

-- ---- end tags

pub record CutEnd (es : List Element) (name rest : List ℕ) : Type 0 where
  pub outer : List Element
  pub elem : Element
  pub same : es ≡ outer ++ elem ∷ []
  pub is : element_name elem ≡ name
  pub left : Left outer rest

pub cut_end : (es : List Element) (name rest : List ℕ) → list_any (λ c. c == 62) name ≡ false → Left es (60 ∷ 47 ∷ (name ++ 62 ∷ rest)) → CutEnd es name rest
cut_end es name rest none left =
    let x = end_left left (name ++ 62 ∷ rest) refl in
    let cut = run_cut (λ c. c == 62) name (element_name x.name) (62 ∷ rest) (62 ∷ x.rest) none (no_close_in_name x.name) refl refl x.is in
    record {
      outer = x.outer;
      elem = x.name;
      same = x.same;
      is = sym cut.0;
      left = subst (λ r. Left x.outer r) (sym (tail_same 62 62 _ _ cut.1)) x.left;
    }

-- the innermost element ends
module _ (all os : List Open) (o : Open) (old new : Building) (popped : all ≡ os ++ o ∷ []) (are : AreOpen fragment all (opened_of old))
    (left_opened : opened_of old ≡ opened_of new ++ last_of (opened_of old) ∷ []) where
  innermost : IsLast fragment os o (opened_of old)
  innermost = open_last fragment os o (opened_of old) (subst (λ x. AreOpen fragment x (opened_of old)) popped are)

  ended : (opened_of new ≡ innermost.outer) × (last_of (opened_of old) ≡ o.name)
  ended = last_same (opened_of new) innermost.outer (last_of (opened_of old)) o.name (sym left_opened ∙ innermost.same)

  pub end_ready : AreOpen fragment os (opened_of new)
  end_ready = subst (λ es. AreOpen fragment os es) (sym ended.0) innermost.are

  closes_full : (e : Element) → is_empty_element e ≡ false → closing_of e ≡ end_token e ∷ []
  closes_full e full = rw full refl

  pub end_read : (e : Element) (name rest : List ℕ) → written_of new ≡ written_of old ++ closing_of (last_of (opened_of old)) → element_name e ≡ name
      → same_element o.name e ≡ true → list_any (λ c. c == 62) name ≡ false → HasRead old new (60 ∷ 47 ∷ (name ++ 62 ∷ rest)) rest
  end_read e name rest written is same none =
      let one : o.name ≡ e = (same_element-Decides o.name e).0 same in
      token_read old new (end_token o.name) (60 ∷ 47 ∷ (name ++ 62 ∷ rest)) rest
      (written ∙ ap (λ ts. written_of old ++ ts) (ap closing_of ended.1 ∙ closes_full o.name innermost.full)) refl
      (sym (end_tag_parts o.name rest ∙ ap (λ n. 60 ∷ 47 ∷ (n ++ 62 ∷ rest)) (ap element_name one ∙ is)))
      (λ w. let x = cut_end (opened_of old) name rest none w in
      subst (λ es. Left es rest) (last_same x.outer (opened_of new) x.elem (last_of (opened_of old)) (sym x.same ∙ left_opened)).0 x.left)

pub other_end : (all os : List Open) (o : Open) (es : List Element) → all ≡ os ++ o ∷ [] → AreOpen fragment all es → (e : Element) (name rest : List ℕ) → element_name e ≡ name
    → same_element o.name e ≡ false → list_any (λ c. c == 62) name ≡ false → Left es (60 ∷ 47 ∷ (name ++ 62 ∷ rest)) → ⊥
other_end all os o es popped are e name rest is other none left =
    let last = open_last fragment os o es (subst (λ x. AreOpen fragment x es) popped are) in
    let x = cut_end es name rest none left in
    let found : x.elem ≡ e = element_name-distinct x.elem e (x.is ∙ sym is) in
    let same = last_same x.outer last.outer x.elem o.name (sym x.same ∙ last.same) in
    both_ways (same_element o.name e) other ((same_element-Decides o.name e).1 (sym same.1 ∙ found))

-- ---- start tags and empty tags

opens_empty : (e : PlainElem) → is_empty_element e.name ≡ true → opening_of e ≡ empty_token e
opens_empty e h = rw h refl

opens_full : (e : PlainElem) → is_empty_element e.name ≡ false → opening_of e ≡ start_token e
opens_full e h = rw h refl

closes_empty : (e : Element) → is_empty_element e ≡ true → closing_of e ≡ []
closes_empty e h = rw h refl

pub empty_read : (old mid new : Building) (e : PlainElem) (rest : List ℕ) → is_empty_element e.name ≡ true → are_spellable e.attrs ≡ true
    → opened_of mid ≡ opened_of old ++ e.name ∷ [] → written_of mid ≡ written_of old ++ opening_of e ∷ []
    → opened_of mid ≡ opened_of new ++ last_of (opened_of mid) ∷ [] → written_of new ≡ written_of mid ++ closing_of (last_of (opened_of mid))
    → HasRead old new (60 ∷ (tag_text e true ++ 62 ∷ rest)) rest
empty_read old mid new e rest kind good opened written left_opened left_written =
    let last = last_same (opened_of new) (opened_of old) (last_of (opened_of mid)) e.name (sym left_opened ∙ opened) in
    token_read old new (empty_token e) (60 ∷ (tag_text e true ++ 62 ∷ rest)) rest
    (left_written ∙ ap (λ ts. written_of mid ++ ts) (ap closing_of last.1 ∙ closes_empty e.name kind) ∙ append-nil (written_of mid) ∙ written
    ∙ ap (λ t. written_of old ++ t ∷ []) (opens_empty e kind))
    good (sym (empty_parts e rest))
    (λ w. subst (λ es. Left es rest) (sym last.0) (fitting (opened_of old) e true rest good w).left)

pub start_read : (old new : Building) (e : PlainElem) (rest : List ℕ) → is_empty_element e.name ≡ false → are_spellable e.attrs ≡ true
    → opened_of new ≡ opened_of old ++ e.name ∷ [] → written_of new ≡ written_of old ++ opening_of e ∷ []
    → HasRead old new (60 ∷ (tag_text e false ++ 62 ∷ rest)) rest
start_read old new e rest kind good opened written =
    token_read old new (start_token e) (60 ∷ (tag_text e false ++ 62 ∷ rest)) rest
    (written ∙ ap (λ t. written_of old ++ t ∷ []) (opens_full e kind)) good (sym (start_parts e rest))
    (λ w. subst (λ es. Left es rest) (sym opened) (fitting (opened_of old) e false rest good w).left)

-- ---- where no `>` is left

pub no_end_of_tag : (es : List Element) (x : List ℕ) → Left es (60 ∷ x) → list_any (λ c. c == 62) x ≡ false → ⊥
no_end_of_tag es x left none = go (is_closer (60 ∷ x)) refl
  where
    slash : (x : List ℕ) → is_closer (60 ∷ x) ≡ true → (y : List ℕ) × (x ≡ 47 ∷ y)
    slash [] h = absurd (cc)
    slash (a ∷ y) h = (y, ap (λ c. c ∷ y) (eqb-true a 47 h))

    go : (b : Bool) → is_closer (60 ∷ x) ≡ b → ⊥
    go false other =
        let t = tag_left left x refl other in
        both_ways (list_any (λ c. c == 62) x) none (ap (list_any (λ c. c == 62)) t.is ∙ any-at (λ c. c == 62) 62 refl (tag_text t.elem t.is_empty) t.rest)
    go true is =
        let s = slash x is in
        let e = end_left left s.0 (ap (λ z. 60 ∷ z) s.1) in
        both_ways (list_any (λ c. c == 62) x) none
        (ap (list_any (λ c. c == 62)) (s.1 ∙ ap (λ z. 47 ∷ z) e.is) ∙ any-at (λ c. c == 62) 62 refl (element_name e.name) e.rest)
