-- Words stay words.
use Rattle.std.proofs.Common.{◌≡◌, ◌⊎◌, inl, inr, ℕ, Bool, true, false, not, ◌&&◌, ◌||◌, List, [], ◌∷◌, ◌++◌, refl, sym, ap, subst, ◌∙◌, arith}
use Rattle.std.specs.Prelude.{if◌then◌else◌}
use Rattle.std.specs.List.{list_all}
use Rattle.std.proofs.lemmas.Bool.{and_parts, and_from}
use Rattle.pur_text.specs.Characters.{is_blank}
use Rattle.pur_names.specs.declared.elements.Element.{Element}
use Rattle.pur_names.specs.declared.elements.Element.TheVariants.{A, Legend, P}
use Rattle.pur_names.specs.Elements.{all_elements}
use Rattle.pur_names.proofs.ElementLaws.{each_element}
use Rattle.pur_modules.specs.declared.kinds.Child.{Child}
use Rattle.pur_modules.specs.declared.kinds.Child.TheVariants.{Text, Elem}
use Rattle.pur_modules.specs.declared.kinds.Content.{Content}
use Rattle.pur_modules.specs.declared.kinds.Content.TheVariants.{AddressMix, Block, Cols, FieldsetMix, Flow, Inline, TextOnly}
use Rattle.pur_modules.specs.declared.kinds.Doctype.{Doctype}
use Rattle.pur_modules.specs.declared.kinds.Doctype.TheVariants.{Strict, Transitional}
use Rattle.pur_modules.specs.Contents.{content_held}
use Rattle.pur_modules.specs.Expressions.{child_letters, elems, has_text_letter, is_letter, optional}
use Rattle.pur_modules.specs.Groups.{is_among, inline, misc}
use Rattle.pur_modules.proofs.KindLaws.{each_kind}
use Rattle.pur_models.specs.Languages.{IsRun, Language, all_among, has_letter}
use Rattle.pur_models.specs.Laws.{IsFieldsetWord, takes_any_number}
use Rattle.pur_models.proofs.WordLemmas.{any_letters, fieldset_of_parts, parts_of_fieldset, words_are_allowed}
use Rattle.pur_settings.specs.Rules.{Rules}
use Rattle.pur_uripolicy.specs.HostRules.{PlainHostRule}
use Rattle.pur_tree.specs.Nodes.{bare, Nodes, no_nodes, text_first, elem_first, nodes_append}
use Rattle.pur_tree.specs.Walks.{text_joined}
use Rattle.pur_tree.specs.Words.{word_of, IsWord, HaveWords}
use Rattle.pur_inject.specs.Laws.{KeepsWords}
use Rattle.pur_inject.specs.Links.{is_address_sign, link_sign, linked, linked_run, linked_text, link_place_inside, link_place_of, takes_links, makes_links, may_be_linked, with_links}
use Rattle.pur_inject.specs.Paragraphs.{in_paragraphs, is_in_paragraphs, is_paragraph, makes_paragraphs, stands_in_paragraphs, with_blank_lines, with_paragraphs, wrapped_run}
use Rattle.pur_inject.specs.Runs.{with_runs}
use Rattle.pur_inject.specs.Signs.{Sign, letter, element, blank_line, letters, signs_of, nodes_from, two_line_feeds}
use Rattle.pur_inject.specs.declared.places.LinkPlace.{LinkPlace}
use Rattle.pur_inject.proofs.LinkKeepLemmas.{takes}
use Rattle.pur_inject.proofs.LinkLemmas.{text-each}
use Rattle.pur_inject.proofs.ParagraphKeepLemmas.{each-in}
use Rattle.pur_inject.proofs.ParagraphLinkLemmas.{flow-on, flow-takes, held-same}
use Rattle.pur_inject.proofs.RunLemmas.{Each, each-append}
use Rattle.pur_inject.proofs.SignLemmas.{letters-each}

-- ---- tables

-- where an `a` is a letter, so is text
abbrev has-link-text : Doctype → Content → Bool
has-link-text d k = not (is_letter d k (Elem A)) || has_text_letter d k

link-texts : (d : Doctype) (k : Content) → has-link-text d k ≡ true
unfolding child_letters has_text_letter
link-texts d k = each_kind has-link-text refl d k

text-beside-link : (d : Doctype) (k : Content) → is_letter d k (Elem A) ≡ true → has_text_letter d k ≡ true
text-beside-link d k is = subst (λ b. (not b || has_text_letter d k) ≡ true) is (link-texts d k)

-- and any number of letters may stand, or the kind is what a fieldset holds
kind-of-link : (d : Doctype) (k : Content) → is_letter d k (Elem A) ≡ true → (takes_any_number k ≡ true) ⊎ (k ≡ FieldsetMix)
unfolding child_letters
kind-of-link d Inline is = inl refl
kind-of-link d Flow is = inl refl
kind-of-link d Block is = inl refl
kind-of-link d AddressMix is = inl refl
kind-of-link d Cols is = inl refl
kind-of-link d TextOnly is = inl refl
kind-of-link d FieldsetMix is = inr refl
kind-of-link d k is = absurd (cc)

held-by-link : (d : Doctype) (k : Content) → content_held d A k ≡ Inline
unfolding content_held
held-by-link d k = refl

held-by-paragraph : (d : Doctype) (k : Content) → content_held d P k ≡ Inline
unfolding content_held
held-by-paragraph d k = refl

inline-text : (d : Doctype) → has_text_letter d Inline ≡ true
unfolding has_text_letter
inline-text Strict = refl
inline-text Transitional = refl

flow-text : (d : Doctype) → has_text_letter d Flow ≡ true
unfolding has_text_letter
flow-text Strict = refl
flow-text Transitional = refl

flow-paragraph : (d : Doctype) → is_letter d Flow (Elem P) ≡ true
unfolding child_letters
flow-paragraph Strict = refl
flow-paragraph Transitional = refl

abbrev inline-letter : Doctype → Element → Bool
inline-letter d e = not (is_among (inline d) e) || is_letter d Inline (Elem e)

inline-letters : (d : Doctype) → list_all (inline-letter d) all_elements ≡ true
unfolding child_letters
inline-letters Strict = refl
inline-letters Transitional = refl

letter-in-paragraph : (d : Doctype) (e : Element) → is_in_paragraphs d e ≡ true → is_letter d Inline (Elem e) ≡ true
letter-in-paragraph d e is =
    let among = (and_parts (is_among (inline d) e) (not (is_among misc e)) is).0 in
    subst (λ b. (not b || is_letter d Inline (Elem e)) ≡ true) among (each_element (inline-letter d) (inline-letters d) e)

-- ---- equal words

first-same : {c x : Child} {l m : List Child} → (c ∷ l) ≡ (x ∷ m) → c ≡ x
first-same same = cc

rest-same : {c x : Child} {l m : List Child} → (c ∷ l) ≡ (x ∷ m) → l ≡ m
rest-same same = cc

-- ---- nodes and signs whose elements are letters, and hold words

module _ (d : Doctype) (k : Content) where
  abbrev Letters : Nodes → Type 0
  Letters n = (list_all (is_letter d k) (word_of true n) ≡ true) × HaveWords d k n

  abbrev pub IsLetter : Sign → Type 0
  IsLetter (letter c) = Unit {0}
  IsLetter (element e kids) = (is_letter d k (Elem e.name) ≡ true) × IsWord d (content_held d e.name k) kids × HaveWords d (content_held d e.name k) kids
  IsLetter blank_line = Unit {0}

  to-word : (n : Nodes) → has_text_letter d k ≡ true → takes_any_number k ≡ true → Letters n → IsWord d k n
  to-word n text any h = subst (λ t. Language d k (word_of t n)) (sym text) (any_letters d k (word_of true n) any h.0)

  from-word : (n : Nodes) → has_text_letter d k ≡ true → IsWord d k n → list_all (is_letter d k) (word_of true n) ≡ true
  from-word n text word = words_are_allowed d k (word_of true n) (subst (λ t. Language d k (word_of t n)) text word)

  list-append : (f g : Nodes) → list_all (is_letter d k) (word_of true f) ≡ true → list_all (is_letter d k) (word_of true g) ≡ true → list_all (is_letter d k) (word_of true (nodes_append f g)) ≡ true
  list-append no_nodes g a b = b
  list-append (text_first s f) g a b = let both = and_parts (is_letter d k Text) (list_all (is_letter d k) (word_of true f)) a in and_from _ _ both.0 (list-append f g both.1 b)
  list-append (elem_first e kids f) g a b = let both = and_parts (is_letter d k (Elem e.name)) (list_all (is_letter d k) (word_of true f)) a in and_from _ _ both.0 (list-append f g both.1 b)

  have-append : (f g : Nodes) → HaveWords d k f → HaveWords d k g → HaveWords d k (nodes_append f g)
  have-append no_nodes g a b = b
  have-append (text_first s f) g a b = have-append f g a b
  have-append (elem_first e kids f) g a b = (a.0, a.1, have-append f g a.2 b)

  letters-text : has_text_letter d k ≡ true → (s : List ℕ) (n : Nodes) → Letters n → Letters (text_joined s n)
  letters-text text s no_nodes h = (and_from _ _ text refl, tt)
  letters-text text s (text_first t n) h = h
  letters-text text s (elem_first e kids n) h = (and_from _ _ text h.0, h.1)

  from-signs : has_text_letter d k ≡ true → (l : List Sign) → Each IsLetter l → Letters (nodes_from l)
  from-signs text [] h = (refl, tt)
  from-signs text (letter c ∷ l) h = letters-text text (c ∷ []) (nodes_from l) (from-signs text l h.1)
  from-signs text (element e kids ∷ l) h = let more = from-signs text l h.1 in (and_from _ _ h.0.0 more.0, (h.0.1, h.0.2, more.1))
  from-signs text (blank_line ∷ l) h = letters-text text two_line_feeds (nodes_from l) (from-signs text l h.1)

  to-signs : (n : Nodes) → Letters n → Each IsLetter (signs_of n)
  to-signs no_nodes h = tt
  to-signs (text_first s n) h =
      each-append IsLetter (letters s) (signs_of n) (letters-each IsLetter (λ c. tt) s) (to-signs n ((and_parts _ _ h.0).1, h.1))
  to-signs (elem_first e kids n) h = let both = and_parts _ _ h.0 in ((both.0, h.1.0, h.1.1), to-signs n (both.1, h.1.2))

-- ---- links

module _ (d : Doctype) (admits : List ℕ → Bool) where
  link-letter : (k : Content) (address : List ℕ) → is_letter d k (Elem A) ≡ true → IsLetter d k (link_sign address)
  link-letter k address is =
      let held = sym (held-by-link d k) in
      let text : Letters d Inline (text_first address no_nodes) = (and_from _ _ (inline-text d) refl, tt) in (
        is,
        subst (λ x. IsWord d x (text_first address no_nodes)) held (to-word d Inline (text_first address no_nodes) (inline-text d) refl text),
        subst (λ x. HaveWords d x (text_first address no_nodes)) held tt,
      )

  text-letters : (k : Content) (s : List ℕ) → is_letter d k (Elem A) ≡ true → has_text_letter d k ≡ true → Letters d k (linked_text admits s)
  text-letters k [] is text = (and_from _ _ text refl, tt)
  text-letters k (c ∷ s) is text =
      from-signs d k text (with_runs is_address_sign (linked_run admits) (letters (c ∷ s)))
      (text-each admits (IsLetter d k) (λ address may h. link-letter k address is) (c ∷ s) (letters-each (IsLetter d k) (λ c. tt) (c ∷ s)))

  -- where no link may stand the letters are those of before
  same-word : (at : LinkPlace) (t : Bool) (n : Nodes) → takes_links d at ≡ false → word_of t (linked d admits at n) ≡ word_of t n
  same-word at t no_nodes isnt = refl
  same-word at t (text_first s n) isnt =
      ap (λ (b : Bool). word_of t (nodes_append (if b then linked_text admits s else text_first s no_nodes) (linked d admits at n))) isnt
      ∙ ap (λ (w : List Child). if not t && is_blank s then w else (Text ∷ w)) (same-word at t n isnt)
  same-word at t (elem_first e kids n) isnt = ap (λ (w : List Child). Elem e.name ∷ w) (same-word at t n isnt)

  -- where an `a` is a letter all are letters still
  linked-letters : (at : LinkPlace) (k : Content) (n : Nodes) → is_letter d k (Elem A) ≡ true → has_text_letter d k ≡ true
      → list_all (is_letter d k) (word_of true n) ≡ true → list_all (is_letter d k) (word_of true (linked d admits at n)) ≡ true
  linked-letters at k no_nodes is text all = refl
  linked-letters at k (text_first s n) is text all = go (takes_links d at) (linked-letters at k n is text (and_parts (is_letter d k Text) (list_all (is_letter d k) (word_of true n)) all).1) where
    go : (b : Bool) → list_all (is_letter d k) (word_of true (linked d admits at n)) ≡ true → list_all (is_letter d k) (word_of true (nodes_append (if b then linked_text admits s else text_first s no_nodes) (linked d admits at n))) ≡ true
    go true more = list-append d k (linked_text admits s) (linked d admits at n) (text-letters k s is text).0 more
    go false more = and_from _ _ text more
  linked-letters at k (elem_first e kids n) is text all = let both = and_parts _ _ all in and_from _ _ both.0 (linked-letters at k n is text both.1)

  -- a legend of a fieldset stays in front of what are letters of flow content still
  linked-fieldset : (at : LinkPlace) (n : Nodes) → IsFieldsetWord d (word_of true n) → IsFieldsetWord d (word_of true (linked d admits at n))
  linked-fieldset at n f = go n f.legends f.legend_run f.joined where
    behind : (legends : List Child) (m : Nodes) → IsRun (optional Legend) legends → word_of true m ≡ f.rest → IsFieldsetWord d (legends ++ word_of true (linked d admits at m))
    behind legends m run same =
        let flow = subst (λ w. list_all (is_letter d Flow) w ≡ true) (sym same) (words_are_allowed d Flow f.rest f.flow) in record {
          legends = legends;
          rest = word_of true (linked d admits at m);
          legend_run = run;
          flow = any_letters d Flow (word_of true (linked d admits at m)) refl (linked-letters at Flow m (flow-takes d) (flow-text d) flow);
          joined = refl;
        }

    go : (m : Nodes) (legends : List Child) → IsRun (optional Legend) legends → word_of true m ≡ legends ++ f.rest → IsFieldsetWord d (word_of true (linked d admits at m))
    go m [] run same = behind [] m run same
    go no_nodes (c ∷ legends) run same = absurd (cc)
    go (text_first s m) (c ∷ legends) run same =
        let legend = (and_parts (has_letter (elems (Legend ∷ [])) c) (all_among (elems (Legend ∷ [])) legends) run.letters).0 in
        let never : has_letter (elems (Legend ∷ [])) Text ≡ true = subst (λ x. has_letter (elems (Legend ∷ [])) x ≡ true) (sym (first-same same)) legend in absurd (cc)
    go (elem_first e kids m) (c ∷ []) run same =
        subst (λ x. IsFieldsetWord d (x ∷ word_of true (linked d admits at m))) (sym (first-same same)) (behind (c ∷ []) m run (rest-same same))
    go m (c ∷ x ∷ legends) run same = let most = run.most refl in absurd (omega (arith, most))

  linked-in-kind : (at : LinkPlace) (k : Content) (n : Nodes) → is_letter d k (Elem A) ≡ true → (takes_any_number k ≡ true) ⊎ (k ≡ FieldsetMix)
      → Language d k (word_of true n) → Language d k (word_of true (linked d admits at n))
  linked-in-kind at k n is (inl any) word =
      any_letters d k (word_of true (linked d admits at n)) any (linked-letters at k n is (text-beside-link d k is) (words_are_allowed d k (word_of true n) word))
  linked-in-kind at k n is (inr mix) word =
      let parts = parts_of_fieldset d (word_of true n) (subst (λ x. Language d x (word_of true n)) mix word) in
      subst (λ x. Language d x (word_of true (linked d admits at n))) (sym mix) (fieldset_of_parts d (word_of true (linked d admits at n)) (linked-fieldset at n parts))

  linked-word : (at : LinkPlace) (n : Nodes) → IsWord d at.content n → IsWord d at.content (linked d admits at n)
  linked-word at n word = go (takes_links d at) refl where
    go : (b : Bool) → takes_links d at ≡ b → IsWord d at.content (linked d admits at n)
    go true is =
        let is_in = (takes d at is).letter in
        let text = text-beside-link d at.content is_in in
        subst (λ t. Language d at.content (word_of t (linked d admits at n))) (sym text)
        (linked-in-kind at at.content n is_in (kind-of-link d at.content is_in) (subst (λ t. Language d at.content (word_of t n)) text word))
    go false isnt = subst (Language d at.content) (sym (same-word at (has_text_letter d at.content) n isnt)) word

  linked-words : (at : LinkPlace) (n : Nodes) → HaveWords d at.content n → HaveWords d at.content (linked d admits at n)
  linked-words at no_nodes words = tt
  linked-words at (text_first s n) words = go (takes_links d at) refl (linked-words at n words) where
    go : (b : Bool) → takes_links d at ≡ b → HaveWords d at.content (linked d admits at n) → HaveWords d at.content (nodes_append (if b then linked_text admits s else text_first s no_nodes) (linked d admits at n))
    go true is more =
        let is_in = (takes d at is).letter in
        have-append d at.content (linked_text admits s) (linked d admits at n) (text-letters at.content s is_in (text-beside-link d at.content is_in)).1 more
    go false isnt more = more
  linked-words at (elem_first e kids n) words = (
    linked-word (link_place_inside d at e.name) kids words.0,
    linked-words (link_place_inside d at e.name) kids words.1,
    linked-words at n words.2,
  )

pub words-with_links : (rules : Rules) (rule : PlainHostRule) (n : Nodes) → KeepsWords rules n (with_links rules rule n)
words-with_links rules rule n = go (makes_links rules) where
  go : (b : Bool) → KeepsWords rules n (if b then linked rules.doctype (may_be_linked rules rule) (link_place_of rules) n else n)
  go true = record {
    word = λ word words. linked-word rules.doctype (may_be_linked rules rule) (link_place_of rules) n word;
    words = λ word words. linked-words rules.doctype (may_be_linked rules rule) (link_place_of rules) n words;
  }
  go false = record { word = λ word words. word; words = λ word words. words }

-- ---- paragraphs

module _ (d : Doctype) where
  -- what stands in paragraphs of a fragment
  piece-letters : (l : List Sign) → list_all (stands_in_paragraphs d) l ≡ true → Each (IsLetter d Flow) l → Each (IsLetter d Inline) l
  piece-letters [] all h = tt
  piece-letters (letter c ∷ l) all h = (tt, piece-letters l all h.1)
  piece-letters (element e kids ∷ l) all h =
      let both = and_parts (is_in_paragraphs d e.name) (list_all (stands_in_paragraphs d) l) all in
      let same = held-same d e.name Flow Inline both.0 in
      ((letter-in-paragraph d e.name both.0, subst (λ k. IsWord d k kids) same h.0.1, subst (λ k. HaveWords d k kids) same h.0.2), piece-letters l both.1 h.1)
  piece-letters (blank_line ∷ l) all h = absurd (cc)

  wraps : (run : List Sign) → list_all (stands_in_paragraphs d) run ≡ true → is_paragraph (nodes_from run) ≡ true → Each (IsLetter d Flow) run → IsLetter d Flow (element (bare P) (nodes_from run))
  wraps run all is h =
      let held = sym (held-by-paragraph d Flow) in
      let made = from-signs d Inline (inline-text d) run (piece-letters run all h) in (
        flow-paragraph d,
        subst (λ k. IsWord d k (nodes_from run)) held (to-word d Inline (nodes_from run) (inline-text d) refl made),
        subst (λ k. HaveWords d k (nodes_from run)) held made.1,
      )

  in-letters : (n : Nodes) → Letters d Flow n → Letters d Flow (in_paragraphs d n)
  in-letters n h =
      from-signs d Flow (flow-text d) (with_runs (stands_in_paragraphs d) wrapped_run (with_blank_lines (signs_of n))) (each-in d (IsLetter d Flow) tt wraps (signs_of n) (to-signs d Flow n h))

pub words-with_paragraphs : (rules : Rules) (n : Nodes) → KeepsWords rules n (with_paragraphs rules n)
words-with_paragraphs rules n = go (makes_paragraphs rules) refl where
  go : (b : Bool) → makes_paragraphs rules ≡ b → KeepsWords rules n (if b then in_paragraphs rules.doctype n else n)
  go true on = record {
    word = λ word words. subst (λ k. IsWord rules.doctype k (in_paragraphs rules.doctype n)) (sym flow) (to-word rules.doctype Flow (in_paragraphs rules.doctype n) (flow-text rules.doctype) refl (letters word words));
    words = λ word words. subst (λ k. HaveWords rules.doctype k (in_paragraphs rules.doctype n)) (sym flow) (letters word words).1;
  }
    where
      flow : rules.parent ≡ Flow
      flow = flow-on rules on

      letters : IsWord rules.doctype rules.parent n → HaveWords rules.doctype rules.parent n → Letters rules.doctype Flow (in_paragraphs rules.doctype n)
      letters word words =
          in-letters rules.doctype n
          (from-word rules.doctype Flow n (flow-text rules.doctype) (subst (λ k. IsWord rules.doctype k n) flow word), subst (λ k. HaveWords rules.doctype k n) flow words)
  go false off = record { word = λ word words. word; words = λ word words. words }
