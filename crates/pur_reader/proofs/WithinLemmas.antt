-- Nodes that are judged in one walk.
use Rattle.std.proofs.Common.{◌≡◌, ◌≤◌, Bool, true, false, List, [], ◌∷◌, refl, sym, ap, ◌∙◌, arith}
use Rattle.std.specs.Prelude.{◌&&◌, ◌||◌, not}
use Rattle.std.specs.List.{list_any}
use Rattle.std.proofs.lemmas.Bool.{and_parts, and_from, le-leb}
use Rattle.pur_laws.proofs.Truth.{true_together}
use Rattle.pur_names.specs.declared.elements.Element.{Element}
use Rattle.pur_modules.specs.declared.kinds.Content.{Content}
use Rattle.pur_modules.specs.Contents.{content_held, is_excluded_in}
use Rattle.pur_modules.specs.Excluders.{excluders_of, is_excluded_by, no_excluders, with_excluder}
use Rattle.pur_modules.specs.declared.exclusions.Excluders.{Excluders}
use Rattle.pur_modules.proofs.ExcluderLaws.{excluders-tell}
use Rattle.pur_settings.specs.Rules.{Rules, permits_element}
use Rattle.pur_tree.specs.Nodes.{PlainElem, Nodes, no_nodes, text_first, elem_first, level_of}
use Rattle.pur_tree.specs.Places.{level_limit}
use Rattle.pur_uripolicy.specs.HostRules.{PlainHostRule}
use Rattle.pur_validity.specs.Attributes.{has_valid_values, has_required, has_one_language, each_elem}
use Rattle.pur_validity.specs.Deciding.{are_word, are_right, are_valid, have_valid_ids, have_valid_structure, have_valid_attributes}
use Rattle.pur_reader.specs.Private.Judging.{is_right_here, has_right_attributes, right_within}

-- ---- one walk and several

module _ (rules : Rules) (rule : PlainHostRule) where
  record Several (content : Content) (outer : List Element) (n : Nodes) : Type 0 where
    right : are_right rules content outer n ≡ true
    values : each_elem (has_valid_values rules rule) n ≡ true
    required : each_elem has_required n ≡ true
    languages : each_elem has_one_language n ≡ true

  one-several : (content : Content) (outer : List Element) (n : Nodes) → right_within rules rule content (excluders_of outer) n ≡ true
      → Several content outer n
  unfolding is_right_here has_right_attributes
  one-several content outer no_nodes h = record { right = refl; values = refl; required = refl; languages = refl }
  one-several content outer (text_first s n) h =
      let more = one-several content outer n h in
      record { right = more.right; values = more.values; required = more.required; languages = more.languages }
  one-several content outer (elem_first e k n) h =
      let held : Content = content_held rules.doctype e.name content in
      let round = excluders_of outer in
      let all = and_parts (is_right_here rules content round e.name k && has_right_attributes rules rule e) _ h in
      let here = and_parts (is_right_here rules content round e.name k) (has_right_attributes rules rule e) all.0 in
      let may = and_parts (are_word rules.doctype held k) (permits_element rules e.name && not (is_excluded_by round e.name)) here.0 in
      let free = and_parts (permits_element rules e.name) (not (is_excluded_by round e.name)) may.1 in
      let attrs = and_parts (has_valid_values rules rule e) (has_required e && has_one_language e) here.1 in
      let rest = and_parts (has_required e) (has_one_language e) attrs.1 in
      let below = and_parts _ (right_within rules rule content round n) all.1 in
      let inner = one-several held (e.name ∷ outer) k below.0 in
      let more = one-several content outer n below.1 in
      record {
        right = and_from _ _ (and_from _ _ may.0 (and_from _ _ free.0 (ap not (sym (excluders-tell outer e.name)) ∙ free.1))) (and_from _ _ inner.right more.right);
        values = and_from _ _ attrs.0 (and_from _ _ inner.values more.values);
        required = and_from _ _ rest.0 (and_from _ _ inner.required more.required);
        languages = and_from _ _ rest.1 (and_from _ _ inner.languages more.languages);
      }

  several-one : (content : Content) (outer : List Element) (n : Nodes) → Several content outer n
      → right_within rules rule content (excluders_of outer) n ≡ true
  unfolding is_right_here has_right_attributes
  several-one content outer no_nodes h = refl
  several-one content outer (text_first s n) h =
      several-one content outer n (record { right = h.right; values = h.values; required = h.required; languages = h.languages })
  several-one content outer (elem_first e k n) h =
      let held : Content = content_held rules.doctype e.name content in
      let right = and_parts (are_word rules.doctype held k && (permits_element rules e.name && not (is_excluded_in outer e.name))) _ h.right in
      let here = and_parts (are_word rules.doctype held k) (permits_element rules e.name && not (is_excluded_in outer e.name)) right.0 in
      let free = and_parts (permits_element rules e.name) (not (is_excluded_in outer e.name)) here.1 in
      let below = and_parts (are_right rules held (e.name ∷ outer) k) (are_right rules content outer n) right.1 in
      let values = and_parts (has_valid_values rules rule e) _ h.values in
      let values_below = and_parts (each_elem (has_valid_values rules rule) k) (each_elem (has_valid_values rules rule) n) values.1 in
      let required = and_parts (has_required e) _ h.required in
      let required_below = and_parts (each_elem has_required k) (each_elem has_required n) required.1 in
      let languages = and_parts (has_one_language e) _ h.languages in
      let languages_below = and_parts (each_elem has_one_language k) (each_elem has_one_language n) languages.1 in
      let inner = several-one held (e.name ∷ outer) k (record { right = below.0; values = values_below.0; required = required_below.0; languages = languages_below.0 }) in
      let more = several-one content outer n (record { right = below.1; values = values_below.1; required = required_below.1; languages = languages_below.1 }) in
      and_from _ _
      (and_from _ _ (and_from _ _ here.0 (and_from _ _ free.0 (ap not (excluders-tell outer e.name) ∙ free.1)))
      (and_from _ _ values.0 (and_from _ _ required.0 languages.0)))
      (and_from _ _ inner more)

  -- ---- the whole

  pub judged : (n : Nodes) → level_of n ≤ level_limit → (are_word rules.doctype rules.parent n && (right_within rules rule rules.parent no_excluders n && have_valid_ids rules n)) ≡ are_valid rules rule n
  judged n low = true_together _ _ forth back
    where
      forth : (are_word rules.doctype rules.parent n && (right_within rules rule rules.parent no_excluders n && have_valid_ids rules n)) ≡ true → are_valid rules rule n ≡ true
      forth h =
          let all = and_parts (are_word rules.doctype rules.parent n) _ h in
          let both = and_parts (right_within rules rule rules.parent no_excluders n) (have_valid_ids rules n) all.1 in
          let s = one-several rules.parent [] n both.0 in
          and_from _ _ (and_from _ _ (and_from _ _ all.0 s.right) (le-leb (level_of n) level_limit low))
          (and_from _ _ s.values (and_from _ _ s.required (and_from _ _ s.languages both.1)))

      back : are_valid rules rule n ≡ true → (are_word rules.doctype rules.parent n && (right_within rules rule rules.parent no_excluders n && have_valid_ids rules n)) ≡ true
      back h =
          let both = and_parts (have_valid_structure rules n) (have_valid_attributes rules rule n) h in
          let all = and_parts (are_word rules.doctype rules.parent n && are_right rules rules.parent [] n) _ both.0 in
          let here = and_parts (are_word rules.doctype rules.parent n) (are_right rules rules.parent [] n) all.0 in
          let values = and_parts (each_elem (has_valid_values rules rule) n) _ both.1 in
          let required = and_parts (each_elem has_required n) _ values.1 in
          let languages = and_parts (each_elem has_one_language n) (have_valid_ids rules n) required.1 in
          and_from _ _ here.0
          (and_from _ _ (several-one rules.parent [] n (record { right = here.1; values = values.0; required = required.0; languages = languages.0 })) languages.1)

-- ---- an element in front

module _ (rules : Rules) (rule : PlainHostRule) (content : Content) (round : Excluders) (e : PlainElem) (k n : Nodes) where
  pub not_here : is_right_here rules content round e.name k ≡ false → right_within rules rule content round (elem_first e k n) ≡ false
  not_here h = rw h refl

  pub no_attrs : is_right_here rules content round e.name k ≡ true → has_right_attributes rules rule e ≡ false → right_within rules rule content round (elem_first e k n) ≡ false
  no_attrs h a = rw (h, a) refl

  pub all_here : is_right_here rules content round e.name k ≡ true → has_right_attributes rules rule e ≡ true
      → right_within rules rule content round (elem_first e k n)
      ≡ (right_within rules rule (content_held rules.doctype e.name content) (with_excluder e.name round) k && right_within rules rule content round n)
  all_here h a = rw (h, a) refl

-- ---- what is asked of an element

here_parts : (rules : Rules) (content : Content) (round : Excluders) (e : Element) (k : Nodes)
    → is_right_here rules content round e k ≡ (are_word rules.doctype (content_held rules.doctype e content) k && (permits_element rules e && not (is_excluded_by round e)))
unfolding is_right_here
here_parts rules content round e k = refl

and_false : (a : Bool) → (a && false) ≡ false
and_false true = refl
and_false false = refl

and_true : (a : Bool) → (a && true) ≡ a
and_true true = refl
and_true false = refl

module _ (rules : Rules) (content : Content) (round : Excluders) (e : Element) (k : Nodes) where
  abbrev word : Bool
  word = are_word rules.doctype (content_held rules.doctype e content) k

  pub not_permitted : permits_element rules e ≡ false → is_right_here rules content round e k ≡ false
  not_permitted h = here_parts rules content round e k ∙ ap (λ b. word && (b && not (is_excluded_by round e))) h ∙ and_false word

  pub excluded : permits_element rules e ≡ true → is_excluded_by round e ≡ true → is_right_here rules content round e k ≡ false
  excluded h x =
      here_parts rules content round e k ∙ ap (λ b. word && (b && not (is_excluded_by round e))) h ∙ ap (λ b. word && not b) x ∙ and_false word

  pub word_here : permits_element rules e ≡ true → is_excluded_by round e ≡ false → is_right_here rules content round e k ≡ are_word rules.doctype (content_held rules.doctype e content) k
  word_here h x =
      here_parts rules content round e k ∙ ap (λ b. word && (b && not (is_excluded_by round e))) h ∙ ap (λ b. word && not b) x ∙ and_true word

attrs_parts : (rules : Rules) (rule : PlainHostRule) (e : PlainElem) → has_right_attributes rules rule e ≡ (has_valid_values rules rule e && (has_required e && has_one_language e))
unfolding has_right_attributes
attrs_parts rules rule e = refl

module _ (rules : Rules) (rule : PlainHostRule) (e : PlainElem) where
  pub lacking : has_required e ≡ false → has_right_attributes rules rule e ≡ false
  lacking h = attrs_parts rules rule e ∙ ap (λ b. has_valid_values rules rule e && (b && has_one_language e)) h ∙ and_false (has_valid_values rules rule e)

  pub two_languages : has_required e ≡ true → has_one_language e ≡ false → has_right_attributes rules rule e ≡ false
  two_languages h l =
      attrs_parts rules rule e ∙ ap (λ b. has_valid_values rules rule e && (b && has_one_language e)) h ∙ ap (λ b. has_valid_values rules rule e && b) l ∙ and_false (has_valid_values rules rule e)

  pub by_values : has_required e ≡ true → has_one_language e ≡ true → has_right_attributes rules rule e ≡ has_valid_values rules rule e
  by_values h l =
      attrs_parts rules rule e ∙ ap (λ b. has_valid_values rules rule e && (b && has_one_language e)) h ∙ ap (λ b. has_valid_values rules rule e && b) l ∙ and_true (has_valid_values rules rule e)
