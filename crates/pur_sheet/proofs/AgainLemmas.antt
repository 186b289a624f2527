-- Canonical selectors are cut again into what they were written of.
use Rattle.std.proofs.Common.{◌≡◌, ℕ, ◌+◌, ◌<◌, Bool, true, List, [], ◌∷◌, ◌++◌, length, map, refl, sym, ap, ◌∙◌, arith, append-nil, append_assoc}
use Rattle.std.specs.Prelude.{◌==◌, not, codes, nat_le, if◌then◌else◌}
use Rattle.std.specs.List.{join_by, join_with_byte, list_all, prefix_len, slice_split}
use Rattle.std.proofs.lemmas.Bool.{and_parts, and_from, cond-true, cond-false}
use Rattle.std.proofs.lemmas.Bool.Decides.{nat_tests}
use Rattle.pur_laws.proofs.Firsts.{split-at, split-none}
use Rattle.pur_laws.proofs.Lists.{all-append, all-weaker}
use Rattle.pur_laws.proofs.Tests.{not_empty}
use Rattle.pur_settings.specs.Rules.{Rules}
use Rattle.pur_text.specs.Characters.{is_space}
use Rattle.pur_sheet.specs.Canonical.{is_canonical_compound, is_canonical_chain, is_canonical_selector}
use Rattle.pur_sheet.specs.Selectors.{are_selectors, chain_text, chains_of, chains_text, compound_count, is_chain, is_child, is_comma, is_compound, is_scoped, is_selector, is_word, scope_compound, selector_text, selectors_text, words_of}
use Rattle.pur_sheet.specs.Private.Words.{is_no_space}
use Rattle.pur_sheet.proofs.SelectorLemmas.{join_more, space_gone, spaces_gone, word_taken}
use Rattle.pur_sheet.proofs.CanonicalLemmas.{join_like}
use Rattle.pur_sheet.proofs.CharacterLemmas.{chain_has, chain_same, chains_have, compound_fits, compound_same, is_compound_character, selector_parts, test-closed}

-- ---- words

seen : (c : ℕ) → is_compound_character c ≡ true → is_no_space c ≡ true
seen c is = grind (arith, nat_tests)

no_child : (c : ℕ) → is_compound_character c ≡ true → not (is_child c) ≡ true
no_child c is = grind (arith, nat_tests)

no_comma : (c : ℕ) → is_compound_character c ≡ true → not (is_comma c) ≡ true
no_comma c is = grind (arith, nat_tests)

some_length : (text : List ℕ) → is_word text ≡ true → 0 < length text
some_length text some = grind (arith, nat_tests)

blank_words : (text : List ℕ) → list_all is_space text ≡ true → words_of text ≡ []
blank_words text all = ap words_of (sym (append-nil text)) ∙ spaces_gone text [] all

blank_ends : (text : List ℕ) → list_all is_space text ≡ true → prefix_len is_no_space text ≡ 0
blank_ends [] all = refl
blank_ends (c ∷ text) all = cond-false _ _ _ (ap not (and_parts (is_space c) (list_all is_space text) all).0)

module _ (rules : Rules) where
  words_again : (words : List (List ℕ)) (tail : List ℕ) → list_all (is_canonical_compound rules) words ≡ true → not (length words == 0) ≡ true → list_all is_space tail ≡ true
      → words_of (join_with_byte 0x20 words ++ tail) ≡ words
  words_again [] tail all some blank = absurd cc
  words_again (word ∷ []) tail all some blank =
      let is = compound_same rules word (and_parts (is_canonical_compound rules word) true all).0 in
      word_taken word tail (all-weaker is_compound_character is_no_space seen word (compound_fits rules word is.1)) (some_length word is.0) (blank_ends tail blank)
      ∙ ap (λ t. word ∷ t) (blank_words tail blank)
  words_again (word ∷ next ∷ words) tail all some blank =
      let both = and_parts (is_canonical_compound rules word) (list_all (is_canonical_compound rules) (next ∷ words)) all in
      let is = compound_same rules word both.0 in
      let rest = join_with_byte 0x20 (next ∷ words) in
      ap words_of (append_assoc word (0x20 ∷ rest) tail)
      ∙ word_taken word (0x20 ∷ (rest ++ tail)) (all-weaker is_compound_character is_no_space seen word (compound_fits rules word is.1)) (some_length word is.0) refl
      ∙ ap (λ t. word ∷ t) (space_gone 0x20 (rest ++ tail) refl ∙ words_again (next ∷ words) tail both.1 (ap not (not_empty next words)) blank)

  -- a chain, with white space round it
  chain_again : (front tail : List ℕ) (chain : List (List ℕ)) → list_all is_space front ≡ true → list_all is_space tail ≡ true → is_canonical_chain rules chain ≡ true
      → words_of (front ++ (chain_text chain ++ tail)) ≡ chain
  chain_again front tail chain before behind is =
      let both = and_parts (not (length chain == 0)) (list_all (is_canonical_compound rules) chain) is in
      spaces_gone front (chain_text chain ++ tail) before ∙ ap (λ t. words_of (t ++ tail)) (chain_same rules chain is) ∙ words_again chain tail both.1 both.0 behind

-- ---- lists that are joined and cut

-- the mark has white space on either side, if any, and stands in no item
module _ {X : Type 0} (cuts : ℕ → Bool) (mark : ℕ) (is : cuts mark ≡ true) (space_stays : (c : ℕ) → is_space c ≡ true → not (cuts c) ≡ true)
    (left right : List ℕ) (left_blank : list_all is_space left ≡ true) (right_blank : list_all is_space right ≡ true)
    (read : List ℕ → X) (write : X → List ℕ) (fits : X → Bool)
    (again : (front tail : List ℕ) (x : X) → list_all is_space front ≡ true → list_all is_space tail ≡ true → fits x ≡ true → read (front ++ (write x ++ tail)) ≡ x)
    (stays : (x : X) → fits x ≡ true → list_all (λ c. not (cuts c)) (write x) ≡ true) where
  uncut : (front tail : List ℕ) (x : X) → list_all is_space front ≡ true → list_all is_space tail ≡ true → fits x ≡ true → list_all (λ c. not (cuts c)) (front ++ (write x ++ tail)) ≡ true
  uncut front tail x before behind fit =
      let test = λ (c : ℕ). not (cuts c) in
      all-append test front (write x ++ tail) (all-weaker is_space test space_stays front before)
      (all-append test (write x) tail (stays x fit) (all-weaker is_space test space_stays tail behind))

  order : (front one rest tail : List ℕ) → front ++ ((one ++ ((left ++ mark ∷ right) ++ rest)) ++ tail) ≡ (front ++ (one ++ left)) ++ mark ∷ (right ++ (rest ++ tail))
  order front one rest tail = simp append_assoc

  pub joined_again : (front tail : List ℕ) (xs : List X) → list_all is_space front ≡ true → list_all is_space tail ≡ true → list_all fits xs ≡ true → not (length xs == 0) ≡ true
      → map read (slice_split cuts (front ++ (join_by write (left ++ mark ∷ right) xs ++ tail))) ≡ xs
  joined_again front tail [] before behind all some = absurd cc
  joined_again front tail (x ∷ []) before behind all some =
      let fit = (and_parts (fits x) true all).0 in
      ap (λ t. map read (slice_split cuts (front ++ (t ++ tail)))) (append-nil (write x))
      ∙ ap (map read) (split-none cuts (front ++ (write x ++ tail)) (uncut front tail x before behind fit)) ∙ ap (λ t. t ∷ []) (again front tail x before behind fit)
  joined_again front tail (x ∷ next ∷ xs) before behind all some =
      let both = and_parts (fits x) (list_all fits (next ∷ xs)) all in
      let sep = left ++ mark ∷ right in
      let rest = join_by write sep (next ∷ xs) in
      let size : 0 < length (next ∷ xs) = omega arith in
      let first = front ++ (write x ++ left) in
      ap (λ t. map read (slice_split cuts (front ++ (t ++ tail)))) (join_more write sep x (next ∷ xs) size)
      ∙ ap (λ t. map read (slice_split cuts t)) (order front (write x) rest tail)
      ∙ ap (map read) (split-at cuts mark is first (right ++ (rest ++ tail)) (uncut front left x before left_blank both.0))
      ∙ ap (λ t. t ∷ map read (slice_split cuts (right ++ (rest ++ tail)))) (again front left x before left_blank both.0)
      ∙ ap (λ t. x ∷ t) (joined_again right tail (next ∷ xs) right_blank behind both.1 (ap not (not_empty next xs)))

space_no_child : (c : ℕ) → is_space c ≡ true → not (is_child c) ≡ true
space_no_child c is = grind (arith, nat_tests)

space_no_comma : (c : ℕ) → is_space c ≡ true → not (is_comma c) ≡ true
space_no_comma c is = grind (arith, nat_tests)

-- ---- selectors

module _ (rules : Rules) (scope : List ℕ) where
  abbrev fits_test : (ℕ → Bool) → Type 0
  fits_test test = (c : ℕ) → is_compound_character c ≡ true → test c ≡ true

  compound_all : (test : ℕ → Bool) → fits_test test → (word : List ℕ) → is_compound rules word ≡ true → list_all test word ≡ true
  compound_all test fits word is = all-weaker is_compound_character test fits word (compound_fits rules word is)

  pub chains_again : (front tail : List ℕ) (chains : List (List (List ℕ))) → list_all is_space front ≡ true → list_all is_space tail ≡ true
      → list_all (is_canonical_chain rules) chains ≡ true → not (length chains == 0) ≡ true → chains_of (front ++ (chains_text chains ++ tail)) ≡ chains
  chains_again front tail chains before behind all some =
      joined_again is_child 0x3E refl space_no_child (0x20 ∷ []) (0x20 ∷ []) refl refl words_of chain_text (is_canonical_chain rules)
      (λ front tail chain before behind is. chain_again rules front tail chain before behind is)
      (λ chain is. chain_has rules _ (test-closed (λ c. not (is_child c))) (compound_all (λ c. not (is_child c)) no_child) refl chain is)
      front tail chains before behind all some

  some_chains : (chains : List (List (List ℕ))) → is_canonical_selector rules scope chains ≡ true → not (length chains == 0) ≡ true
  some_chains [] is = absurd cc
  some_chains (chain ∷ chains) is = ap not (not_empty chain chains)

  pub selectors_again : (tail : List ℕ) (selectors : List (List (List (List ℕ)))) → list_all is_space tail ≡ true
      → list_all (is_canonical_selector rules scope) selectors ≡ true → not (length selectors == 0) ≡ true
      → map chains_of (slice_split is_comma (join_by chains_text (codes ", ") selectors ++ tail)) ≡ selectors
  selectors_again tail selectors behind all some =
      joined_again is_comma 0x2C refl space_no_comma [] (0x20 ∷ []) refl refl chains_of chains_text (is_canonical_selector rules scope)
      (λ front tail chains before behind is. chains_again front tail chains before behind (selector_parts rules scope chains is).0 (some_chains chains is))
      (λ chains is. chains_have rules _ (test-closed (λ c. not (is_comma c))) (compound_all (λ c. not (is_comma c)) no_comma) refl refl chains (selector_parts rules scope chains is).0)
      [] tail selectors refl behind all some

  -- a canonical selector is one
  chain_is : (chain : List (List ℕ)) → is_canonical_chain rules chain ≡ true → is_chain rules chain ≡ true
  chain_is chain is =
      let both = and_parts (not (length chain == 0)) (list_all (is_canonical_compound rules) chain) is in
      and_from _ _ both.0 (all-weaker (is_canonical_compound rules) (is_compound rules) (λ word fits. (compound_same rules word fits).1) chain both.1)

  few : (scoped : Bool) (n : ℕ) → scoped ≡ true → nat_le n 16 ≡ true → nat_le (n + (if scoped then 0 else 1)) 16 ≡ true
  few scoped n is small = ap (λ b. nat_le (n + (if b then 0 else 1)) 16) is ∙ ap (λ k. nat_le k 16) (zero_more n) ∙ small where
    zero_more : (n : ℕ) → n + 0 ≡ n
    zero_more n = omega arith

  selector_is : (text : List ℕ) → is_canonical_selector rules scope (chains_of text) ≡ true → is_selector rules scope text ≡ true
  unfolding is_selector
  selector_is text is =
      let parts = selector_parts rules scope (chains_of text) is in
      and_from _ _ (all-weaker (is_canonical_chain rules) (is_chain rules) chain_is (chains_of text) parts.0) (few (is_scoped scope (chains_of text)) (compound_count (chains_of text)) parts.1 parts.2)

  scoped_text : (text : List ℕ) → is_canonical_selector rules scope (chains_of text) ≡ true → chains_text (chains_of text) ≡ selector_text scope text
  unfolding selector_text
  scoped_text text is =
      ap (λ t. t ++ chains_text (chains_of text)) (sym (cond-true (is_scoped scope (chains_of text)) [] (scope_compound scope ++ 0x20 ∷ []) (selector_parts rules scope (chains_of text) is).1))

  of_map : {X Y : Type 0} (test : Y → Bool) (change : X → Y) (xs : List X) → list_all test (map change xs) ≡ true → list_all (λ x. test (change x)) xs ≡ true
  of_map test change [] all = refl
  of_map test change (x ∷ xs) all =
      let both = and_parts (test (change x)) (list_all test (map change xs)) all in
      and_from _ _ both.0 (of_map test change xs both.1)

  -- so a prelude that writes canonical selectors is read, and written as they are
  pub prelude_again : (tail : List ℕ) (selectors : List (List (List (List ℕ)))) → list_all is_space tail ≡ true
      → list_all (is_canonical_selector rules scope) selectors ≡ true → not (length selectors == 0) ≡ true
      → (are_selectors rules scope (join_by chains_text (codes ", ") selectors ++ tail) ≡ true)
      × (selectors_text scope (join_by chains_text (codes ", ") selectors ++ tail) ≡ join_by chains_text (codes ", ") selectors)
  prelude_again tail selectors behind all some =
      let texts = slice_split is_comma (join_by chains_text (codes ", ") selectors ++ tail) in
      let again = selectors_again tail selectors behind all some in
      let canonical : list_all (λ text. is_canonical_selector rules scope (chains_of text)) texts ≡ true =
      of_map (is_canonical_selector rules scope) chains_of texts (ap (list_all (is_canonical_selector rules scope)) again ∙ all) in (
        all-weaker (λ text. is_canonical_selector rules scope (chains_of text)) (is_selector rules scope) selector_is texts canonical,
        sym (join_like chains_text (selector_text scope) chains_of (λ text. is_canonical_selector rules scope (chains_of text)) (codes ", ") scoped_text texts canonical)
            ∙ ap (join_by chains_text (codes ", ")) again,
      )
