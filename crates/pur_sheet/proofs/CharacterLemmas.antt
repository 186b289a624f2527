-- What canonical selectors are written with.
use Rattle.std.proofs.Common.{◌≡◌, ℕ, Bool, true, false, List, [], ◌∷◌, ◌++◌, length, map, Option, Some, None, refl, sym, ap, subst, ◌∙◌, arith, ⊎_elim}
use Rattle.std.specs.Prelude.{◌==◌, ◌&&◌, ◌||◌, not, codes, nat_le}
use Rattle.std.specs.Char.{to_ascii_lowercase}
use Rattle.std.specs.List.{find, flat_map, join_by, join_with_byte, list_all}
use Rattle.std.specs.Str.{bytes_eq, str_to_ascii_lowercase}
use Rattle.std.proofs.lemmas.Bool.{cases_Bool, and_parts, and_from, or_cases, cond-true, cond-false}
use Rattle.std.proofs.lemmas.Bool.Decides.{nat_tests}
use Rattle.std.proofs.lemmas.Option.{same_Some}
use Rattle.std.proofs.lemmas.Slice.Eq.{bytes_eq-Decides}
use Rattle.pur_laws.proofs.Lists.{all-append, all-weaker}
use Rattle.pur_names.proofs.ElementLaws.{each_element}
use Rattle.pur_names.specs.Elements.{all_elements, element_name, element_named}
use Rattle.pur_names.specs.declared.elements.Element.{Element}
use Rattle.pur_settings.specs.Rules.{Rules, permits_found, permits_name}
use Rattle.pur_sheet.specs.Canonical.{is_canonical_compound, is_canonical_chain, is_canonical_selector}
use Rattle.pur_sheet.specs.Selectors.{Part, chain_text, chains_text, compound_count, compound_of, compound_text, is_class, is_compound, is_head, is_identifier, is_letter, is_mark, is_name_character, is_part, is_scoped, is_word, part_text}
use Rattle.pur_sheet.proofs.CompoundLemmas.{parts_marked, parts_whole}

-- ---- compounds

-- a character of a name, a mark or `*`
abbrev pub is_compound_character : ℕ → Bool
is_compound_character c = is_name_character c || is_mark c || c == 0x2A

found_passes : {X : Type 0} (test : X → Bool) (all : List X) (x : X) → find test all ≡ Some x → test x ≡ true
found_passes test [] x found = absurd cc
found_passes test (first ∷ more) x found = ⊎_elim
    (λ (here : test first ≡ true). ap test (sym (same_Some first x (sym (cond-true _ _ _ here) ∙ found))) ∙ here)
    (λ (behind : test first ≡ false). found_passes test more x (sym (cond-false _ _ _ behind) ∙ found))
    (cases_Bool (test first))

names_plain : (e : Element) → list_all is_name_character (element_name e) ≡ true
names_plain = each_element (λ e. list_all is_name_character (element_name e)) refl

named_plain : (rules : Rules) (name : List ℕ) → permits_name rules name ≡ true → list_all is_name_character name ≡ true
unfolding element_named
named_plain rules name permits = go (element_named name) refl permits where
  go : (found : Option Element) → element_named name ≡ found → permits_found rules found ≡ true → list_all is_name_character name ≡ true
  go None e permits = absurd cc
  go (Some element) e permits =
      ap (list_all is_name_character) (sym ((bytes_eq-Decides (element_name element) name).0 (found_passes (λ d. bytes_eq (element_name d) name) all_elements element e)))
      ∙ names_plain element

before_lowered : (c : ℕ) → is_name_character (to_ascii_lowercase c) ≡ true → is_name_character c ≡ true
before_lowered c is = grind (arith, nat_tests)

lowered_plain : (text : List ℕ) → list_all is_name_character (str_to_ascii_lowercase text) ≡ true → list_all is_name_character text ≡ true
lowered_plain [] all = refl
lowered_plain (c ∷ text) all =
    let both = and_parts (is_name_character (to_ascii_lowercase c)) (list_all is_name_character (str_to_ascii_lowercase text)) all in
    and_from _ _ (before_lowered c both.0) (lowered_plain text both.1)

name_fits : (c : ℕ) → is_name_character c ≡ true → is_compound_character c ≡ true
name_fits c is = grind (arith, nat_tests)

mark_fits : (c : ℕ) → is_mark c ≡ true → is_compound_character c ≡ true
mark_fits c is = grind (arith, nat_tests)

letter_named : (c : ℕ) → is_letter c ≡ true → is_name_character c ≡ true
letter_named c is = grind (arith, nat_tests)

start_named : (c : ℕ) → (is_letter c || c == 0x5F || c == 0x2D) ≡ true → is_name_character c ≡ true
start_named c is = grind (arith, nat_tests)

empty_head : (text : List ℕ) → (length text == 0) ≡ true → list_all is_compound_character text ≡ true
empty_head [] none = refl
empty_head (c ∷ text) none = let some : (length (c ∷ text) == 0) ≡ false = grind (arith, nat_tests) in absurd (cc)

head_fits : (rules : Rules) (head : List ℕ) → is_head rules head ≡ true → list_all is_compound_character head ≡ true
head_fits rules head is = ⊎_elim
    (λ (front : ((length head == 0) || bytes_eq head (codes "*")) ≡ true).
    ⊎_elim
    (λ (none : (length head == 0) ≡ true). empty_head head none)
    (λ (star : bytes_eq head (codes "*") ≡ true). ap (list_all is_compound_character) ((bytes_eq-Decides head (codes "*")).0 star))
    (or_cases (length head == 0) (bytes_eq head (codes "*")) front))
    (λ (named : permits_name rules (str_to_ascii_lowercase head) ≡ true).
    all-weaker is_name_character is_compound_character name_fits head (lowered_plain head (named_plain rules (str_to_ascii_lowercase head) named)))
    (or_cases ((length head == 0) || bytes_eq head (codes "*")) (permits_name rules (str_to_ascii_lowercase head)) is)

identifier_plain : (text : List ℕ) → is_identifier text ≡ true → list_all is_name_character text ≡ true
identifier_plain [] is = refl
identifier_plain (c ∷ text) is =
    let both = and_parts (is_letter c) (list_all is_name_character text) is in
    and_from _ _ (letter_named c both.0) both.1

class_plain : (text : List ℕ) → is_class text ≡ true → list_all is_name_character text ≡ true
class_plain [] is = refl
class_plain (c ∷ text) is =
    let both = and_parts (is_letter c || c == 0x5F || c == 0x2D) (list_all is_name_character text) is in
    and_from _ _ (start_named c both.0) both.1

part_plain : (part : Part) → is_part part ≡ true → list_all is_name_character part.1 ≡ true
part_plain part is = ⊎_elim
    (λ (dot : (part.0 == 0x2E) ≡ true). class_plain part.1 (sym (cond-true _ _ _ dot) ∙ is))
    (λ (hash : (part.0 == 0x2E) ≡ false). identifier_plain part.1 (sym (cond-false _ _ _ hash) ∙ is))
    (cases_Bool (part.0 == 0x2E))

parts_fit : (parts : List Part) → list_all is_part parts ≡ true → list_all (λ (part : Part). is_mark part.0) parts ≡ true → list_all is_compound_character (flat_map part_text parts) ≡ true
parts_fit [] is marks = refl
parts_fit (part ∷ parts) is marks =
    let both = and_parts (is_part part) (list_all is_part parts) is in
    let marked = and_parts (is_mark part.0) (list_all (λ (part : Part). is_mark part.0) parts) marks in
    all-append is_compound_character (part_text part) (flat_map part_text parts)
    (and_from _ _ (mark_fits part.0 marked.0) (all-weaker is_name_character is_compound_character name_fits part.1 (part_plain part both.0)))
    (parts_fit parts both.1 marked.1)

pub compound_fits : (rules : Rules) (text : List ℕ) → is_compound rules text ≡ true → list_all is_compound_character text ≡ true
unfolding is_compound
compound_fits rules text is =
    let both = and_parts (is_head rules (compound_of text).head) (list_all is_part (compound_of text).parts) is in
    ap (list_all is_compound_character) (sym (parts_whole text))
    ∙ all-append is_compound_character (compound_of text).head (flat_map part_text (compound_of text).parts) (head_fits rules (compound_of text).head both.0)
    (parts_fit (compound_of text).parts both.1 (parts_marked text))

-- ---- selectors

-- what holds of texts holds of these in a row
pub record IsClosed (A : List ℕ → Type 0) : Type 0 where
  pub none : A []
  pub append : (xs ys : List ℕ) → A xs → A ys → A (xs ++ ys)

pub test-closed : (test : ℕ → Bool) → IsClosed (λ text. list_all test text ≡ true)
test-closed test = record { none = refl; append = all-append test }

module _ (A : List ℕ → Type 0) (closed : IsClosed A) where
  closed_flat : {X : Type 0} (write : X → List ℕ) (mark : List ℕ) (fits : X → Bool) → A mark → ((x : X) → fits x ≡ true → A (write x)) → (xs : List X) → list_all fits xs ≡ true
      → A (flat_map (λ x. mark ++ write x) xs)
  closed_flat write mark fits has each [] all = closed.none
  closed_flat write mark fits has each (x ∷ xs) all =
      let both = and_parts (fits x) (list_all fits xs) all in
      closed.append (mark ++ write x) (flat_map (λ x. mark ++ write x) xs) (closed.append mark (write x) has (each x both.0)) (closed_flat write mark fits has each xs both.1)

  pub closed_join : {X : Type 0} (write : X → List ℕ) (mark : List ℕ) (fits : X → Bool) → A mark → ((x : X) → fits x ≡ true → A (write x)) → (xs : List X) → list_all fits xs ≡ true
      → A (join_by write mark xs)
  closed_join write mark fits has each [] all = closed.none
  closed_join write mark fits has each (x ∷ xs) all =
      let both = and_parts (fits x) (list_all fits xs) all in
      closed.append (write x) (flat_map (λ x. mark ++ write x) xs) (each x both.0) (closed_flat write mark fits has each xs both.1)

  closed_spaced : (fits : List ℕ → Bool) → A (0x20 ∷ []) → ((word : List ℕ) → fits word ≡ true → A word) → (words : List (List ℕ)) → list_all fits words ≡ true → A (join_with_byte 0x20 words)
  closed_spaced fits space each [] all = closed.none
  closed_spaced fits space each (word ∷ []) all = each word (and_parts (fits word) true all).0
  closed_spaced fits space each (word ∷ next ∷ words) all =
      let both = and_parts (fits word) (list_all fits (next ∷ words)) all in
      closed.append word (0x20 ∷ join_with_byte 0x20 (next ∷ words)) (each word both.0)
      (closed.append (0x20 ∷ []) (join_with_byte 0x20 (next ∷ words)) space (closed_spaced fits space each (next ∷ words) both.1))

-- canonical compounds are written as they are
pub compound_same : (rules : Rules) (word : List ℕ) → is_canonical_compound rules word ≡ true → (is_word word ≡ true) × (is_compound rules word ≡ true) × (compound_text word ≡ word)
compound_same rules word is =
    let both = and_parts (is_word word && is_compound rules word) (bytes_eq (compound_text word) word) is in
    let parts = and_parts (is_word word) (is_compound rules word) both.0 in
    (parts.0, parts.1, (bytes_eq-Decides (compound_text word) word).0 both.1)

words_same : (rules : Rules) (words : List (List ℕ)) → list_all (is_canonical_compound rules) words ≡ true → map compound_text words ≡ words
words_same rules [] all = refl
words_same rules (word ∷ words) all =
    let both = and_parts (is_canonical_compound rules word) (list_all (is_canonical_compound rules) words) all in
    ap (λ t. t ∷ map compound_text words) (compound_same rules word both.0).2 ∙ ap (λ t. word ∷ t) (words_same rules words both.1)

pub chain_same : (rules : Rules) (chain : List (List ℕ)) → is_canonical_chain rules chain ≡ true → chain_text chain ≡ join_with_byte 0x20 chain
chain_same rules chain is = ap (join_with_byte 0x20) (words_same rules chain (and_parts (not (length chain == 0)) (list_all (is_canonical_compound rules) chain) is).1)

-- the chains of a canonical selector, which is scoped and short
pub selector_parts : (rules : Rules) (scope : List ℕ) (chains : List (List (List ℕ))) → is_canonical_selector rules scope chains ≡ true
    → (list_all (is_canonical_chain rules) chains ≡ true) × (is_scoped scope chains ≡ true) × (nat_le (compound_count chains) 16 ≡ true)
selector_parts rules scope chains is =
    let both = and_parts (list_all (is_canonical_chain rules) chains && is_scoped scope chains) (nat_le (compound_count chains) 16) is in
    let parts = and_parts (list_all (is_canonical_chain rules) chains) (is_scoped scope chains) both.0 in
    (parts.0, parts.1, both.1)

module _ (rules : Rules) (A : List ℕ → Type 0) (closed : IsClosed A) (each : (word : List ℕ) → is_compound rules word ≡ true → A word) (space : A (0x20 ∷ [])) where
  pub chain_has : (chain : List (List ℕ)) → is_canonical_chain rules chain ≡ true → A (chain_text chain)
  chain_has chain is =
      subst A (sym (chain_same rules chain is))
      (closed_spaced A closed (is_canonical_compound rules) space (λ word fits. each word (compound_same rules word fits).1) chain
      (and_parts (not (length chain == 0)) (list_all (is_canonical_compound rules) chain) is).1)

  pub chains_have : A (codes " > ") → (chains : List (List (List ℕ))) → list_all (is_canonical_chain rules) chains ≡ true → A (chains_text chains)
  chains_have mark chains all = closed_join A closed chain_text (codes " > ") (is_canonical_chain rules) mark chain_has chains all

  pub selectors_have : (scope : List ℕ) → A (codes " > ") → A (codes ", ") → (selectors : List (List (List (List ℕ)))) → list_all (is_canonical_selector rules scope) selectors ≡ true
      → A (join_by chains_text (codes ", ") selectors)
  selectors_have scope mark comma selectors all =
      closed_join A closed chains_text (codes ", ") (is_canonical_selector rules scope) comma
      (λ chains is. chains_have mark chains (selector_parts rules scope chains is).0) selectors all
