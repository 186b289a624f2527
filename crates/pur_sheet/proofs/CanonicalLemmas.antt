-- What is written of a compound and a selector is canonical.
use Rattle.std.proofs.Common.{◌≡◌, ℕ, ◌+◌, ◌<◌, Bool, true, false, cond, List, [], ◌∷◌, ◌++◌, length, map, take, drop, refl, sym, ap, subst, ◌∙◌, arith, ⊎_elim, append-nil, append_assoc}
use Rattle.std.specs.Prelude.{◌==◌, ◌&&◌, ◌||◌, not, codes, nat_le, nat_lt}
use Rattle.std.specs.Char.{to_ascii_lowercase}
use Rattle.std.specs.List.{flat_map, join_by, join_with_byte, list_all, prefix_len}
use Rattle.std.specs.Str.{bytes_eq, str_to_ascii_lowercase}
use Rattle.std.proofs.lemmas.Bool.{false≢true, lt-ltb, cases_Bool, and_parts, and_from, or_cases, cond-true, cond-false}
use Rattle.std.proofs.lemmas.Bool.Decides.{nat_tests}
use Rattle.std.proofs.lemmas.List.{length-append, length-map}
use Rattle.std.proofs.lemmas.Slice.Eq.{bytes_eq-Decides}
use Rattle.std.proofs.lemmas.Str.Ascii.{lowercase-lowercase}
use Rattle.pur_laws.proofs.Lists.{all-prefix, all-weaker}
use Rattle.pur_laws.proofs.Tests.{not_empty}
use Rattle.pur_settings.specs.Rules.{Rules, permits_name}
use Rattle.pur_sheet.specs.Canonical.{is_canonical_compound, is_canonical_chain, is_canonical_selector}
use Rattle.pur_sheet.specs.Selectors.{chain_text, chains_text, compound_count, compound_of, compound_text, is_chain, is_compound, is_head, is_identifier, is_letter, is_name_character, is_part, is_scoped, is_short, is_word, scope_compound}
use Rattle.pur_sheet.specs.Private.Words.{is_no_mark}
use Rattle.pur_sheet.proofs.CompoundLemmas.{IsCut, head_cut, head_taken, no_head, no_parts, part_read, compound_written, compound_tested}

same : (xs ys : List ℕ) → bytes_eq xs ys ≡ true → xs ≡ ys
same xs ys is = (bytes_eq-Decides xs ys).0 is

equal : (xs ys : List ℕ) → xs ≡ ys → bytes_eq xs ys ≡ true
equal xs ys is = (bytes_eq-Decides xs ys).1 is

-- ---- compounds

lowered-lowered : (text : List ℕ) → str_to_ascii_lowercase (str_to_ascii_lowercase text) ≡ str_to_ascii_lowercase text
lowered-lowered [] = refl
lowered-lowered (c ∷ text) = ap (λ d. d ∷ str_to_ascii_lowercase (str_to_ascii_lowercase text)) (lowercase-lowercase c) ∙ ap (λ t. to_ascii_lowercase c ∷ t) (lowered-lowered text)

low_unmarked : (c : ℕ) → is_no_mark c ≡ true → is_no_mark (to_ascii_lowercase c) ≡ true
low_unmarked c is = grind (arith, nat_tests)

lowered_unmarked : (text : List ℕ) → list_all is_no_mark text ≡ true → list_all is_no_mark (str_to_ascii_lowercase text) ≡ true
lowered_unmarked [] all = refl
lowered_unmarked (c ∷ text) all =
    let both = and_parts (is_no_mark c) (list_all is_no_mark text) all in
    and_from _ _ (low_unmarked c both.0) (lowered_unmarked text both.1)

abbrev pub head_of : List ℕ → List ℕ
head_of text = take (prefix_len is_no_mark text) text

abbrev pub parts_of : List ℕ → List ℕ
parts_of text = drop (prefix_len is_no_mark text) text

pub cut_of : (text : List ℕ) → IsCut text (head_of text) (parts_of text)
cut_of text = head_cut text (head_of text) (parts_of text) (prefix_len is_no_mark text) refl refl refl

abbrev lowered_of : List ℕ → List ℕ
lowered_of text = str_to_ascii_lowercase (head_of text) ++ parts_of text

lowered_cut : (text : List ℕ) → IsCut (lowered_of text) (str_to_ascii_lowercase (head_of text)) (parts_of text)
lowered_cut text =
    let low = str_to_ascii_lowercase (head_of text) in
    let begins = (cut_of text).begins in
    let both = head_taken low (parts_of text) (lowered_unmarked (head_of text) (all-prefix is_no_mark text)) begins in
    record {
      same_head = both.0;
      same_parts = both.1;
      begins = begins;
      whole = refl;
      shorter = omega (arith, length-append low (parts_of text));
    }

written_of : (text : List ℕ) → compound_text text ≡ lowered_of text
written_of text = compound_written text (head_of text) (parts_of text) (cut_of text)

-- what is written is written as itself
pub compound-again : (text : List ℕ) → compound_text (compound_text text) ≡ compound_text text
compound-again text =
    let low = str_to_ascii_lowercase (head_of text) in
    ap compound_text (written_of text) ∙ compound_written (lowered_of text) low (parts_of text) (lowered_cut text)
    ∙ ap (λ t. t ++ parts_of text) (lowered-lowered (head_of text)) ∙ sym (written_of text)

or_first : (a b c : Bool) → a ≡ true → (a || b || c) ≡ true
or_first true b c is = refl
or_first false b c is = absurd cc

or_second : (a b c : Bool) → b ≡ true → (a || b || c) ≡ true
or_second true b c is = refl
or_second false true c is = refl
or_second false false c is = absurd cc

or_third : (a b c : Bool) → c ≡ true → (a || b || c) ≡ true
or_third true b c is = refl
or_third false true c is = refl
or_third false false true is = refl
or_third false false false is = absurd cc

module _ (rules : Rules) where
  head-again : (head : List ℕ) → is_head rules head ≡ true → is_head rules (str_to_ascii_lowercase head) ≡ true
  head-again head is =
      let low = str_to_ascii_lowercase head in
      let goal = λ (t : List ℕ). is_head rules t ≡ true in
      ⊎_elim
      (λ (front : ((length head == 0) || bytes_eq head (codes "*")) ≡ true).
      ⊎_elim
      (λ (none : (length head == 0) ≡ true). or_first (length low == 0) (bytes_eq low (codes "*")) (permits_name rules (str_to_ascii_lowercase low)) (ap (λ n. n == 0) (length-map head to_ascii_lowercase) ∙ none))
      (λ (star : bytes_eq head (codes "*") ≡ true). subst goal (ap str_to_ascii_lowercase (sym (same head (codes "*") star))) refl)
      (or_cases (length head == 0) (bytes_eq head (codes "*")) front))
      (λ (named : permits_name rules low ≡ true). or_third (length low == 0) (bytes_eq low (codes "*")) (permits_name rules (str_to_ascii_lowercase low)) (ap (permits_name rules) (lowered-lowered head) ∙ named))
      (or_cases ((length head == 0) || bytes_eq head (codes "*")) (permits_name rules low) is)

  pub compound-canonical : (text : List ℕ) → is_word text ≡ true → is_compound rules text ≡ true → is_canonical_compound rules (compound_text text) ≡ true
  compound-canonical text some is =
      let low = str_to_ascii_lowercase (head_of text) in
      let parts = parts_of text in
      let both = and_parts (is_head rules (head_of text)) (list_all is_part (compound_of parts).parts) (sym (compound_tested rules text (head_of text) parts (cut_of text)) ∙ is) in
      let again : is_compound rules (compound_text text) ≡ true =
      ap (is_compound rules) (written_of text) ∙ compound_tested rules (lowered_of text) low parts (lowered_cut text)
      ∙ and_from (is_head rules low) (list_all is_part (compound_of parts).parts) (head-again (head_of text) both.0) both.1 in
      let size : length (compound_text text) ≡ length text =
      omega (arith, ap length (written_of text), length-append low parts, length-map (head_of text) to_ascii_lowercase, ap length (cut_of text).whole, length-append (head_of text) parts) in
      and_from _ _ (and_from _ _ (ap (λ n. not (n == 0)) size ∙ some) again) (equal (compound_text (compound_text text)) (compound_text text) (compound-again text))

-- ---- the scope's compound

letter_unmarked : (c : ℕ) → is_name_character c ≡ true → is_no_mark c ≡ true
letter_unmarked c is = grind (arith, nat_tests)

first_unmarked : (c : ℕ) → is_letter c ≡ true → is_no_mark c ≡ true
first_unmarked c is = grind (arith, nat_tests)

identifier_unmarked : (text : List ℕ) → is_identifier text ≡ true → list_all is_no_mark text ≡ true
identifier_unmarked [] is = refl
identifier_unmarked (c ∷ text) is =
    let both = and_parts (is_letter c) (list_all is_name_character text) is in
    and_from _ _ (first_unmarked c both.0) (all-weaker is_name_character is_no_mark letter_unmarked text both.1)

module _ (scope : List ℕ) (named : is_identifier scope ≡ true) where
  scope_parts : (compound_of (scope_compound scope)).parts ≡ (0x23, scope) ∷ []
  scope_parts =
      let both = head_taken scope [] (identifier_unmarked scope named) refl in
      let cut : IsCut scope scope [] = record {
        same_head = ap (λ t. (compound_of t).head) (sym (append-nil scope)) ∙ both.0;
        same_parts = ap (λ t. (compound_of t).parts) (sym (append-nil scope)) ∙ both.1;
        begins = refl;
        whole = append-nil scope;
        shorter = omega arith;
      } in
      part_read (scope_compound scope) 0x23 scope scope [] refl refl cut ∙ ap (λ t. (0x23, scope) ∷ t) (no_parts [] refl)

  scope_cut : IsCut (scope_compound scope) [] (scope_compound scope)
  scope_cut = record { same_head = no_head (scope_compound scope) refl; same_parts = refl; begins = refl; whole = refl; shorter = omega arith }

  pub scope_written : compound_text (scope_compound scope) ≡ scope_compound scope
  scope_written = compound_written (scope_compound scope) [] (scope_compound scope) scope_cut

  pub scope_canonical : (rules : Rules) → is_canonical_compound rules (scope_compound scope) ≡ true
  scope_canonical rules =
      let is : is_compound rules (scope_compound scope) ≡ true =
      compound_tested rules (scope_compound scope) [] (scope_compound scope) scope_cut ∙ ap (list_all is_part) scope_parts ∙ and_from (is_identifier scope) true named refl in
      and_from _ _ (and_from _ _ (ap not (not_empty 0x23 scope)) is) (equal _ _ scope_written)

-- ---- chains

map-again : (words : List (List ℕ)) → map compound_text (map compound_text words) ≡ map compound_text words
map-again [] = refl
map-again (word ∷ words) = ap (λ t. t ∷ map compound_text (map compound_text words)) (compound-again word) ∙ ap (λ t. compound_text word ∷ t) (map-again words)

-- lists that are joined, item by item
pub join_like : {X Y : Type 0} (one : X → List ℕ) (other : Y → List ℕ) (change : Y → X) (test : Y → Bool) (mark : List ℕ)
    → ((y : Y) → test y ≡ true → one (change y) ≡ other y) → (ys : List Y) → list_all test ys ≡ true → join_by one mark (map change ys) ≡ join_by other mark ys
join_like one other change test mark like [] all = refl
join_like one other change test mark like (y ∷ ys) all =
    let both = and_parts (test y) (list_all test ys) all in
    ap (λ t. t ++ flat_map (λ z. mark ++ one z) (map change ys)) (like y both.0) ∙ ap (λ t. other y ++ t) (go ys both.1) where
      go : (zs : List _) → list_all test zs ≡ true → flat_map (λ z. mark ++ one z) (map change zs) ≡ flat_map (λ z. mark ++ other z) zs
      go [] all = refl
      go (z ∷ zs) all =
          let both = and_parts (test z) (list_all test zs) all in
          ap (λ t. (mark ++ t) ++ flat_map (λ z. mark ++ one z) (map change zs)) (like z both.0) ∙ ap (λ t. (mark ++ other z) ++ t) (go zs both.1)

abbrev lowered : List (List (List ℕ)) → List (List (List ℕ))
lowered chains = map (map compound_text) chains

all_true : {X : Type 0} (xs : List X) → list_all (λ x. true) xs ≡ true
all_true [] = refl
all_true (x ∷ xs) = all_true xs

chains-again : (chains : List (List (List ℕ))) → chains_text (lowered chains) ≡ chains_text chains
chains-again chains =
    join_like chain_text chain_text (map compound_text) (λ chain. true) (codes " > ") (λ chain is. ap (join_with_byte 0x20) (map-again chain)) chains (all_true chains)

count-lowered : (chains : List (List (List ℕ))) → compound_count (lowered chains) ≡ compound_count chains
count-lowered [] = refl
count-lowered (chain ∷ chains) = ap (λ n. n + compound_count (lowered chains)) (length-map chain compound_text) ∙ ap (λ n. length chain + n) (count-lowered chains)

abbrev in_scope : List ℕ → List (List (List ℕ)) → List (List (List ℕ))
in_scope scope [] = (scope_compound scope ∷ []) ∷ []
in_scope scope (chain ∷ chains) = (scope_compound scope ∷ chain) ∷ chains

-- the chains of a selector as they are written
abbrev pub written_chains : List ℕ → List (List (List ℕ)) → List (List (List ℕ))
written_chains scope chains = cond (is_scoped scope chains) (lowered chains) (in_scope scope (lowered chains))

module _ (rules : Rules) where
  -- one or more chains of words that are compounds
  abbrev pub are_read : List (List (List ℕ)) → Bool
  are_read chains = not (length chains == 0) && (list_all (is_chain rules) chains && list_all (list_all is_word) chains)

  module _ (scope : List ℕ) (named : is_identifier scope ≡ true) where
    scope_first : (word : List ℕ) (words : List (List ℕ))
        → chain_text (scope_compound scope ∷ map compound_text (word ∷ words)) ≡ (scope_compound scope ++ 0x20 ∷ []) ++ chain_text (map compound_text (word ∷ words))
    scope_first word words =
        let text = chain_text (map compound_text (word ∷ words)) in
        ap (λ t. t ++ 0x20 ∷ text) (scope_written scope named) ∙ sym (append_assoc (scope_compound scope) (0x20 ∷ []) text)

    pub chains_written : (chains : List (List (List ℕ))) → are_read chains ≡ true
        → chains_text (written_chains scope chains) ≡ (cond (is_scoped scope chains) [] (scope_compound scope ++ 0x20 ∷ [])) ++ chains_text chains
    chains_written [] is = absurd cc
    chains_written ([] ∷ more) is = absurd (false≢true (and_parts _ _ is).1)
    chains_written ((word ∷ words) ∷ more) is =
        let chains = (word ∷ words) ∷ more in
        let front = scope_compound scope ++ 0x20 ∷ [] in
        let behind = flat_map (λ chain. codes " > " ++ chain_text chain) (lowered more) in
        ⊎_elim
        (λ (has : is_scoped scope chains ≡ true).
        ap chains_text (cond-true _ _ _ has) ∙ chains-again chains ∙ ap (λ t. t ++ chains_text chains) (sym (cond-true (is_scoped scope chains) [] front has)))
        (λ (hasnt : is_scoped scope chains ≡ false).
        ap chains_text (cond-false _ _ _ hasnt) ∙ ap (λ t. t ++ behind) (scope_first word words) ∙ append_assoc front (chain_text (map compound_text (word ∷ words))) behind
        ∙ ap (λ t. front ++ t) (chains-again chains) ∙ ap (λ t. t ++ chains_text chains) (sym (cond-false (is_scoped scope chains) [] front hasnt)))
        (cases_Bool (is_scoped scope chains))

    words_canonical : (words : List (List ℕ)) → list_all (is_compound rules) words ≡ true → list_all is_word words ≡ true → list_all (is_canonical_compound rules) (map compound_text words) ≡ true
    words_canonical [] is some = refl
    words_canonical (word ∷ words) is some =
        let both = and_parts (is_compound rules word) (list_all (is_compound rules) words) is in
        let full = and_parts (is_word word) (list_all is_word words) some in
        and_from _ _ (compound-canonical rules word full.0 both.0) (words_canonical words both.1 full.1)

    chain_canonical : (chain : List (List ℕ)) → is_chain rules chain ≡ true → list_all is_word chain ≡ true → is_canonical_chain rules (map compound_text chain) ≡ true
    chain_canonical [] is some = absurd cc
    chain_canonical (word ∷ words) is some =
        and_from _ _ (ap not (not_empty (compound_text word) (map compound_text words)))
        (words_canonical (word ∷ words) (and_parts (not (length (word ∷ words) == 0)) (list_all (is_compound rules) (word ∷ words)) is).1 some)

    chains_canonical : (chains : List (List (List ℕ))) → list_all (is_chain rules) chains ≡ true → list_all (list_all is_word) chains ≡ true → list_all (is_canonical_chain rules) (lowered chains) ≡ true
    chains_canonical [] is some = refl
    chains_canonical (chain ∷ chains) is some =
        let both = and_parts (is_chain rules chain) (list_all (is_chain rules) chains) is in
        let full = and_parts (list_all is_word chain) (list_all (list_all is_word) chains) some in
        and_from _ _ (chain_canonical chain both.0 full.0) (chains_canonical chains both.1 full.1)

    pub selector_canonical : (chains : List (List (List ℕ))) → are_read chains ≡ true → is_short scope chains ≡ true → is_canonical_selector rules scope (written_chains scope chains) ≡ true
    selector_canonical [] is short = absurd cc
    selector_canonical ([] ∷ more) is short = absurd (false≢true (and_parts _ _ is).1)
    selector_canonical ((word ∷ words) ∷ more) is short =
        let chain = word ∷ words in
        let chains = chain ∷ more in
        let first = scope_compound scope in
        let both = and_parts (list_all (is_chain rules) chains) (list_all (list_all is_word) chains) (and_parts (not (length chains == 0)) (list_all (is_chain rules) chains && list_all (list_all is_word) chains) is).1 in
        let canonical = and_parts (is_canonical_chain rules (map compound_text chain)) (list_all (is_canonical_chain rules) (lowered more)) (chains_canonical chains both.0 both.1) in
        let compounds = (and_parts (not (length (map compound_text chain) == 0)) (list_all (is_canonical_compound rules) (map compound_text chain)) canonical.0).1 in
        let counted = count-lowered chains in
        ⊎_elim
        (λ (has : is_scoped scope chains ≡ true).
        let parts = and_parts (bytes_eq word first) (nat_lt 1 (compound_count chains)) has in
        let begins : bytes_eq (compound_text word) first ≡ true = equal (compound_text word) first (ap compound_text (same word first parts.0) ∙ scope_written scope named) in
        let scoped : is_scoped scope (lowered chains) ≡ true = and_from _ _ begins (ap (nat_lt 1) counted ∙ parts.1) in
        let size : nat_le (compound_count chains + 0) 16 ≡ true = ap (λ n. nat_le (compound_count chains + n) 16) (sym (cond-true (is_scoped scope chains) 0 1 has)) ∙ short in
        let few : compound_count (lowered chains) ≡ compound_count chains + 0 = omega (arith, counted) in
        ap (is_canonical_selector rules scope) (cond-true (is_scoped scope chains) (lowered chains) (in_scope scope (lowered chains)) has)
        ∙ and_from _ _ (and_from _ _ (and_from _ _ canonical.0 canonical.1) scoped) (ap (λ n. nat_le n 16) few ∙ size))
        (λ (hasnt : is_scoped scope chains ≡ false).
        let written = in_scope scope (lowered chains) in
        let count : compound_count written ≡ compound_count chains + 1 = omega (arith, counted) in
        let more_than : 1 < compound_count written = omega (arith, count, length-map chain compound_text) in
        let scoped : is_scoped scope written ≡ true = and_from _ _ (equal first first refl) (lt-ltb 1 (compound_count written) more_than) in
        let size : nat_le (compound_count chains + 1) 16 ≡ true = ap (λ n. nat_le (compound_count chains + n) 16) (sym (cond-false (is_scoped scope chains) 0 1 hasnt)) ∙ short in
        let head : is_canonical_chain rules (first ∷ map compound_text chain) ≡ true =
        and_from _ _ (ap not (not_empty first (map compound_text chain))) (and_from _ _ (scope_canonical scope named rules) compounds) in
        ap (is_canonical_selector rules scope) (cond-false (is_scoped scope chains) (lowered chains) (in_scope scope (lowered chains)) hasnt)
        ∙ and_from _ _ (and_from _ _ (and_from _ _ head canonical.1) scoped) (ap (λ n. nat_le n 16) count ∙ size))
        (cases_Bool (is_scoped scope chains))
