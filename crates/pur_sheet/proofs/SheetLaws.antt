-- What a text is read as is a canonical sheet.
use Rattle.std.proofs.Common.{◌≡◌, ℕ, zero, suc, Bool, true, false, cond, List, [], ◌∷◌, ◌++◌, length, map, Option, Some, None, encode_utf8_all, refl, sym, ap, subst, ◌∙◌, arith, ⊎_elim, append-nil}
use Rattle.std.specs.Prelude.{◌==◌, ◌&&◌, not, codes, nat_le, option_map}
use Rattle.std.specs.List.{flat_map, list_all, slice_split}
use Rattle.std.specs.Option.{option_map_or}
use Rattle.std.specs.Str.{chars}
use Rattle.std.proofs.lemmas.Bool.{cases_Bool, and_parts, and_from, cond-true, cond-false}
use Rattle.std.proofs.lemmas.Bool.Decides.{nat_tests}
use Rattle.std.proofs.lemmas.List.{length-map}
use Rattle.std.proofs.lemmas.Option.{same_Some}
use Rattle.std.proofs.lemmas.List.Concat.{flat_map-append}
use Rattle.std.proofs.lemmas.Str.{chars-encodes, scalars-chars}
use lib.Utf8.{scalar}
use Rattle.pur_laws.proofs.Lists.{all-append, all-kept}
use Rattle.pur_laws.proofs.Truth.{either}
use Rattle.pur_settings.specs.Rules.{Rules}
use Rattle.pur_text.specs.Characters.{is_space}
use Rattle.pur_csstok.specs.Cuts.{is_outside, open_after, nothing_open}
use Rattle.pur_csstok.specs.declared.cuts.Nesting.{Nesting}
use Rattle.pur_uripolicy.specs.HostRules.{PlainHostRule}
use Rattle.pur_cssprops.specs.Laws.{StyleReadAsItself}
use Rattle.pur_cssprops.specs.Styles.{style_read}
use Rattle.pur_cssprops.proofs.UrlLaws.{all_scalars, encoded, scalars_all}
use Rattle.pur_sheet.specs.Canonical.{AreCanonical, CanonicalRule, IsCanonicalSheet, canonical_text, is_canonical_selector}
use Rattle.pur_sheet.specs.Comments.{begins, unmarked, unmarked_behind, uncommented, uncommented_behind}
use Rattle.pur_sheet.specs.Laws.{SheetsAreCanonical}
use Rattle.pur_sheet.specs.Selectors.{are_selectors, chains_of, chains_text, is_chain, is_child, is_comma, is_identifier, is_selector, is_short, is_word, selector_text, selectors_text, words_of}
use Rattle.pur_sheet.specs.Sheets.{rule_text, rule_written, sheet_of, statement_written}
use Rattle.pur_sheet.specs.Statements.{Rule, begins_with, ends_statement, in_prelude, rule_from, rule_of, statements_behind, statements_of}
use Rattle.pur_sheet.proofs.SelectorLemmas.{some_parts}
use Rattle.pur_sheet.proofs.CanonicalLemmas.{are_read, chains_written, join_like, selector_canonical, written_chains}

-- ---- what the parts of a text inherit from it

module _ (test : ℕ → Bool) where
  unmarked-all : (n : ℕ) (text : List ℕ) → list_all test text ≡ true → list_all test (unmarked_behind n text) ≡ true
  unfolding unmarked_behind
  unmarked-all n [] all = refl
  unmarked-all (suc n) (c ∷ text) all = unmarked-all n text (and_parts (test c) (list_all test text) all).1
  unmarked-all zero (c ∷ text) all =
      let both = and_parts (test c) (list_all test text) all in
      let P = λ (t : List ℕ). list_all test t ≡ true in
      either P (begins (codes "<!--") (c ∷ text)) _ _ (unmarked-all 3 text both.1)
      (either P (begins (codes "-->") (c ∷ text)) _ _ (unmarked-all 2 text both.1) (and_from _ _ both.0 (unmarked-all 0 text both.1)))

  uncommented-all : test 0x20 ≡ true → (inside : Bool) (n : ℕ) (text : List ℕ) → list_all test text ≡ true → list_all test (uncommented_behind inside n text) ≡ true
  unfolding uncommented_behind
  uncommented-all space inside n [] all = refl
  uncommented-all space inside (suc n) (c ∷ text) all = uncommented-all space inside n text (and_parts (test c) (list_all test text) all).1
  uncommented-all space false zero (c ∷ text) all =
      let both = and_parts (test c) (list_all test text) all in
      either (λ (t : List ℕ). list_all test t ≡ true) (begins (codes "/*") (c ∷ text)) _ _ (uncommented-all space true 1 text both.1) (and_from _ _ both.0 (uncommented-all space false 0 text both.1))
  uncommented-all space true zero (c ∷ text) all =
      let both = and_parts (test c) (list_all test text) all in
      either (λ (t : List ℕ). list_all test t ≡ true) (begins (codes "*/") (c ∷ text)) _ _ (and_from _ _ space (uncommented-all space false 1 text both.1)) (uncommented-all space true 0 text both.1)

  statements-all : (front text : List ℕ) → list_all test front ≡ true → list_all test text ≡ true → list_all (list_all test) (statements_behind front text) ≡ true
  unfolding statements_behind
  statements-all front [] before all = refl
  statements-all front (c ∷ text) before all =
      let both = and_parts (test c) (list_all test text) all in
      let P = λ (t : List (List ℕ)). list_all (list_all test) t ≡ true in
      let fresh = statements-all [] text refl both.1 in
      either P (length front == 0 && is_space c) _ _ fresh
      (either P (ends_statement front c) _ _ (and_from _ _ before fresh)
      (statements-all (front ++ c ∷ []) text (all-append test front (c ∷ []) before (and_from _ _ both.0 refl)) both.1))

  block-all : (before : Nesting) (text : List ℕ) (rule : Rule) → rule_from before text ≡ Some rule → list_all test text ≡ true → list_all test rule.block ≡ true
  unfolding rule_from
  block-all before [] rule e all = absurd cc
  block-all before (c ∷ text) rule e all =
      let both = and_parts (test c) (list_all test text) all in
      go (is_outside before && c == 0x7B) (rule_from (open_after false before c) text) e both.1 (λ inner is. block-all (open_after false before c) text inner is both.1) where
        go : (b : Bool) (behind : Option Rule) → cond b (Some (record { prelude = []; block = text })) (option_map (in_prelude c) behind) ≡ Some rule → list_all test text ≡ true
            → ((inner : Rule) → behind ≡ Some inner → list_all test inner.block ≡ true) → list_all test rule.block ≡ true
        go true behind e whole later = subst (λ (r : Rule). list_all test r.block ≡ true) (same_Some _ rule e) whole
        go false None e whole later = absurd cc
        go false (Some inner) e whole later = subst (λ (r : Rule). list_all test r.block ≡ true) (same_Some (in_prelude c inner) rule e) (later inner refl)

-- ---- selectors

some_mapped : {X : Type 0} (change : List ℕ → X) (test : ℕ → Bool) (text : List ℕ) → not (length (map change (slice_split test text)) == 0) ≡ true
some_mapped change test text =
    let size = length-map (slice_split test text) change in
    let some = some_parts test text in
    grind (arith, nat_tests)

words_full : (texts : List (List ℕ)) → list_all (list_all is_word) (map words_of texts) ≡ true
words_full [] = refl
words_full (text ∷ texts) = and_from _ _ (all-kept is_word (slice_split is_space text)) (words_full texts)

module _ (rules : Rules) (scope : List ℕ) (named : is_identifier scope ≡ true) where
  selector_read : (text : List ℕ) → is_selector rules scope text ≡ true → (are_read rules (chains_of text) ≡ true) × (is_short scope (chains_of text) ≡ true)
  unfolding is_selector
  selector_read text is =
      let both = and_parts (list_all (is_chain rules) (chains_of text)) (is_short scope (chains_of text)) is in
      (and_from _ _ (some_mapped words_of is_child text) (and_from _ _ both.0 (words_full (slice_split is_child text))), both.1)

  selector_is : (text : List ℕ) → is_selector rules scope text ≡ true → chains_text (written_chains scope (chains_of text)) ≡ selector_text scope text
  unfolding selector_text
  selector_is text is = chains_written rules scope named (chains_of text) (selector_read text is).0

  selectors_are : (texts : List (List ℕ)) → list_all (is_selector rules scope) texts ≡ true
      → list_all (is_canonical_selector rules scope) (map (λ text. written_chains scope (chains_of text)) texts) ≡ true
  selectors_are [] all = refl
  selectors_are (text ∷ texts) all =
      let both = and_parts (is_selector rules scope text) (list_all (is_selector rules scope) texts) all in
      let read = selector_read text both.0 in
      and_from _ _ (selector_canonical rules scope named (chains_of text) read.0 read.1) (selectors_are texts both.1)

-- ---- sheets

module _ (rules : Rules) (hosts : PlainHostRule) (scope : List ℕ) where
  nothing : IsCanonicalSheet rules hosts scope []
  nothing = record { parts = []; canonical = tt; written = refl }

  both_canonical : (one two : List CanonicalRule) → AreCanonical rules hosts scope one → AreCanonical rules hosts scope two → AreCanonical rules hosts scope (one ++ two)
  both_canonical [] two first second = second
  both_canonical (rule ∷ one) two first second = (first.0, both_canonical one two first.1 second)

  joined : (one two : List ℕ) → IsCanonicalSheet rules hosts scope one → IsCanonicalSheet rules hosts scope two → IsCanonicalSheet rules hosts scope (one ++ two)
  joined one two first second = record {
    parts = first.parts ++ second.parts;
    canonical = both_canonical first.parts second.parts first.canonical second.canonical;
    written = flat_map-append canonical_text first.parts second.parts ∙ ap (λ t. t ++ flat_map canonical_text second.parts) first.written ∙ ap (λ t. one ++ t) second.written;
  }

  module _ (named : is_identifier scope ≡ true) (itself : StyleReadAsItself) where
    -- a rule whose selectors are read, and whose style keeps this
    one_rule : (prelude raw style : List ℕ) → are_selectors rules scope prelude ≡ true → style_read rules hosts raw ≡ Some style → list_all scalar raw ≡ true
        → IsCanonicalSheet rules hosts scope (rule_text (selectors_text scope prelude) style)
    one_rule prelude raw style read kept all =
        let texts = slice_split is_comma prelude in
        let written = λ (text : List ℕ). written_chains scope (chains_of text) in
        let characters : chars (encode_utf8_all raw) ≡ raw = chars-encodes raw (scalars_all raw all) in
        let rule : CanonicalRule = record { selectors = map written texts; style = style } in
        record {
          parts = rule ∷ [];
          canonical = (
            record {
              some = some_mapped written is_comma prelude;
              selectors = selectors_are rules scope named texts read;
              style = itself rules hosts (encode_utf8_all raw) style (encoded raw all) (ap (style_read rules hosts) characters ∙ kept);
            },
            tt,
          );
          written =
              append-nil (canonical_text rule)
              ∙ ap (λ t. rule_text t style) (join_like chains_text (selector_text scope) written (is_selector rules scope) (codes ", ") (selector_is rules scope named) texts read);
        }

    rule_canonical : (rule : Rule) → list_all scalar rule.block ≡ true → IsCanonicalSheet rules hosts scope (rule_written rules hosts scope rule)
    unfolding rule_written
    rule_canonical rule all =
        let P = IsCanonicalSheet rules hosts scope in
        ⊎_elim
        (λ (read : are_selectors rules scope rule.prelude ≡ true). subst P (sym (cond-true _ _ _ read)) (go read (style_read rules hosts rule.block) refl))
        (λ (other : are_selectors rules scope rule.prelude ≡ false). subst P (sym (cond-false _ _ _ other)) nothing)
        (cases_Bool (are_selectors rules scope rule.prelude)) where
          go : are_selectors rules scope rule.prelude ≡ true → (kept : Option (List ℕ)) → style_read rules hosts rule.block ≡ kept
              → IsCanonicalSheet rules hosts scope (option_map_or (rule_text (selectors_text scope rule.prelude)) kept [])
          go read None e = nothing
          go read (Some style) e = one_rule rule.prelude rule.block style read e all

    statement_canonical : (statement : List ℕ) → list_all scalar statement ≡ true → IsCanonicalSheet rules hosts scope (statement_written rules hosts scope statement)
    unfolding statement_written
    statement_canonical statement all =
        either (IsCanonicalSheet rules hosts scope) (begins_with 0x40 statement) _ _ nothing (go (rule_of statement) refl) where
          go : (rule : Option Rule) → rule_of statement ≡ rule → IsCanonicalSheet rules hosts scope (option_map_or (rule_written rules hosts scope) rule [])
          go None e = nothing
          go (Some rule) e = rule_canonical rule (block-all scalar nothing_open statement rule e all)

    statements_canonical : (statements : List (List ℕ)) → list_all (list_all scalar) statements ≡ true → IsCanonicalSheet rules hosts scope (flat_map (statement_written rules hosts scope) statements)
    statements_canonical [] all = nothing
    statements_canonical (statement ∷ statements) all =
        let both = and_parts (list_all scalar statement) (list_all (list_all scalar) statements) all in
        joined (statement_written rules hosts scope statement) (flat_map (statement_written rules hosts scope) statements)
        (statement_canonical statement both.0) (statements_canonical statements both.1)

pub sheets-canonical : StyleReadAsItself → SheetsAreCanonical
unfolding sheet_of
sheets-canonical itself rules hosts scope raw is valid =
    let named = (and_parts (is_identifier scope) (nat_le (length scope) 64) is).0 in
    let text = uncommented (unmarked (chars raw)) in
    let all : list_all scalar text ≡ true =
    uncommented-all scalar refl false 0 (unmarked (chars raw)) (unmarked-all scalar 0 (chars raw) (all_scalars (chars raw) (scalars-chars raw valid))) in
    statements_canonical rules hosts scope named itself (statements_of text) (statements-all scalar [] text refl all)
