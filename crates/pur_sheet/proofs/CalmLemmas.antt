-- Texts that lose nothing before they are read.
use Rattle.std.proofs.Common.{◌≡◌, ℕ, Bool, true, false, List, [], ◌∷◌, ◌++◌, refl, ap, ◌∙◌, arith}
use Rattle.std.specs.Prelude.{◌==◌, ◌&&◌, ◌||◌, not, codes, slice_index}
use Rattle.std.specs.List.{list_all}
use Rattle.std.proofs.lemmas.Bool.{and_left, and_right, and_parts, cond-false, not-true, or_parts, or_from}
use Rattle.std.proofs.lemmas.Bool.Decides.{nat_tests}
use Rattle.pur_csstok.specs.Declarations.{has_escape_or_comment}
use Rattle.pur_sheet.specs.Comments.{begins, unmarked, unmarked_behind, uncommented, uncommented_behind}
use Rattle.pur_sheet.proofs.CharacterLemmas.{IsClosed}

-- ---- `->`

abbrev pub has_arrow : List ℕ → Bool
has_arrow [] = false
has_arrow (c ∷ text) = (c == 0x2D && slice_index text 0 == 0x3E) || has_arrow text

abbrev pub IsArrowless : List ℕ → Type 0
IsArrowless text = (has_arrow text ≡ false) × ((slice_index text 0 == 0x3E) ≡ false)

arrow_before : (xs ys : List ℕ) → has_arrow xs ≡ false → has_arrow ys ≡ false → (slice_index ys 0 == 0x3E) ≡ false → has_arrow (xs ++ ys) ≡ false
arrow_before [] ys front back next = back
arrow_before (c ∷ []) ys front back next = or_from (c == 0x2D && slice_index ys 0 == 0x3E) (has_arrow ys) (and_right _ _ next) back
arrow_before (c ∷ d ∷ xs) ys front back next =
    let first = or_parts (c == 0x2D && d == 0x3E) (has_arrow (d ∷ xs)) front in
    or_from (c == 0x2D && d == 0x3E) (has_arrow (d ∷ (xs ++ ys))) first.0 (arrow_before (d ∷ xs) ys first.1 back next)

arrowless_both : (xs ys : List ℕ) → IsArrowless xs → IsArrowless ys → IsArrowless (xs ++ ys)
arrowless_both [] ys front back = back
arrowless_both (c ∷ xs) ys front back = (arrow_before (c ∷ xs) ys front.0 back.0 back.1, front.1)

pub arrowless-closed : IsClosed IsArrowless
arrowless-closed = record { none = (refl, refl); append = arrowless_both }

first_no_tip : (text : List ℕ) → list_all (λ c. not (c == 0x3E)) text ≡ true → (slice_index text 0 == 0x3E) ≡ false
first_no_tip [] all = refl
first_no_tip (c ∷ text) all = not-true _ (and_parts (not (c == 0x3E)) (list_all (λ c. not (c == 0x3E)) text) all).0

pub no_tip : (text : List ℕ) → list_all (λ c. not (c == 0x3E)) text ≡ true → IsArrowless text
no_tip [] all = (refl, refl)
no_tip (c ∷ text) all =
    let both = and_parts (not (c == 0x3E)) (list_all (λ c. not (c == 0x3E)) text) all in
    (or_from (c == 0x2D && slice_index text 0 == 0x3E) (has_arrow text) (and_right _ _ (first_no_tip text both.1)) (no_tip text both.1).0, not-true _ both.0)

-- ---- marks

no_front : (c : ℕ) (text : List ℕ) → not (c == 0x3C) ≡ true → begins (codes "<!--") (c ∷ text) ≡ false
no_front c text isnt = and_left _ _ (other c isnt) where
  other : (c : ℕ) → not (c == 0x3C) ≡ true → (0x3C == c) ≡ false
  other c isnt = grind (arith, nat_tests)

no_back : (c : ℕ) (text : List ℕ) → has_arrow text ≡ false → begins (codes "-->") (c ∷ text) ≡ false
no_back c [] none = and_right _ _ refl
no_back c (d ∷ []) none = and_right _ _ (and_right _ _ refl)
no_back c (d ∷ e ∷ text) none = and_right _ _ (neither d e (or_parts (d == 0x2D && e == 0x3E) (has_arrow (e ∷ text)) none).0) where
  neither : (d e : ℕ) → (d == 0x2D && e == 0x3E) ≡ false → (0x2D == d && (0x3E == e && true)) ≡ false
  neither d e none = grind (arith, nat_tests)

pub unmarked-same : (text : List ℕ) → list_all (λ c. not (c == 0x3C)) text ≡ true → has_arrow text ≡ false → unmarked text ≡ text
unfolding unmarked_behind
unmarked-same [] all none = refl
unmarked-same (c ∷ text) all none =
    let both = and_parts (not (c == 0x3C)) (list_all (λ c. not (c == 0x3C)) text) all in
    let rest = (or_parts (c == 0x2D && slice_index text 0 == 0x3E) (has_arrow text) none).1 in
    cond-false _ _ _ (no_front c text both.0) ∙ cond-false _ _ _ (no_back c text rest) ∙ ap (λ t. c ∷ t) (unmarked-same text both.1 rest)

-- ---- comments

no_opening : (c : ℕ) (text : List ℕ) → has_escape_or_comment (c ∷ text) ≡ false → begins (codes "/*") (c ∷ text) ≡ false
unfolding has_escape_or_comment
no_opening c [] none = and_right _ _ refl
no_opening c (d ∷ text) none =
    neither c d (or_parts (c == 0x5C) (c == 0x2F && d == 0x2A) (or_parts (c == 0x5C || (c == 0x2F && d == 0x2A)) (has_escape_or_comment (d ∷ text)) none).0).1 where
      neither : (c d : ℕ) → (c == 0x2F && d == 0x2A) ≡ false → (0x2F == c && (0x2A == d && true)) ≡ false
      neither c d none = grind (arith, nat_tests)

plain_behind : (c : ℕ) (text : List ℕ) → has_escape_or_comment (c ∷ text) ≡ false → has_escape_or_comment text ≡ false
unfolding has_escape_or_comment
plain_behind c text none = (or_parts (c == 0x5C || (c == 0x2F && slice_index text 0 == 0x2A)) (has_escape_or_comment text) none).1

pub uncommented-same : (text : List ℕ) → has_escape_or_comment text ≡ false → uncommented text ≡ text
unfolding uncommented_behind
uncommented-same [] none = refl
uncommented-same (c ∷ text) none = cond-false _ _ _ (no_opening c text none) ∙ ap (λ t. c ∷ t) (uncommented-same text (plain_behind c text none))
