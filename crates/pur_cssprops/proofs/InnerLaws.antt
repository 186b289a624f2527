-- What the parts of a text inherit from it: the values of a style, and what stands in `url()`.
use Rattle.std.proofs.Common.{◌≡◌, ℕ, ◌-◌, ◌+◌, codes, Bool, true, false, not, cond, List, [], ◌∷◌, ◌++◌, length, take, drop, Option, Some, None, refl, sym, ap, subst, ◌∙◌, arith}
use Rattle.std.specs.Prelude.{◌==◌, ◌&&◌, ◌||◌, slice_index}
use Rattle.std.specs.Char.{to_ascii_lowercase}
use Rattle.std.specs.List.{list_all, list_any, after_first, prefix_len, suffix_len, position_or_len}
use Rattle.std.specs.Option.{option_map_or}
use Rattle.std.proofs.lemmas.Bool.Decides.{nat_tests}
use Rattle.std.proofs.lemmas.List.{take-append-drop}
use Rattle.std.proofs.lemmas.Option.{option_and_then_some, same_Some}
use Rattle.pur_laws.proofs.Lists.{all-parts, all-weaker}
use Rattle.pur_laws.proofs.Tests.{kept}
use Rattle.pur_text.specs.Characters.{is_space}
use Rattle.pur_text.specs.Trimming.{without_leading_space, trimmed}
use Rattle.pur_uri.specs.Splitting.{is_kept}
use Rattle.pur_csstok.specs.Declarations.{has_escape_or_comment, is_colon}
use Rattle.pur_csstok.specs.Ends.{behind, before, between, behind_all, argument_of}
use Rattle.pur_csstok.specs.Urls.{breaks_quotes, breaks_bare, without, argument_read, url_read}

-- ---- what is inherited

-- what a text has, its front and its rest have
pub record IsInherited (P : List ℕ → Type 0) : Type 0 where
  pub front : (xs ys : List ℕ) → P (xs ++ ys) → P xs
  pub rest : (xs ys : List ℕ) → P (xs ++ ys) → P ys

pub all-inherited : (test : ℕ → Bool) → IsInherited (λ text. list_all test text ≡ true)
all-inherited test = record { front = λ xs ys all. (all-parts test xs ys all).0; rest = λ xs ys all. (all-parts test xs ys all).1 }

pub or_parts : (one more : Bool) → (one || more) ≡ false → (one ≡ false) × (more ≡ false)
or_parts false more is = (refl, is)
or_parts true more is = absurd cc

abbrev pub IsPlain : List ℕ → Type 0
IsPlain text = has_escape_or_comment text ≡ false

-- a star that doesn't come next in a text doesn't come next in its front
no_star : (xs ys : List ℕ) → (slice_index (xs ++ ys) 0 == 0x2A) ≡ false → (slice_index xs 0 == 0x2A) ≡ false
no_star [] ys is = refl
no_star (x ∷ xs) ys is = is

pub and_weaker : (b x y : Bool) → (x ≡ false → y ≡ false) → (b && x) ≡ false → (b && y) ≡ false
and_weaker true x y weaker is = weaker is
and_weaker false x y weaker is = refl

pub or_both : (a b c : Bool) → a ≡ false → b ≡ false → c ≡ false → (a || b || c) ≡ false
or_both false false false a b c = refl
or_both true b c a_is b_is c_is = absurd cc
or_both false true c a_is b_is c_is = absurd cc
or_both false false true a_is b_is c_is = absurd cc

plain_front : (xs ys : List ℕ) → IsPlain (xs ++ ys) → IsPlain xs
unfolding has_escape_or_comment
plain_front [] ys is = refl
plain_front (x ∷ xs) ys is =
    let later = or_parts (x == 0x5C || (x == 0x2F && slice_index (xs ++ ys) 0 == 0x2A)) (has_escape_or_comment (xs ++ ys)) is in
    let here = or_parts (x == 0x5C) (x == 0x2F && slice_index (xs ++ ys) 0 == 0x2A) later.0 in
    or_both (x == 0x5C) (x == 0x2F && slice_index xs 0 == 0x2A) (has_escape_or_comment xs) here.0
    (and_weaker (x == 0x2F) (slice_index (xs ++ ys) 0 == 0x2A) (slice_index xs 0 == 0x2A) (no_star xs ys) here.1)
    (plain_front xs ys later.1)

plain_rest : (xs ys : List ℕ) → IsPlain (xs ++ ys) → IsPlain ys
unfolding has_escape_or_comment
plain_rest [] ys is = is
plain_rest (x ∷ xs) ys is =
    plain_rest xs ys (or_parts (x == 0x5C || (x == 0x2F && slice_index (xs ++ ys) 0 == 0x2A)) (has_escape_or_comment (xs ++ ys)) is).1

pub plain-inherited : IsInherited IsPlain
plain-inherited = record { front = plain_front; rest = plain_rest }

-- ---- parts

module _ (P : List ℕ → Type 0) (inherits : IsInherited P) where
  pub take-inner : (n : ℕ) (text : List ℕ) → P text → P (take n text)
  take-inner n text is = inherits.front (take n text) (drop n text) (subst P (sym (take-append-drop n text)) is)

  pub drop-inner : (n : ℕ) (text : List ℕ) → P text → P (drop n text)
  drop-inner n text is = inherits.rest (take n text) (drop n text) (subst P (sym (take-append-drop n text)) is)

  pub trimmed-inner : (text : List ℕ) → P text → P (trimmed text)
  unfolding trimmed
  trimmed-inner text is =
      let front = without_leading_space text in
      take-inner (length front - suffix_len is_space front) front (drop-inner (prefix_len is_space text) text is)

  -- the value of a declaration
  pub value-inner : (text : List ℕ) → P text → P (trimmed (after_first is_colon text))
  value-inner text is = trimmed-inner (after_first is_colon text) (drop-inner (position_or_len is_colon text + 1) text is)

  behind_inner : (first : ℕ) (text inner : List ℕ) → P text → behind first text ≡ Some inner → P inner
  behind_inner first [] inner is e = absurd cc
  behind_inner first (c ∷ text) inner is e = subst P (kept (to_ascii_lowercase c == first) text inner e).1 (inherits.rest (c ∷ []) text is)

  before_inner : (last : ℕ) (text inner : List ℕ) → P text → before last text ≡ Some inner → P inner
  before_inner last text inner is e =
      let front = take (length text - 1) text in
      subst P (kept (not (length text == 0) && slice_index text (length text - 1) == last) front inner e).1 (take-inner (length text - 1) text is)

  behind_all_inner : (front text inner : List ℕ) → P text → behind_all front text ≡ Some inner → P inner
  behind_all_inner [] text inner is e = subst P (same_Some text inner e) is
  behind_all_inner (first ∷ more) text inner is e =
      option_and_then_some (behind_all more) (behind first text) inner e
      (λ later found rest. behind_all_inner more later inner (behind_inner first text later is found) rest)

  argument_inner : (front text inner : List ℕ) → P text → argument_of front text ≡ Some inner → P inner
  argument_inner front text inner is e =
      option_and_then_some (before 0x29) (behind_all front text) inner e
      (λ later found rest. before_inner 0x29 later inner (behind_all_inner front text later is found) rest)

  between_inner : (quote : ℕ) (text inner : List ℕ) → P text → between quote text ≡ Some inner → P inner
  between_inner quote text inner is e =
      option_and_then_some (before quote) (behind quote text) inner e
      (λ later found rest. before_inner quote later inner (behind_inner quote text later is found) rest)

-- a text without such characters
none_breaks : (breaks : ℕ → Bool) (text : List ℕ) → list_any breaks text ≡ false → list_all (λ c. not (breaks c)) text ≡ true
none_breaks breaks [] none = refl
none_breaks breaks (c ∷ text) none =
    let parts = or_parts (breaks c) (list_any breaks text) none in
    ap (λ b. not b && list_all (λ d. not (breaks d)) text) parts.0 ∙ none_breaks breaks text parts.1

unbroken : (b : Bool) (text inner : List ℕ) → cond b None (Some text) ≡ Some inner → (b ≡ false) × (text ≡ inner)
unbroken false text inner e = (refl, same_Some text inner e)
unbroken true text inner e = absurd cc

without-is : (breaks : ℕ → Bool) (text inner : List ℕ) → without breaks text ≡ Some inner → (list_all (λ c. not (breaks c)) inner ≡ true) × (text ≡ inner)
without-is breaks text inner e =
    let is = unbroken (list_any breaks text) text inner e in
    (subst (λ t. list_all (λ c. not (breaks c)) t ≡ true) is.1 (none_breaks breaks text is.0), is.1)

double_kept : (c : ℕ) → not (breaks_quotes 0x22 c) ≡ true → is_kept c ≡ true
double_kept c is = grind (arith, nat_tests)

single_kept : (c : ℕ) → not (breaks_quotes 0x27 c) ≡ true → is_kept c ≡ true
single_kept c is = grind (arith, nat_tests)

bare_kept : (c : ℕ) → not (breaks_bare c) ≡ true → is_kept c ≡ true
bare_kept c is = grind (arith, nat_tests)

-- what stands in `url()` is a part of it, without tabs and line feeds
module _ (P : List ℕ → Type 0) (inherits : IsInherited P) where
  bare_found : (text inner : List ℕ) → P text → without breaks_bare text ≡ Some inner → P inner × (list_all is_kept inner ≡ true)
  bare_found text inner is e =
      let found = without-is breaks_bare text inner e in
      (subst P found.1 is, all-weaker (λ c. not (breaks_bare c)) is_kept bare_kept inner found.0)

  argument_found : (text inner : List ℕ) → P text → argument_read text ≡ Some inner → P inner × (list_all is_kept inner ≡ true)
  unfolding argument_read
  argument_found text inner is e = go (between 0x22 text) (between 0x27 text) refl refl e where
    go : (double single : Option (List ℕ)) → between 0x22 text ≡ double → between 0x27 text ≡ single
        → option_map_or (without (breaks_quotes 0x22)) double (option_map_or (without (breaks_quotes 0x27)) single (without breaks_bare text)) ≡ Some inner
        → P inner × (list_all is_kept inner ≡ true)
    go (Some part) single double_is single_is found =
        let whole = without-is (breaks_quotes 0x22) part inner found in
        (subst P whole.1 (between_inner P inherits 0x22 text part is double_is), all-weaker (λ c. not (breaks_quotes 0x22 c)) is_kept double_kept inner whole.0)
    go None (Some part) double_is single_is found =
        let whole = without-is (breaks_quotes 0x27) part inner found in
        (subst P whole.1 (between_inner P inherits 0x27 text part is single_is), all-weaker (λ c. not (breaks_quotes 0x27 c)) is_kept single_kept inner whole.0)
    go None None double_is single_is found = bare_found text inner is found

  pub url-found : (text inner : List ℕ) → P text → url_read text ≡ Some inner → P inner × (list_all is_kept inner ≡ true)
  unfolding url_read
  url-found text inner is e =
      option_and_then_some (λ argument. argument_read (trimmed argument)) (argument_of (codes "url(") text) inner e
      (λ argument found more. argument_found (trimmed argument) inner (trimmed-inner P inherits argument (argument_inner P inherits (codes "url(") text argument is found)) more)

  pub url-inner : (text inner : List ℕ) → P text → url_read text ≡ Some inner → P inner
  url-inner text inner is e = (url-found text inner is e).0
