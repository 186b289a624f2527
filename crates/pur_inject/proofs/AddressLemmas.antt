-- Where an address begins in a run, and what stands in front of it and behind it.
use Rattle.std.proofs.Common.{◌≡◌, ◌⊎◌, ℕ, suc, ◌<◌, ◌≤◌, Bool, true, false, not, ◌&&◌, List, [], ◌∷◌, length, get_or, refl, sym, ap, ◌∙◌, arith, ⊎_elim, nat_eq, ◌++◌, ◌-◌, take, drop, subst, take-append-drop}
use Rattle.std.specs.Prelude.{◌||◌, if◌then◌else◌, reverse, codes}
use Rattle.std.specs.Char.{is_ascii_alphanumeric}
use Rattle.std.specs.Cmp.Lexicographic.{pointwise}
use Rattle.std.specs.List.{list_all, list_any, starts_with, prefix_len}
use Rattle.std.specs.Str.{IsCharBoundary}
use Rattle.std.proofs.lemmas.Bool.{cond-true, cond-false, and_from, and_parts, cases_Bool}
use Rattle.std.proofs.lemmas.Bool.Decides.{nat_tests}
use Rattle.std.proofs.lemmas.List.{reverse-reverse, reverse-append, length-reverse, length-drop, drop_at}
use Rattle.std.proofs.lemmas.List.Sums.{prefix_len-le-length}
use Rattle.pur_laws.proofs.Lists.{all-prefix, all-reverse, all-weaker}
use Rattle.pur_laws.proofs.Texts.{is_ascii, ascii_at}
use Rattle.pur_inject.specs.Addresses.{is_address_character, is_end_mark, begins_address, address_place, end_marks_of}

-- an address begins with an `h` or an `f`
pub begins_with_h_or_f : (c : ℕ) (run : List ℕ) → begins_address (c ∷ run) ≡ true → (c ≡ 104) ⊎ (c ≡ 102)
begins_with_h_or_f c run is = grind (arith, nat_tests)

same_number : (a b : ℕ) → nat_eq a b ≡ true → b ≡ a
same_number a b is = grind (arith, nat_tests)

pub place-here : (within : Bool) (c : ℕ) (run : List ℕ) → (not within && begins_address (c ∷ run)) ≡ true → address_place within (c ∷ run) ≡ 0
place-here within c run is = cond-true _ _ _ is

pub place-later : (within : Bool) (c : ℕ) (run : List ℕ) → (not within && begins_address (c ∷ run)) ≡ false
    → address_place within (c ∷ run) ≡ suc (address_place (is_ascii_alphanumeric c) run)
place-later within c run is = cond-false _ _ _ is

pub place-bound : (within : Bool) (run : List ℕ) → address_place within run ≤ length run
place-bound within [] = omega arith
place-bound within (c ∷ run) = ⊎_elim
    (λ (here : (not within && begins_address (c ∷ run)) ≡ true). omega (arith, place-here within c run here))
    (λ (later : (not within && begins_address (c ∷ run)) ≡ false). omega (arith, place-later within c run later, place-bound (is_ascii_alphanumeric c) run))
    (cases_Bool (not within && begins_address (c ∷ run)))

-- where no character can begin an address there is none
pub place-none : (test : ℕ → Bool) → ((c : ℕ) (run : List ℕ) → test c ≡ true → begins_address (c ∷ run) ≡ false)
    → (within : Bool) (run : List ℕ) → list_all test run ≡ true → address_place within run ≡ length run
place-none test never within [] all = refl
place-none test never within (c ∷ run) all =
    let both = and_parts (test c) (list_all test run) all in
    place-later within c run (and_right (not within) (never c run both.0)) ∙ ap suc (place-none test never (is_ascii_alphanumeric c) run both.1)
  where
    and_right : (a : Bool) {b : Bool} → b ≡ false → (a && b) ≡ false
    and_right true e = e
    and_right false e = refl

false_unless : (b : Bool) → (b ≡ true → ⊥) → b ≡ false
false_unless true never = absurd (never refl)
false_unless false never = refl

other_never : (c : ℕ) (run : List ℕ) → not (is_address_character c) ≡ true → begins_address (c ∷ run) ≡ false
other_never c run other = false_unless (begins_address (c ∷ run)) (λ is. ⊎_elim
    (λ (h : c ≡ 104). let no : not (is_address_character 104) ≡ true = ap (λ d. not (is_address_character d)) (sym h) ∙ other in absurd (cc))
    (λ (f : c ≡ 102). let no : not (is_address_character 102) ≡ true = ap (λ d. not (is_address_character d)) (sym f) ∙ other in absurd (cc))
    (begins_with_h_or_f c run is))

mark_never : (c : ℕ) (run : List ℕ) → is_end_mark c ≡ true → begins_address (c ∷ run) ≡ false
mark_never c run mark = false_unless (begins_address (c ∷ run)) (λ is. ⊎_elim
    (λ (h : c ≡ 104). let no : is_end_mark 104 ≡ true = ap is_end_mark (sym h) ∙ mark in absurd (cc))
    (λ (f : c ≡ 102). let no : is_end_mark 102 ≡ true = ap is_end_mark (sym f) ∙ mark in absurd (cc))
    (begins_with_h_or_f c run is))

-- a run of other characters has no address
pub place-other : (within : Bool) (run : List ℕ) → list_all (λ c. not (is_address_character c)) run ≡ true → address_place within run ≡ length run
place-other = place-none (λ c. not (is_address_character c)) other_never

pub place-marks : (within : Bool) (run : List ℕ) → list_all is_end_mark run ≡ true → address_place within run ≡ length run
place-marks = place-none is_end_mark mark_never

-- address characters are ASCII
pub address_ascii : (c : ℕ) → is_address_character c ≡ true → is_ascii c ≡ true
address_ascii c is = grind (arith, nat_tests)

pub run-ascii : (run : List ℕ) → list_all is_address_character run ≡ true → list_all is_ascii run ≡ true
run-ascii = all-weaker is_address_character is_ascii address_ascii

-- a text in ASCII may be cut everywhere
pub ascii-boundary : (text : List ℕ) (n : ℕ) → list_all is_ascii text ≡ true → n ≤ length text → IsCharBoundary text n
ascii-boundary text n all within =
    (within, λ (below : n < length text) (high : 128 ≤ get_or text n 0). let low : get_or text n 0 < 128 = ascii_at text all n in absurd (omega arith))

-- ---- the marks at the end, and what stands before the address

suffix-all : (test : ℕ → Bool) (r : List ℕ) → list_all test (drop (length (reverse r) - prefix_len test r) (reverse r)) ≡ true
suffix-all test r =
    let k = prefix_len test r in
    let whole : r ≡ take k r ++ drop k r = sym (take-append-drop k r) in
    let turned : reverse r ≡ reverse (drop k r) ++ reverse (take k r) = ap reverse whole ∙ reverse-append (take k r) (drop k r) in
    let n : length (reverse r) - k ≡ length (reverse (drop k r)) =
    omega (arith, length-reverse r, length-reverse (drop k r), length-drop k r, prefix_len-le-length test r) in
    ap (list_all test) (ap (λ m. drop m (reverse r)) n ∙ ap (drop (length (reverse (drop k r)))) turned ∙ drop_at (reverse (drop k r)) (reverse (take k r)) (length (reverse (drop k r))) refl)
    ∙ all-reverse test (take k r) (all-prefix test r)

pub all-marks : (s : List ℕ) → list_all is_end_mark (end_marks_of s) ≡ true
all-marks s = subst (λ t. list_all is_end_mark (drop (length t - prefix_len is_end_mark (reverse s)) t) ≡ true) (reverse-reverse s) (suffix-all is_end_mark (reverse s))

starts-more : (p s t : List ℕ) → pointwise nat_eq p (take (length p) s) ≡ true → pointwise nat_eq p (take (length p) (s ++ t)) ≡ true
starts-more [] s t is = refl
starts-more (x ∷ p) [] t is = absurd (cc)
starts-more (x ∷ p) (y ∷ s) t is =
    let both = and_parts (nat_eq x y) (pointwise nat_eq p (take (length p) s)) is in
    and_from _ _ both.0 (starts-more p s t both.1)

any-more : (ps : List (List ℕ)) (s t : List ℕ) → list_any (λ p. starts_with nat_eq s p) ps ≡ true → list_any (λ p. starts_with nat_eq (s ++ t) p) ps ≡ true
any-more [] s t is = absurd (cc)
any-more (p ∷ ps) s t is = go (starts_with nat_eq s p) refl (starts_with nat_eq (s ++ t) p) refl is (any-more ps s t) where
  go : (a : Bool) → starts_with nat_eq s p ≡ a → (b : Bool) → starts_with nat_eq (s ++ t) p ≡ b → (a || list_any (λ p. starts_with nat_eq s p) ps) ≡ true
      → (list_any (λ p. starts_with nat_eq s p) ps ≡ true → list_any (λ p. starts_with nat_eq (s ++ t) p) ps ≡ true)
      → (b || list_any (λ p. starts_with nat_eq (s ++ t) p) ps) ≡ true
  go a ae true be is more = refl
  go true ae false be is more = let yes = starts-more p s t ae in absurd (cc)
  go false ae false be is more = more is

begins-more : (s t : List ℕ) → begins_address s ≡ true → begins_address (s ++ t) ≡ true
begins-more s t is = any-more (codes "http://" ∷ codes "https://" ∷ codes "ftp://" ∷ []) s t is

not-begun : (within : Bool) (s t : List ℕ) → (not within && begins_address (s ++ t)) ≡ false → (not within && begins_address s) ≡ false
not-begun true s t isnt = refl
not-begun false s t isnt = go (begins_address s) refl where
  go : (b : Bool) → begins_address s ≡ b → begins_address s ≡ false
  go true is = let more = begins-more s t is in absurd (cc)
  go false is = is

-- in front of the first place there is none
pub place-before : (within : Bool) (run : List ℕ) → address_place within (take (address_place within run) run) ≡ length (take (address_place within run) run)
place-before within [] = refl
place-before within (c ∷ run) = go (not within && begins_address (c ∷ run)) refl (place-before (is_ascii_alphanumeric c) run) where
  p : ℕ
  p = address_place (is_ascii_alphanumeric c) run

  go : (b : Bool) → (not within && begins_address (c ∷ run)) ≡ b → address_place (is_ascii_alphanumeric c) (take p run) ≡ length (take p run)
      → address_place within (take (if b then 0 else suc p) (c ∷ run)) ≡ length (take (if b then 0 else suc p) (c ∷ run))
  go true is more = refl
  go false is more =
      let whole : c ∷ run ≡ (c ∷ take p run) ++ drop p run = ap (λ t. c ∷ t) (sym (take-append-drop p run)) in
      let isnt : (not within && begins_address (c ∷ take p run)) ≡ false =
      not-begun within (c ∷ take p run) (drop p run) (ap (λ t. not within && begins_address t) (sym whole) ∙ is) in
      place-later within c (take p run) isnt ∙ ap suc more
