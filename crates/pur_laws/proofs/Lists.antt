-- Lists all of whose elements pass a test.
use Rattle.std.proofs.Common.{◌≡◌, ◌+◌, ℕ, zero, suc, Bool, true, false, cond, List, [], ◌∷◌, ◌++◌, take, drop, filter, refl, sym, ap, subst, ◌∙◌, arith}
use Rattle.std.specs.Prelude.{◌&&◌, ◌||◌, reverse}
use Rattle.std.specs.List.{list_all, list_any, prefix_len}
use Rattle.std.proofs.lemmas.Bool.{and_from, and_left, and_parts, and_right}
use Rattle.std.proofs.lemmas.List.{reverse-append}
use Rattle.std.proofs.lemmas.List.Folds.{list_all-append}

module _ {X : Type 0} (test : X → Bool) where
  pub all-append : (xs ys : List X) → list_all test xs ≡ true → list_all test ys ≡ true → list_all test (xs ++ ys) ≡ true
  all-append xs ys front back = list_all-append test xs ys ∙ and_from _ _ front back

  pub all-parts : (xs ys : List X) → list_all test (xs ++ ys) ≡ true → (list_all test xs ≡ true) × (list_all test ys ≡ true)
  all-parts xs ys all = and_parts _ _ (sym (list_all-append test xs ys) ∙ all)

  -- one element that fails
  pub all-fails : (before behind : List X) (x : X) → test x ≡ false → list_all test (before ++ x ∷ behind) ≡ false
  all-fails before behind x fails = list_all-append test before (x ∷ behind) ∙ and_right _ _ (and_left _ _ fails)

  pub all-take : (n : ℕ) (xs : List X) → list_all test xs ≡ true → list_all test (take n xs) ≡ true
  all-take zero xs all = refl
  all-take (suc n) [] all = refl
  all-take (suc n) (x ∷ xs) all =
      let parts = and_parts (test x) (list_all test xs) all in
      and_from _ _ parts.0 (all-take n xs parts.1)

  pub all-drop : (n : ℕ) (xs : List X) → list_all test xs ≡ true → list_all test (drop n xs) ≡ true
  all-drop zero xs all = all
  all-drop (suc n) [] all = refl
  all-drop (suc n) (x ∷ xs) all = all-drop n xs (and_parts (test x) (list_all test xs) all).1

  pub all-reverse : (xs : List X) → list_all test xs ≡ true → list_all test (reverse xs) ≡ true
  all-reverse [] all = refl
  all-reverse (x ∷ xs) all =
      let parts = and_parts (test x) (list_all test xs) all in
      let last : list_all test (x ∷ []) ≡ true = and_from _ _ parts.0 refl in
      ap (list_all test) (reverse-append (x ∷ []) xs) ∙ all-append (reverse xs) (x ∷ []) (all-reverse xs parts.1) last

  -- what another test keeps
  pub all-filter : (other : X → Bool) (xs : List X) → list_all test xs ≡ true → list_all test (filter other xs) ≡ true
  all-filter other [] all = refl
  all-filter other (x ∷ xs) all =
      let parts = and_parts (test x) (list_all test xs) all in
      go (other x) (filter other xs) parts.0 (all-filter other xs parts.1)
    where
      go : (keeps : Bool) (kept : List X) → test x ≡ true → list_all test kept ≡ true → list_all test (cond keeps (x ∷ kept) kept) ≡ true
      go true kept first more = and_from _ _ first more
      go false kept first more = more

  -- what the test itself keeps
  pub all-kept : (xs : List X) → list_all test (filter test xs) ≡ true
  all-kept [] = refl
  all-kept (x ∷ xs) = go (test x) (filter test xs) refl (all-kept xs)
    where
      go : (keeps : Bool) (kept : List X) → test x ≡ keeps → list_all test kept ≡ true → list_all test (cond keeps (x ∷ kept) kept) ≡ true
      go true kept first more = and_from _ _ first more
      go false kept first more = more

  -- the elements before the first that fails
  pub all-prefix : (xs : List X) → list_all test (take (prefix_len test xs) xs) ≡ true
  all-prefix [] = refl
  all-prefix (x ∷ xs) = go (test x) refl (all-prefix xs)
    where
      counted : (n : ℕ) → suc n ≡ 1 + n
      counted n = omega arith

      go : (passes : Bool) → test x ≡ passes → list_all test (take (prefix_len test xs) xs) ≡ true
          → list_all test (take (cond passes (1 + prefix_len test xs) 0) (x ∷ xs)) ≡ true
      go true first more = subst (λ n. list_all test (take n (x ∷ xs)) ≡ true) (counted (prefix_len test xs)) (and_from _ _ first more)
      go false first more = refl

-- two tests, one of which follows from the other
module _ {X : Type 0} (test other : X → Bool) where
  pub all-weaker : ((x : X) → test x ≡ true → other x ≡ true) → (xs : List X) → list_all test xs ≡ true → list_all other xs ≡ true
  all-weaker follows [] all = refl
  all-weaker follows (x ∷ xs) all =
      let parts = and_parts (test x) (list_all test xs) all in
      and_from _ _ (follows x parts.0) (all-weaker follows xs parts.1)

  -- and two that agree
  pub all-same : ((x : X) → test x ≡ other x) → (xs : List X) → list_all test xs ≡ list_all other xs
  all-same same [] = refl
  all-same same (x ∷ xs) = ap (λ b. b && list_all test xs) (same x) ∙ ap (λ b. other x && b) (all-same same xs)

  pub any-same : ((x : X) → test x ≡ other x) → (xs : List X) → list_any test xs ≡ list_any other xs
  any-same same [] = refl
  any-same same (x ∷ xs) = ap (λ b. b || list_any test xs) (same x) ∙ ap (λ b. other x || b) (any-same same xs)
