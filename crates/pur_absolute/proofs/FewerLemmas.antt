-- Lists of which some may be gone.
use Rattle.std.proofs.Common.{◌≡◌, ◌≤◌, Bool, true, false, not, ◌||◌, ℕ, List, [], ◌∷◌, ◌++◌, length, refl, ap, sym, ◌∙◌, arith}
use Rattle.std.specs.List.{list_all, list_any}
use Rattle.std.proofs.lemmas.Bool.{and_from, and_parts}
use Rattle.pur_attrlist.specs.Attributes.{is_same_text}
use Rattle.pur_attrlist.proofs.AttributeLaws.{both_false, none_and_all}
use Rattle.pur_validity.specs.Attributes.{are_different}

-- a list, and the same list without some that may go
pub data Fewer {T : Type 0} (goes : T → Bool) : List T → List T → Type 0 where
  none_fewer : Fewer goes [] []
  one_stays : {x : T} {xs ys : List T} → Fewer goes xs ys → Fewer goes (x ∷ xs) (x ∷ ys)
  one_goes : {x : T} {xs ys : List T} → goes x ≡ true → Fewer goes xs ys → Fewer goes (x ∷ xs) ys

module _ {T : Type 0} (goes : T → Bool) where
  pub same-fewer : (xs : List T) → Fewer goes xs xs
  same-fewer [] = none_fewer
  same-fewer (x ∷ xs) = one_stays (same-fewer xs)

  pub all-gone : ((x : T) → goes x ≡ true) → (xs : List T) → Fewer goes xs []
  all-gone any [] = none_fewer
  all-gone any (x ∷ xs) = one_goes (any x) (all-gone any xs)

  pub fewer-append : {xs ys us vs : List T} → Fewer goes xs ys → Fewer goes us vs → Fewer goes (xs ++ us) (ys ++ vs)
  fewer-append none_fewer more = more
  fewer-append (one_stays is) more = one_stays (fewer-append is more)
  fewer-append (one_goes may is) more = one_goes may (fewer-append is more)

  pub fewer-still : {xs ys zs : List T} → Fewer goes xs ys → Fewer goes ys zs → Fewer goes xs zs
  fewer-still none_fewer more = more
  fewer-still (one_goes may is) more = one_goes may (fewer-still is more)
  fewer-still (one_stays is) (one_stays more) = one_stays (fewer-still is more)
  fewer-still (one_stays is) (one_goes may more) = one_goes may (fewer-still is more)

  pub all-fewer : (test : T → Bool) {xs ys : List T} → Fewer goes xs ys → list_all test xs ≡ true → list_all test ys ≡ true
  all-fewer test none_fewer all = refl
  all-fewer test (one_stays {x} {xs} {ys} is) all =
      let parts = and_parts (test x) (list_all test xs) all in and_from _ _ parts.0 (all-fewer test is parts.1)
  all-fewer test (one_goes {x} {xs} {ys} may is) all = all-fewer test is (and_parts (test x) (list_all test xs) all).1

  pub none-fewer : (test : T → Bool) {xs ys : List T} → Fewer goes xs ys → list_any test xs ≡ false → list_any test ys ≡ false
  none-fewer test none_fewer none = refl
  none-fewer test (one_stays {x} {xs} {ys} is) none =
      let parts = both_false (test x) (list_any test xs) none in ap (λ b. b || list_any test ys) parts.0 ∙ none-fewer test is parts.1
  none-fewer test (one_goes {x} {xs} {ys} may is) none = none-fewer test is (both_false (test x) (list_any test xs) none).1

  pub length-fewer : {xs ys : List T} → Fewer goes xs ys → length ys ≤ length xs
  length-fewer none_fewer = omega arith
  length-fewer (one_stays is) = let short = length-fewer is in omega (arith, short)
  length-fewer (one_goes may is) = let short = length-fewer is in omega (arith, short)

  -- where none may go all stay
  pub fewer-same : {xs ys : List T} → Fewer goes xs ys → list_any goes xs ≡ false → ys ≡ xs
  fewer-same none_fewer none = refl
  fewer-same (one_stays {x} {xs} {ys} is) none = ap (λ l. x ∷ l) (fewer-same is (both_false (goes x) (list_any goes xs) none).1)
  fewer-same (one_goes {x} {xs} {ys} may is) none =
      let never : true ≡ false = sym may ∙ (both_false (goes x) (list_any goes xs) none).0 in absurd (cc)

  -- what is left of two lists, one behind the other
  pub record AreLeft (xs us ys : List T) : Type 0 where
    pub front : List T
    pub back : List T
    pub of_first : Fewer goes xs front
    pub of_second : Fewer goes us back
    pub joined : ys ≡ front ++ back

  pub fewer-parts : (xs us : List T) {ys : List T} → Fewer goes (xs ++ us) ys → AreLeft xs us ys
  fewer-parts [] us {ys} is = record { front = []; back = ys; of_first = none_fewer; of_second = is; joined = refl }
  fewer-parts (x ∷ xs) us (one_stays {ys} is) =
      let left = fewer-parts xs us is in
      record { front = x ∷ left.front; back = left.back; of_first = one_stays left.of_first; of_second = left.of_second; joined = ap (λ l. x ∷ l) left.joined }
  fewer-parts (x ∷ xs) us (one_goes may is) =
      let left = fewer-parts xs us is in
      record { front = left.front; back = left.back; of_first = one_goes may left.of_first; of_second = left.of_second; joined = left.joined }

-- different texts stay different
pub different-fewer : (goes : List ℕ → Bool) {xs ys : List (List ℕ)} → Fewer goes xs ys → are_different xs ≡ true → are_different ys ≡ true
different-fewer goes none_fewer all = refl
different-fewer goes (one_stays {x} {xs} {ys} is) all =
    let parts = none_and_all (list_any (is_same_text x) xs) (are_different xs) all in
    and_from _ _ (ap not (none-fewer goes (is_same_text x) is parts.0)) (different-fewer goes is parts.1)
different-fewer goes (one_goes {x} {xs} {ys} may is) all =
    different-fewer goes is (none_and_all (list_any (is_same_text x) xs) (are_different xs) all).1
