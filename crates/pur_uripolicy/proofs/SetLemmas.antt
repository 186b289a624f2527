-- Sorted hosts, and the set of them.
use Rattle.std.proofs.Common.{◌≡◌, ℕ, ◌<◌, ◌≤◌, Bool, true, List, [], ◌∷◌, length, get_or, Ok, Err, Result, refl, sym, ap, ◌∙◌, arith, map, string_bytes, ⊎_elim}
use Rattle.std.specs.Prelude.{◌||◌}
use Rattle.std.specs.Cmp.{Equal-is, eq_by_cmp_equiv}
use Rattle.std.specs.Cmp.Lexicographic.{slice_cmp, nat_list_cmp_total, nat_list_eq_equiv}
use Rattle.std.specs.FinSet.{from_list, items, contains-items, contains-from_list, same_set, nat_cmp-IsAntisymmetric, slice_cmp-IsAntisymmetric}
use Rattle.std.specs.List.{list_any}
use Rattle.std.specs.List.Sorted.{IsPermutation, IsSorted, IsSearchInRange, IsBinarySearchResult}
use Rattle.std.specs.Ordering.{nat_cmp, eq_by_cmp, is_eq}
use Rattle.std.specs.Result.{is_ok}
use Rattle.std.specs.Str.{bytes_eq}
use Rattle.std.specs.String.{string_cmp}
use Rattle.std.specs.declared.cmp.Ordering.{Ordering}
use Rattle.std.specs.declared.string.String.{String}
use Rattle.std.specs.declared.alloc.Global.{Global}
use Rattle.std.proofs.lemmas.Bool.{cases_lt}
use Rattle.std.proofs.lemmas.List.Folds.{Any-from_list_any, list_any-from_Any, list_any_none, list_any_at}
use Rattle.std.proofs.lemmas.List.Sorted.{list_any-IsPermutation, searchable_from_sorted}
use Rattle.std.proofs.lemmas.Map.Text.{is_eq-slice_cmp}
use Rattle.std.proofs.lemmas.Map.Views.{Contains-from_any, list_any-from_Contains}
use Rattle.pur_laws.proofs.Truth.{true_together}
use Rattle.pur_uripolicy.specs.HostRules.{in_order}

abbrev order : List ℕ → List ℕ → Ordering
order = slice_cmp nat_cmp

-- ---- the set of hosts

-- hosts in another order are the same set
pub in_order-moved : (xs ys : List (List ℕ)) → IsPermutation xs ys → in_order xs ≡ in_order ys
unfolding in_order
in_order-moved xs ys moved =
    ap items (same_set nat_list_cmp_total (slice_cmp-IsAntisymmetric nat_cmp-IsAntisymmetric) (from_list xs) (from_list ys)
    (λ q. contains-from_list nat_list_cmp_total xs q ∙ list_any-IsPermutation (eq_by_cmp order q) xs ys moved
    ∙ sym (contains-from_list nat_list_cmp_total ys q)))

same_host : (x y : List ℕ) → eq_by_cmp order x y ≡ true → x ≡ y
same_host x y tie = slice_cmp-IsAntisymmetric nat_cmp-IsAntisymmetric x y ((Equal-is (order x y)).0 tie)

-- what one list has that passes, a list with the same members has
carried : (test : List ℕ → Bool) (xs ys : List (List ℕ))
    → ((q : List ℕ) → list_any (eq_by_cmp order q) xs ≡ list_any (eq_by_cmp order q) ys) → list_any test xs ≡ true → list_any test ys ≡ true
carried test xs ys same one =
    let found = Any-from_list_any test xs one in
    let x = found.1 in
    let in_xs = list_any-from_Contains (eq_by_cmp_equiv nat_list_cmp_total) x xs (found.0, found.2, found.3) in
    let in_ys = Contains-from_any same_host x ys (sym (same x) ∙ in_xs) in
    list_any-from_Any test ys (in_ys.0, x, in_ys.1, in_ys.2, found.4)

-- the set has the hosts, and no others
pub any-in_order : (test : List ℕ → Bool) (hosts : List (List ℕ)) → list_any test (in_order hosts) ≡ list_any test hosts
unfolding in_order
any-in_order test hosts =
    let same : (q : List ℕ) → list_any (eq_by_cmp order q) (items (from_list {R = order} hosts)) ≡ list_any (eq_by_cmp order q) hosts
    = λ q. sym (contains-items (from_list hosts) q) ∙ contains-from_list nat_list_cmp_total hosts q in
    true_together _ _ (carried test _ hosts same) (carried test hosts _ (λ q. sym (same q)))

-- ---- a search by halving

any-map : {X : Type 0} (f : X → List ℕ) (test : List ℕ → Bool) (xs : List X) → list_any test (map f xs) ≡ list_any (λ x. test (f x)) xs
any-map f test [] = refl
any-map f test (x ∷ xs) = ap (λ b. test (f x) || b) (any-map f test xs)

tied : (x name : List ℕ) → bytes_eq name x ≡ is_eq (order x name)
tied x name = nat_list_eq_equiv.symm name x ∙ sym (is_eq-slice_cmp x name)

-- a search by halving among sorted hosts finds a name where one of them is it
pub found : (names : List (String Global)) (name : List ℕ) (r : Result ℕ ℕ) → IsSorted string_cmp names → IsSearchInRange r (length names)
    → IsBinarySearchResult (λ (h : String Global). order (string_bytes h) name) names r → is_ok r ≡ list_any (bytes_eq name) (map string_bytes names)
found [] name (Ok place) sorted within searched = absurd (omega (arith, within))
found (h ∷ names) name (Ok place) sorted within equal =
    sym (any-map string_bytes (bytes_eq name) (h ∷ names)
    ∙ list_any_at (λ (x : String Global). bytes_eq name (string_bytes x)) (h ∷ names) place h within
    (tied (string_bytes (get_or (h ∷ names) place h)) name ∙ ap is_eq (equal h)))
found names name (Err place) sorted within searched =
    let parts = searched (searchable_from_sorted nat_list_cmp_total (λ (h : String Global). string_bytes h) names name sorted) in
    sym (any-map string_bytes (bytes_eq name) names
    ∙ list_any_none (λ (x : String Global). bytes_eq name (string_bytes x)) names (λ k d below.
    tied (string_bytes (get_or names k d)) name ∙ ⊎_elim
    (λ (low : k < place). ap is_eq (parts.0 k d (omega arith) low))
    (λ (high : place ≤ k). ap is_eq (parts.1 k d high below))
    (cases_lt k place)))
