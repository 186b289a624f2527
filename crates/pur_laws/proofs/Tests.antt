-- What tests tell: of what is given under a condition, of lists, and of names that stand in a list.
use Rattle.std.proofs.Common.{◌≡◌, ℕ, Bool, true, false, cond, List, [], ◌∷◌, length, Some, None, subst, refl, sym, ap, ◌∙◌, arith, ⊎_elim}
use Rattle.std.specs.Prelude.{◌==◌, ◌&&◌, ◌||◌, not, ⊤}
use Rattle.std.specs.Cmp.Lexicographic.{same_text}
use Rattle.std.specs.List.{list_all, list_any}
use Rattle.std.specs.Str.{bytes_eq}
use Rattle.std.proofs.lemmas.Bool.{and_parts, and_from, or_cases}
use Rattle.std.proofs.lemmas.Bool.Decides.{nat_tests}

-- what is given under a condition
pub kept : {X : Type 0} (b : Bool) (x y : X) → cond b (Some x) None ≡ Some y → (b ≡ true) × (x ≡ y)
kept true x y e = (refl, cc)
kept false x y e = absurd cc

pub not_empty : {X : Type 0} (x : X) (xs : List X) → (length (x ∷ xs) == 0) ≡ false
not_empty x xs = grind (arith, nat_tests)

pub same_number : (c : ℕ) → (c == c) ≡ true
same_number c = grind (arith, nat_tests)

-- what passes two tests, and what each text of a list passes
pub all-and : {X : Type 0} (one two : X → Bool) (xs : List X) → list_all one xs ≡ true → list_all two xs ≡ true → list_all (λ x. one x && two x) xs ≡ true
all-and one two [] a b = refl
all-and one two (x ∷ xs) a b =
    let both_a = and_parts (one x) (list_all one xs) a in
    let both_b = and_parts (two x) (list_all two xs) b in
    and_from _ _ (and_from _ _ both_a.0 both_b.0) (all-and one two xs both_a.1 both_b.1)

-- a name in a list, of whose names a test holds, passes it
pub all-named : (test : List ℕ → Bool) (names : List (List ℕ)) (text : List ℕ) → list_all test names ≡ true → list_any (λ name. bytes_eq text name) names ≡ true → test text ≡ true
all-named test [] text all is = absurd cc
all-named test (name ∷ names) text all is =
    let both = and_parts (test name) (list_all test names) all in
    ⊎_elim
    (λ (here : bytes_eq text name ≡ true). ap test (same_text text name (sym here)) ∙ both.0)
    (λ (later : list_any (λ name. bytes_eq text name) names ≡ true). all-named test names text both.1 later)
    (or_cases (bytes_eq text name) (list_any (λ name. bytes_eq text name) names) is)

-- what holds of each text of a list
abbrev pub Each : (List ℕ → Type 0) → List (List ℕ) → Type 0
Each P [] = ⊤
Each P (text ∷ texts) = P text × Each P texts

pub each-test : (P : List ℕ → Type 0) (test : List ℕ → Bool) → ((text : List ℕ) → P text → test text ≡ true) → (texts : List (List ℕ)) → Each P texts → list_all test texts ≡ true
each-test P test passes [] all = refl
each-test P test passes (text ∷ texts) all = and_from _ _ (passes text all.0) (each-test P test passes texts all.1)

pub each-named : (P : List ℕ → Type 0) (names : List (List ℕ)) (text : List ℕ) → Each P names → list_any (λ name. bytes_eq text name) names ≡ true → P text
each-named P [] text all is = absurd cc
each-named P (name ∷ names) text all is = ⊎_elim
    (λ (here : bytes_eq text name ≡ true). subst P (sym (same_text text name (sym here))) all.0)
    (λ (later : list_any (λ name. bytes_eq text name) names ≡ true). each-named P names text all.1 later)
    (or_cases (bytes_eq text name) (list_any (λ name. bytes_eq text name) names) is)
