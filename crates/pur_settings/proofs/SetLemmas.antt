-- What a set of names has, and a set with one more, for any finite type whose members have a rank.
use Rattle.std.proofs.Common.{◌≡◌, ℕ, zero, suc, ◌<◌, Bool, true, false, List, [], ◌∷◌, ◌++◌, Some, ◌||◌, ◌&&◌, refl, ap, sym, ◌∙◌, nat_eq, length, replicate, slice_get, slice_index_or, arith, Ok, Err}
use Rattle.std.specs.Prelude.{slice_set}
use Rattle.std.specs.List.{list_any, filter}
use Rattle.std.proofs.lemmas.Bool.{false≢true}
use Rattle.std.proofs.lemmas.Bool.Decides.{Decides-eqb}
use Rattle.std.proofs.lemmas.Grind.{common_steps}
use Rattle.std.proofs.lemmas.List.Folds.{list_any-append}
use Rattle.std.proofs.lemmas.Map.Keys.{any_passes_from_place}
use Rattle.std.proofs.lemmas.Map.Views.{any-filter_same}
use Rattle.pur_settings.specs.Reading.{Reading, reading_map}
use Rattle.pur_settings.specs.Private.Sets.{is_held, held}
use Rattle.pur_settings.specs.Sets.{same, is_in, each_once}

is_itself : {A : Type 0} (rank : A → ℕ) (y : A) → same rank y y ≡ true
is_itself rank y = (Decides-eqb (rank y) (rank y)).1 refl

and_true : (b : Bool) → (b && true) ≡ b
and_true true = refl
and_true false = refl

or_left : (a b : Bool) → a ≡ true → (a || b) ≡ true
or_left true b h = refl
or_left false b h = absurd (false≢true h)

or_right : (a b : Bool) → b ≡ true → (a || b) ≡ true
or_right true b h = refl
or_right false b h = h

or_swap : (a b c : Bool) → ((a || b) || c) ≡ (b || (a || c))
or_swap true true c = refl
or_swap true false c = refl
or_swap false b c = refl

-- one of a list is in the selection by a test of ranks where it passes the test
any-selected : {A : Type 0} (rank : A → ℕ) (all : List A) (g : ℕ → Bool) (y : A) → is_in rank all y ≡ true → is_in rank (filter (λ k. g (rank k)) all) y ≡ g (rank y)
any-selected rank all g y among =
    any-filter_same (same rank y) (λ k. g (rank k)) (g (rank y)) (λ k tested. ap g (sym ((Decides-eqb (rank y) (rank k)).0 tested))) all ∙
    (rw among (and_true (g (rank y))))

-- two tests that agree on the members of a list select the same
agree : {A : Type 0} (rank : A → ℕ) (p q : A → Bool) (xs : List A) → ((x : A) → is_in rank xs x ≡ true → p x ≡ q x) → filter p xs ≡ filter q xs
agree rank p q [] same = refl
agree rank p q (x ∷ xs) alike =
    rw (alike x (or_left (same rank x x) (is_in rank xs x) (is_itself rank x)), agree rank p q xs (λ y among. alike y (or_right (same rank y x) (is_in rank xs y) among))) refl

none-selected : {A : Type 0} (p : A → Bool) (xs : List A) → ((x : A) → p x ≡ false) → filter p xs ≡ []
none-selected p [] fails = refl
none-selected p (x ∷ xs) fails = rw (fails x) (none-selected p xs fails)

-- the set of no members is empty
pub none : {A : Type 0} (rank : A → ℕ) (all : List A) → each_once rank all [] ≡ []
unfolding each_once
none rank all = none-selected (is_in rank []) all (λ x. refl)

unset : (n i : ℕ) → slice_index_or (replicate n false) i false ≡ false
unset zero i = refl
unset (suc n) zero = refl
unset (suc n) (suc i) = unset n i

-- so is what a table holds that has no place set
pub held-none : {A : Type 0} (rank : A → ℕ) (all : List A) (n : ℕ) → held rank all (replicate n false) ≡ []
unfolding held
held-none rank all n = none-selected (is_held rank (replicate n false)) all (λ x. unset n (rank x))

-- a table holds what its place says
pub held-test : {A : Type 0} (rank : A → ℕ) (all : List A) (table : List Bool) (e : A) → slice_get all (rank e) ≡ Some e → is_in rank (held rank all table) e ≡ is_held rank table e
unfolding held
held-test rank all table e member =
    any-selected rank all (λ r. slice_index_or table r false) e (any_passes_from_place (same rank e) all (rank e) e member (is_itself rank e))

-- a table with one more place set
set-test : (table : List Bool) (i j : ℕ) → j < length table → slice_index_or (slice_set table j true) i false ≡ (nat_eq i j || slice_index_or table i false)
set-test table i j within = grind (arith, common_steps)

-- it holds one more
pub held-with : {A : Type 0} (rank : A → ℕ) (all : List A) (table : List Bool) (e : A) → rank e < length table
    → held rank all (slice_set table (rank e) true) ≡ each_once rank all (e ∷ held rank all table)
unfolding each_once held
held-with rank all table e within =
    agree rank (is_held rank (slice_set table (rank e) true)) (is_in rank (e ∷ filter (is_held rank table) all)) all
    (λ x among. set-test table (rank x) (rank e) within ∙ ap (λ b. same rank x e || b) (sym (any-selected rank all (λ r. slice_index_or table r false) x among)))

-- a set with one more and others is the set with the one and the others
pub with-more : {A : Type 0} (rank : A → ℕ) (all : List A) (e : A) (set more : List A)
    → each_once rank all (each_once rank all (e ∷ set) ++ more) ≡ each_once rank all (set ++ e ∷ more)
unfolding each_once
with-more rank all e set more =
    agree rank (is_in rank (filter (is_in rank (e ∷ set)) all ++ more)) (is_in rank (set ++ e ∷ more)) all
    (λ x among.
    list_any-append (same rank x) (filter (is_in rank (e ∷ set)) all) more
    ∙ ap (λ b. b || is_in rank more x) (any-selected rank all (λ r. list_any (λ y. nat_eq r (rank y)) (e ∷ set)) x among)
    ∙ or_swap (same rank x e) (is_in rank set x) (is_in rank more x)
    ∙ sym (list_any-append (same rank x) set (e ∷ more)))

-- what was read is put behind a set; past an item the set has what that names
pub one-more : {A : Type 0} (order : List A → List A) (e : A) (set grown : List A) (rest : Reading (List A))
    → ((more : List A) → order (grown ++ more) ≡ order (set ++ e ∷ more))
    → reading_map (λ more. order (grown ++ more)) rest ≡ reading_map (λ more. order (set ++ more)) (reading_map (λ values. e ∷ values) rest)
one-more order e set grown (Ok more) grows = ap Ok (grows more)
one-more order e set grown (Err fault) grows = refl

-- a set in order stays so
pub twice : {A : Type 0} (rank : A → ℕ) (all xs : List A) → each_once rank all (each_once rank all xs) ≡ each_once rank all xs
unfolding each_once
twice rank all xs =
    agree rank (is_in rank (filter (is_in rank xs) all)) (is_in rank xs) all (λ x among. any-selected rank all (λ r. list_any (λ y. nat_eq r (rank y)) xs) x among)
