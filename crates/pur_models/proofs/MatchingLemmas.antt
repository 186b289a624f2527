-- The steps of matching.
use Rattle.std.proofs.Common.{◌≡◌, ◌≤◌, ◌<◌, ℕ, zero, suc, ◌+◌, ◌-◌, List, [], ◌∷◌, refl, ap, sym, ◌∙◌, subst, true, false, length, map, drop, get_or, nat_eq, nat_le, arith}
use Rattle.std.specs.List.{list_all}
use Rattle.std.specs.declared.vec.Vec.{Vec}
use Rattle.std.specs.declared.alloc.Global.{Global}
use Rattle.std.proofs.lemmas.Bool.Decides.{nat_tests}
use Rattle.std.proofs.lemmas.List.{at_drop_all, drop_more, length-drop}
use Rattle.std.proofs.lemmas.Bool.{and_parts}
use Rattle.pur_modules.specs.declared.kinds.Child.{Child}
use Rattle.pur_modules.specs.Expressions as plain
use Rattle.pur_models.specs.declared.expressions.Step.{Step}
use Rattle.pur_models.specs.Images.{step_of, way_of}
use Rattle.pur_models.specs.Languages.{IsInLanguage, IsInWay, first_way, has_disjoint_steps, later_way}
use Rattle.pur_models.specs.Deciding.{longest_run, is_cut}

-- a step whose longest run is too short ends the cutting
pub cut_stops : (way : List Step) (i : ℕ) (step : Step) (word : List Child) → i < length way → step ≡ get_or way i step
    → longest_run (step_of step) word < step.least → is_cut (map step_of (drop i way)) word ≡ false
cut_stops way i step word lt is short =
    let few : nat_le step.least (longest_run (step_of step) word) ≡ false = grind (arith, nat_tests) in
    rw (drop_more way i step lt, ← is, few) refl

-- with no step left the word is cut up where nothing of it is left
pub cut_ends : (way : List Step) (i at : ℕ) (word : List Child) → length way ≤ i → at ≤ length word
    → is_cut (map step_of (drop i way)) (drop at word) ≡ nat_eq at (length word)
cut_ends way i at word over within =
    at_drop_all (λ steps. is_cut (map step_of steps) (drop at word)) way i over ∙ go (drop at word) (length-drop at word)
  where
    go : (rest : List Child) → length rest ≡ length word - at → is_cut [] rest ≡ nat_eq at (length word)
    go [] size = ended at (length word) within size
      where
        ended : (m n : ℕ) → m ≤ n → 0 ≡ n - m → true ≡ nat_eq m n
        ended m n h e = grind (arith, nat_tests)
    go (c ∷ rest) size = left at (length word) (length rest) within size
      where
        left : (m n k : ℕ) → m ≤ n → suc k ≡ n - m → false ≡ nat_eq m n
        left m n k h e = grind (arith, nat_tests)

pub disjoint_at : (ways : List (Vec Step Global)) (i : ℕ) (way : Vec Step Global) → i < length ways → way ≡ get_or ways i way
    → list_all has_disjoint_steps (map way_of ways) ≡ true → has_disjoint_steps (way_of way) ≡ true
disjoint_at [] i way lt is all = absurd (omega arith)
disjoint_at (first ∷ ways) zero way lt is all =
    ap (λ w. has_disjoint_steps (way_of w)) is ∙ (and_parts _ (list_all has_disjoint_steps (map way_of ways)) all).0
disjoint_at (first ∷ ways) (suc i) way lt is all =
    disjoint_at ways i way (omega arith) is (and_parts (has_disjoint_steps (way_of first)) _ all).1

-- a word of one of the ways is a word of the expression
pub IsInLanguage-at : (ways : List (Vec Step Global)) (i : ℕ) (way : Vec Step Global) (word : List Child)
    → i < length ways → way ≡ get_or ways i way → IsInWay (way_of way) word → IsInLanguage (map way_of ways) word
IsInLanguage-at [] i way word lt is w = absurd (omega arith)
IsInLanguage-at (first ∷ ways) zero way word lt is w =
    let P : Vec Step Global → Type 0 = λ v. IsInWay (way_of v) word in
    first_way (subst P is w)
IsInLanguage-at (first ∷ ways) (suc i) way word lt is w = later_way (IsInLanguage-at ways i way word (omega arith) is w)

-- a word that is none of the first way is one of a later way
pub later : {way : List plain.Step} {ways : List (List plain.Step)} {word : List Child} → IsInLanguage (way ∷ ways) word
    → (IsInWay way word → ⊥) → IsInLanguage ways word
later (first_way w) none = absurd (none w)
later (later_way w) none = w

pub later_at : (ways : List (Vec Step Global)) (i : ℕ) (way : Vec Step Global) (word : List Child)
    → i < length ways → way ≡ get_or ways i way → (IsInWay (way_of way) word → ⊥)
    → IsInLanguage (map way_of (drop i ways)) word → IsInLanguage (map way_of (drop (i + 1) ways)) word
later_at ways i way word lt is none w =
    let P : List (Vec Step Global) → Type 0 = λ vs. IsInLanguage (map way_of vs) word in
    let v : IsInLanguage (way_of (get_or ways i way) ∷ map way_of (drop (i + 1) ways)) word = subst P (drop_more ways i way lt) w in
    let Q : Vec Step Global → Type 0 = λ u. IsInWay (way_of u) word in
    later v (λ x. none (subst Q (sym is) x))

-- no way has no word
pub no_way : (ways : List (Vec Step Global)) (i : ℕ) (word : List Child) → length ways ≤ i
    → IsInLanguage (map way_of (drop i ways)) word → ⊥
no_way ways i word over w =
    let P : List (Vec Step Global) → Type 0 = λ vs. IsInLanguage (map way_of vs) word in
    let v : IsInLanguage [] word = subst P (at_drop_all (λ vs. vs) ways i over) w in
    elim v [ ]
