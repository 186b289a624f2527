-- Whether a word is one of a way, found by taking the longest run for each step.
use Rattle.std.proofs.Common.{◌≡◌, ◌≤◌, ℕ, List, [], ◌∷◌, ◌++◌, refl, subst, Bool, true, false, ◌||◌, length, drop, nat_le}
use Rattle.std.specs.List.{list_all, list_any}
use Rattle.std.proofs.lemmas.List.{take-append-drop}
use Rattle.std.proofs.Math.Seq.{drop-append_seam}
use Rattle.std.proofs.lemmas.Bool.{and_from, and_parts, le-leb, leb-true, not-true, or_left, or_right}
use Rattle.pur_modules.specs.declared.kinds.Child.{Child}
use Rattle.pur_modules.specs.Expressions.{Step}
use Rattle.pur_models.specs.Languages.{IsInLanguage, IsInWay, first_way, has_disjoint_steps, has_letter, later_way, letters_in, no_step, step_first}
use Rattle.pur_models.specs.Deciding.{longest_run, is_cut}
use Rattle.pur_models.proofs.RunLemmas.{IsRun-longest, begins_elsewhere, letters_of_way, longest_run-run}

-- a word that is cut up is one of the way
pub IsInWay-cut : (steps : List Step) (word : List Child) → is_cut steps word ≡ true → IsInWay steps word
IsInWay-cut [] [] h = no_step
IsInWay-cut [] (c ∷ word) h = absurd (cc)
IsInWay-cut (step ∷ steps) word h =
    let n : ℕ = longest_run step word in
    let enough : step.least ≤ n = leb-true step.least n (and_parts (nat_le step.least n) (is_cut steps (drop n word)) h).0 in
    let more : IsInWay steps (drop n word) =
    IsInWay-cut steps (drop n word) (and_parts (nat_le step.least n) (is_cut steps (drop n word)) h).1 in
    let P : List Child → Type 0 = λ w. IsInWay (step ∷ steps) w in
    subst P (take-append-drop n word) (step_first (IsRun-longest step word enough) more)

-- with disjoint steps a word of the way is cut up
pub cut-IsInWay : {steps : List Step} {word : List Child} → IsInWay steps word → has_disjoint_steps steps ≡ true
    → is_cut steps word ≡ true
cut-IsInWay no_step h = refl
cut-IsInWay (step_first {step} {steps} {run} {rest} r more) h =
    let none : list_any (has_letter (letters_in steps)) step.letters ≡ false =
    not-true _ (and_parts _ (has_disjoint_steps steps) h).0 in
    let size : longest_run step (run ++ rest) ≡ length run =
    longest_run-run step run rest r (begins_elsewhere step.letters (letters_in steps) rest none (letters_of_way more)) in
    let behind : is_cut steps rest ≡ true = cut-IsInWay more (and_parts _ (has_disjoint_steps steps) h).1 in
    rw size (and_from _ _ (le-leb step.least (length run) r.least) (rw drop-append_seam behind))

-- the same for expressions
pub IsInLanguage-cut : (ways : List (List Step)) (word : List Child) → list_any (λ way. is_cut way word) ways ≡ true
    → IsInLanguage ways word
IsInLanguage-cut [] word h = absurd (cc)
IsInLanguage-cut (way ∷ ways) word h = go (is_cut way word) refl (IsInLanguage-cut ways word)
  where
    go : (b : Bool) → is_cut way word ≡ b → (list_any (λ way. is_cut way word) ways ≡ true → IsInLanguage ways word)
        → IsInLanguage (way ∷ ways) word
    go true here more = first_way (IsInWay-cut way word here)
    go false missing more =
        let there : (false || list_any (λ way. is_cut way word) ways) ≡ true = rw missing at h in
        later_way (more there)

pub cut-IsInLanguage : {ways : List (List Step)} {word : List Child} → IsInLanguage ways word
    → list_all has_disjoint_steps ways ≡ true → list_any (λ way. is_cut way word) ways ≡ true
cut-IsInLanguage (first_way {way} {ways} {word} w) h =
    or_left (is_cut way word) (list_any (λ way. is_cut way word) ways)
    (cut-IsInWay w (and_parts (has_disjoint_steps way) (list_all has_disjoint_steps ways) h).0)
cut-IsInLanguage (later_way {way} {ways} {word} w) h =
    or_right (is_cut way word) (list_any (λ way. is_cut way word) ways)
    (cut-IsInLanguage w (and_parts (has_disjoint_steps way) (list_all has_disjoint_steps ways) h).1)
