-- The longest run at the front of a word.
use Rattle.std.proofs.Common.{◌≡◌, ◌≤◌, List, [], ◌∷◌, ◌++◌, refl, ◌∙◌, Bool, true, false, length, take, arith}
use Rattle.std.specs.List.{list_any, prefix_len}
use Rattle.std.proofs.lemmas.List.{length-take-le}
use Rattle.std.proofs.lemmas.List.Folds.{list_all-append}
use Rattle.std.proofs.lemmas.List.Sums.{prefix_len-le-length}
use Rattle.std.proofs.lemmas.Bool.{and_from, and_parts}
use Rattle.pur_laws.proofs.Lists.{all-prefix}
use Rattle.pur_modules.specs.declared.kinds.Child.{Child}
use Rattle.pur_modules.specs.Expressions.{Step}
use Rattle.pur_models.specs.Languages.{IsInWay, IsRun, all_among, has_letter, letters_in, no_step, step_first}
use Rattle.pur_models.specs.Deciding.{longest_run}
use Rattle.pur_models.proofs.LetterLemmas.{all_among-left, all_among-right, apart}

-- each letter of a word of a way is a letter of the way
pub letters_of_way : {steps : List Step} {word : List Child} → IsInWay steps word → all_among (letters_in steps) word ≡ true
letters_of_way no_step = refl
letters_of_way (step_first {step} {steps} {run} {rest} r more) =
    list_all-append (has_letter (letters_in (step ∷ steps))) run rest
    ∙ and_from _ _ (all_among-left step.letters (letters_in steps) run r.letters) (all_among-right step.letters (letters_in steps) rest (letters_of_way more))

-- whether the word begins with one of the letters
abbrev pub begins_with : List Child → List Child → Bool
begins_with letters [] = false
begins_with letters (c ∷ word) = has_letter letters c

-- a word of other letters begins with none of these
pub begins_elsewhere : (letters others word : List Child) → list_any (has_letter others) letters ≡ false
    → all_among others word ≡ true → begins_with letters word ≡ false
begins_elsewhere letters others [] none h = refl
begins_elsewhere letters others (c ∷ word) none h = go (has_letter letters c) refl
  where
    go : (b : Bool) → has_letter letters c ≡ b → has_letter letters c ≡ false
    go true here =
        let absent : has_letter others c ≡ false = apart letters others c none here in
        let yes : has_letter others c ≡ true = (and_parts (has_letter others c) (all_among others word) h).0 in
        absurd (cc)
    go false missing = missing

-- a run is the longest, where no letter of it follows
pub prefix_len-run : (letters run rest : List Child) → all_among letters run ≡ true → begins_with letters rest ≡ false
    → prefix_len (has_letter letters) (run ++ rest) ≡ length run
prefix_len-run letters [] [] h missing = refl
prefix_len-run letters [] (c ∷ rest) h missing = rw missing refl
prefix_len-run letters (d ∷ run) rest h missing =
    let first : has_letter letters d ≡ true = (and_parts (has_letter letters d) (all_among letters run) h).0 in
    let more = prefix_len-run letters run rest (and_parts (has_letter letters d) (all_among letters run) h).1 missing in
    rw first (omega (arith, more))

prefix_len-one : (letters run rest : List Child) → length run ≤ 1 → all_among letters run ≡ true
    → begins_with letters rest ≡ false → prefix_len (has_letter letters) (take 1 (run ++ rest)) ≡ length run
prefix_len-one letters [] [] short h missing = refl
prefix_len-one letters [] (c ∷ rest) short h missing = rw missing refl
prefix_len-one letters (d ∷ []) rest short h missing = rw (and_parts (has_letter letters d) true h).0 refl
prefix_len-one letters (d ∷ e ∷ run) rest short h missing = absurd (omega arith)

pub longest_run-run : (step : Step) (run rest : List Child) → IsRun step run → begins_with step.letters rest ≡ false
    → longest_run step (run ++ rest) ≡ length run
longest_run-run step run rest r missing = go step.many refl
  where
    go : (b : Bool) → step.many ≡ b → longest_run step (run ++ rest) ≡ length run
    go true many = rw many (prefix_len-run step.letters run rest r.letters missing)
    go false one = rw one (prefix_len-one step.letters run rest (r.most one) r.letters missing)

-- what the longest run takes are letters of the step
first_passes : (letters word : List Child) → all_among letters (take (prefix_len (has_letter letters) (take 1 word)) word) ≡ true
first_passes letters [] = refl
first_passes letters (c ∷ word) = go (has_letter letters c) refl
  where
    go : (b : Bool) → has_letter letters c ≡ b
        → all_among letters (take (prefix_len (has_letter letters) (take 1 (c ∷ word))) (c ∷ word)) ≡ true
    go true here =
        let size : prefix_len (has_letter letters) (take 1 (c ∷ word)) ≡ 1 = rw here refl in
        rw size (and_from _ _ here refl)
    go false missing = rw missing refl

first_within : (letters word : List Child) → (prefix_len (has_letter letters) (take 1 word) ≤ length word) × (prefix_len (has_letter letters) (take 1 word) ≤ 1)
first_within letters [] = (omega arith, omega arith)
first_within letters (c ∷ word) = go (has_letter letters c) refl
  where
    go : (b : Bool) → has_letter letters c ≡ b
        → (prefix_len (has_letter letters) (take 1 (c ∷ word)) ≤ length (c ∷ word)) × (prefix_len (has_letter letters) (take 1 (c ∷ word)) ≤ 1)
    go true here = rw here (omega arith, omega arith)
    go false missing = rw missing (omega arith, omega arith)

pub longest_run-passes : (step : Step) (word : List Child) → all_among step.letters (take (longest_run step word) word) ≡ true
longest_run-passes step word = go step.many refl
  where
    go : (b : Bool) → step.many ≡ b → all_among step.letters (take (longest_run step word) word) ≡ true
    go true many = rw many (all-prefix (has_letter step.letters) word)
    go false one = rw one (first_passes step.letters word)

pub longest_run-within : (step : Step) (word : List Child) → longest_run step word ≤ length word
longest_run-within step word = go step.many refl
  where
    go : (b : Bool) → step.many ≡ b → longest_run step word ≤ length word
    go true many = rw many (prefix_len-le-length (has_letter step.letters) word)
    go false one = rw one (first_within step.letters word).0

longest_run-most : (step : Step) (word : List Child) → step.many ≡ false → longest_run step word ≤ 1
longest_run-most step word one = rw one (first_within step.letters word).1

-- the longest run is a run, where it is no shorter than the step asks for
pub IsRun-longest : (step : Step) (word : List Child) → step.least ≤ longest_run step word
    → IsRun step (take (longest_run step word) word)
IsRun-longest step word enough =
    let size : length (take (longest_run step word) word) ≡ longest_run step word =
    length-take-le (longest_run step word) word (longest_run-within step word) in
    record {
      letters = longest_run-passes step word;
      least = rw size enough;
      most = λ one. rw size (longest_run-most step word one);
    }
