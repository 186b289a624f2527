-- Each letter of an expression stands in one of its words.
use Rattle.std.proofs.Common.{◌≡◌, ◌≤◌, List, [], ◌∷◌, ◌++◌, refl, ap, sym, ◌∙◌, Bool, true, false, ◌&&◌, ◌||◌, nat_le, arith}
use Rattle.std.specs.List.{list_all}
use Rattle.std.proofs.lemmas.List.Folds.{list_any-append}
use Rattle.std.proofs.lemmas.Bool.{and_from, and_parts, leb-true, or_left}
use Rattle.pur_modules.proofs.KindLaws.{each_kind}
use Rattle.pur_modules.specs.declared.kinds.Child.{Child}
use Rattle.pur_modules.specs.declared.kinds.Content.{Content}
use Rattle.pur_modules.specs.declared.kinds.Doctype.{Doctype}
use Rattle.pur_modules.specs.Expressions.{Step, expression_of, is_letter, letters_of}
use Rattle.pur_models.specs.Languages.{IsInLanguage, IsInWay, IsRun, first_way, has_letter, later_way, letters_in, no_step, same_child, step_first}
use Rattle.pur_models.specs.Laws.{StandsInAWord}
use Rattle.pur_models.proofs.LetterLemmas.{has_letter-right, same_child-refl}
use Rattle.pur_models.proofs.TableLemmas.{is_letter-has_letter}

abbrev pub has_some : List Child → Bool
has_some [] = false
has_some (c ∷ letters) = true

-- whether a run of no letter or of one letter serves the step
abbrev pub is_fillable : Step → Bool
is_fillable step = nat_le step.least 0 || (nat_le step.least 1 && has_some step.letters)

fillable_by_one : (step : Step) → is_fillable step ≡ true → step.least ≤ 1
fillable_by_one step h = go (nat_le step.least 0) refl
  where
    go : (b : Bool) → nat_le step.least 0 ≡ b → step.least ≤ 1
    go true none = let few : step.least ≤ 0 = leb-true step.least 0 none in omega arith
    go false some =
        let left : (false || (nat_le step.least 1 && has_some step.letters)) ≡ true = rw some at h in
        leb-true step.least 1 (and_parts (nat_le step.least 1) (has_some step.letters) left).0

one_letter : (step : Step) (c : Child) → has_letter step.letters c ≡ true → step.least ≤ 1 → IsRun step (c ∷ [])
one_letter step c own few = record { letters = and_from _ _ own refl; least = omega arith; most = λ one. omega arith }

record SomeRun (step : Step) : Type 0 where
  run : List Child
  is_run : IsRun step run

some_run : (step : Step) → is_fillable step ≡ true → SomeRun step
some_run step h = go (nat_le step.least 0) refl
  where
    pick : (letters : List Child) → step.letters ≡ letters → has_some letters ≡ true → SomeRun step
    pick [] is some = absurd (cc)
    pick (c ∷ letters) is some =
        let own : has_letter step.letters c ≡ true =
        ap (λ ls. has_letter ls c) is ∙ or_left (same_child c c) (has_letter letters c) (same_child-refl c) in
        record { run = c ∷ []; is_run = one_letter step c own (fillable_by_one step h) }

    go : (b : Bool) → nat_le step.least 0 ≡ b → SomeRun step
    go true none =
        let few : step.least ≤ 0 = leb-true step.least 0 none in
        record { run = []; is_run = record { letters = refl; least = omega arith; most = λ one. omega arith } }
    go false some =
        let left : (false || (nat_le step.least 1 && has_some step.letters)) ≡ true = rw some at h in
        pick step.letters refl (and_parts (nat_le step.least 1) (has_some step.letters) left).1

record SomeWord (steps : List Step) : Type 0 where
  word : List Child
  in_way : IsInWay steps word

some_word : (steps : List Step) → list_all is_fillable steps ≡ true → SomeWord steps
some_word [] h = record { word = []; in_way = no_step }
some_word (step ∷ steps) h =
    let r = some_run step (and_parts (is_fillable step) (list_all is_fillable steps) h).0 in
    let more = some_word steps (and_parts (is_fillable step) (list_all is_fillable steps) h).1 in
    record { word = r.run ++ more.word; in_way = step_first r.is_run more.in_way }

record WordWith (steps : List Step) (c : Child) : Type 0 where
  word : List Child
  in_way : IsInWay steps word
  has : has_letter word c ≡ true

word_with : (steps : List Step) (c : Child) → list_all is_fillable steps ≡ true → has_letter (letters_in steps) c ≡ true → WordWith steps c
word_with [] c h here = absurd (cc)
word_with (step ∷ steps) c h here =
    go (has_letter step.letters c) refl (word_with steps c (and_parts (is_fillable step) (list_all is_fillable steps) h).1)
  where
    go : (b : Bool) → has_letter step.letters c ≡ b → (has_letter (letters_in steps) c ≡ true → WordWith steps c)
        → WordWith (step ∷ steps) c
    go true own more =
        let rest = some_word steps (and_parts (is_fillable step) (list_all is_fillable steps) h).1 in
        let few : step.least ≤ 1 = fillable_by_one step (and_parts (is_fillable step) (list_all is_fillable steps) h).0 in
        record {
          word = (c ∷ []) ++ rest.word;
          in_way = step_first (one_letter step c own few) rest.in_way;
          has = or_left (same_child c c) (has_letter rest.word c) (same_child-refl c);
        }
    go false other more =
        let r = some_run step (and_parts (is_fillable step) (list_all is_fillable steps) h).0 in
        let either : (has_letter step.letters c || has_letter (letters_in steps) c) ≡ true =
        sym (list_any-append (same_child c) step.letters (letters_in steps)) ∙ here in
        let behind : (false || has_letter (letters_in steps) c) ≡ true = rw other at either in
        let rest = more behind in
        record {
          word = r.run ++ rest.word;
          in_way = step_first r.is_run rest.in_way;
          has = has_letter-right r.run rest.word c rest.has;
        }

record WordOfWith (ways : List (List Step)) (c : Child) : Type 0 where
  word : List Child
  in_language : IsInLanguage ways word
  has : has_letter word c ≡ true

word_of_with : (ways : List (List Step)) (c : Child) → list_all (λ way. list_all is_fillable way) ways ≡ true
    → has_letter (letters_of ways) c ≡ true → WordOfWith ways c
word_of_with [] c h here = absurd (cc)
word_of_with (way ∷ ways) c h here =
    go (has_letter (letters_in way) c) refl
    (word_of_with ways c (and_parts (list_all is_fillable way) (list_all (λ way. list_all is_fillable way) ways) h).1)
  where
    go : (b : Bool) → has_letter (letters_in way) c ≡ b → (has_letter (letters_of ways) c ≡ true → WordOfWith ways c)
        → WordOfWith (way ∷ ways) c
    go true own more =
        let w = word_with way c (and_parts (list_all is_fillable way) (list_all (λ way. list_all is_fillable way) ways) h).0 own in
        record { word = w.word; in_language = first_way w.in_way; has = w.has }
    go false other more =
        let either : (has_letter (letters_in way) c || has_letter (letters_of ways) c) ≡ true =
        sym (list_any-append (same_child c) (letters_in way) (letters_of ways)) ∙ here in
        let behind : (false || has_letter (letters_of ways) c) ≡ true = rw other at either in
        let w = more behind in
        record { word = w.word; in_language = later_way w.in_language; has = w.has }

expression_is_fillable : (doctype : Doctype) (content : Content)
    → list_all (λ way. list_all is_fillable way) (expression_of doctype content) ≡ true
expression_is_fillable doctype content = each_kind (λ d k. list_all (λ way. list_all is_fillable way) (expression_of d k)) refl doctype content

pub allowed_letters_stand : (doctype : Doctype) (content : Content) (letter : Child) → is_letter doctype content letter ≡ true
    → StandsInAWord doctype content letter
allowed_letters_stand doctype content letter h =
    let here : has_letter (letters_of (expression_of doctype content)) letter ≡ true =
    sym (is_letter-has_letter doctype content letter) ∙ h in
    let w = word_of_with (expression_of doctype content) letter (expression_is_fillable doctype content) here in
    record { word = w.word; in_language = w.in_language; has = w.has }
