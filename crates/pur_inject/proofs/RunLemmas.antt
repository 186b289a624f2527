-- Signs with something in the place of each run.
use Rattle.std.proofs.Common.{◌≡◌, ℕ, ◌+◌, Bool, true, false, List, [], ◌∷◌, ◌++◌, map, refl, sym, ap, ◌∙◌, arith, append_assoc, append-nil}
use Rattle.std.specs.Prelude.{if◌then◌else◌, ◌&&◌, not, sum_by}
use Rattle.std.specs.List.{list_all}
use Rattle.std.proofs.lemmas.Bool.{and_parts, and_from, not-true}
use Rattle.std.proofs.lemmas.List.{map-append}
use Rattle.std.proofs.lemmas.List.Sums.{sum_by-cons}
use Rattle.pur_laws.proofs.Lists.{all-append, all-parts}
use Rattle.pur_inject.specs.Runs.{front_run, later_runs, runs_of, behind_run, with_runs}
use Rattle.pur_inject.specs.Signs.{Sign}

-- what holds of each sign
abbrev pub Each : (Sign → Type 0) → List Sign → Type 0
Each Q [] = Unit {0}
Each Q (x ∷ l) = Q x × Each Q l

pub each-append : (Q : Sign → Type 0) (l m : List Sign) → Each Q l → Each Q m → Each Q (l ++ m)
each-append Q [] m a b = b
each-append Q (x ∷ l) m a b = (a.0, each-append Q l m a.1 b)

module _ (test : Sign → Bool) where
  pub front-all : (l : List Sign) → list_all test (front_run test l) ≡ true
  front-all [] = refl
  front-all (x ∷ l) = go (test x) refl (front-all l) where
    go : (b : Bool) → test x ≡ b → list_all test (front_run test l) ≡ true → list_all test (if b then x ∷ front_run test l else []) ≡ true
    go true is rest = and_from _ _ is rest
    go false is rest = refl

  pub each-front : (Q : Sign → Type 0) (l : List Sign) → Each Q l → Each Q (front_run test l)
  each-front Q [] a = tt
  each-front Q (x ∷ l) a = go (test x) (each-front Q l a.1) where
    go : (b : Bool) → Each Q (front_run test l) → Each Q (if b then x ∷ front_run test l else [])
    go true rest = (a.0, rest)
    go false rest = tt

  -- signs begin with none that passes
  abbrev pub Stops : List Sign → Type 0
  Stops [] = Unit {0}
  Stops (x ∷ l) = test x ≡ false

  pub front-stops : (m : List Sign) → Stops m → front_run test m ≡ []
  front-stops [] stops = refl
  front-stops (x ∷ m) stops = rw stops refl

  pub front-prefix : (l m : List Sign) → list_all test l ≡ true → front_run test (l ++ m) ≡ l ++ front_run test m
  front-prefix [] m all = refl
  front-prefix (x ∷ l) m all =
      let both = and_parts (test x) (list_all test l) all in
      rw both.0 (ap (λ r. x ∷ r) (front-prefix l m both.1))

  front-run : (l m : List Sign) → list_all test l ≡ true → Stops m → front_run test (l ++ m) ≡ l
  front-run l m all stops = front-prefix l m all ∙ ap (λ r. l ++ r) (front-stops m stops) ∙ append-nil l

  -- in front of a sign that doesn't pass
  front-split : (l m : List Sign) (x : Sign) → test x ≡ false → front_run test (l ++ (x ∷ m)) ≡ front_run test l
  front-split [] m x isnt = rw isnt refl
  front-split (y ∷ l) m x isnt = ap (λ r. if test y then y ∷ r else []) (front-split l m x isnt)

  later-split : (l m : List Sign) (x : Sign) → test x ≡ false → later_runs test (l ++ (x ∷ m)) ≡ later_runs test l ++ runs_of test m
  later-split [] m x isnt = rw isnt refl
  later-split (y ∷ l) m x isnt = go (test y) (later-split l m x isnt) where
    go : (b : Bool) → later_runs test (l ++ (x ∷ m)) ≡ later_runs test l ++ runs_of test m
        → (if b then later_runs test (l ++ (x ∷ m)) else front_run test (l ++ (x ∷ m)) ∷ later_runs test (l ++ (x ∷ m)))
        ≡ (if b then later_runs test l else front_run test l ∷ later_runs test l) ++ runs_of test m
    go true rest = rest
    go false rest = ap (λ r. r ∷ later_runs test (l ++ (x ∷ m))) (front-split l m x isnt) ∙ ap (λ rs. front_run test l ∷ rs) rest

  runs-split : (l m : List Sign) (x : Sign) → test x ≡ false → runs_of test (l ++ (x ∷ m)) ≡ runs_of test l ++ runs_of test m
  runs-split l m x isnt =
      ap (λ r. r ∷ later_runs test (l ++ (x ∷ m))) (front-split l m x isnt) ∙ ap (λ rs. front_run test l ∷ rs) (later-split l m x isnt)

  pub runs-join : (l m : List Sign) → Stops m → runs_of test (l ++ m) ≡ runs_of test l ++ later_runs test m
  runs-join l [] stops = ap (runs_of test) (append-nil l) ∙ sym (append-nil (runs_of test l))
  runs-join l (x ∷ m) stops =
      runs-split l m x stops ∙ ap (λ (b : Bool). runs_of test l ++ (if b then later_runs test m else runs_of test m)) (sym stops)

  -- a test of runs, over all of them
  module _ (passes : List Sign → Bool) (empty : passes [] ≡ true) where
    abbrev pub all_pass : List Sign → Bool
    all_pass l = list_all passes (runs_of test l)

    pub pass-split : (l m : List Sign) (x : Sign) → test x ≡ false → all_pass l ≡ true → all_pass m ≡ true → all_pass (l ++ (x ∷ m)) ≡ true
    pass-split l m x isnt a b = ap (list_all passes) (runs-split l m x isnt) ∙ all-append passes (runs_of test l) (runs_of test m) a b

    pub pass-parts : (l m : List Sign) (x : Sign) → test x ≡ false → all_pass (l ++ (x ∷ m)) ≡ true → (all_pass l ≡ true) × (all_pass m ≡ true)
    pass-parts l m x isnt a = all-parts passes (runs_of test l) (runs_of test m) (ap (list_all passes) (sym (runs-split l m x isnt)) ∙ a)

    pub pass-run : (l : List Sign) → list_all test l ≡ true → passes l ≡ true → all_pass l ≡ true
    pass-run l all is = ap (λ r. passes r && list_all passes (later_runs test l)) (ap (front_run test) (sym (append-nil l)) ∙ front-run l [] all tt)
        ∙ and_from _ _ is (none l all)
      where
        none : (l : List Sign) → list_all test l ≡ true → list_all passes (later_runs test l) ≡ true
        none [] all = refl
        none (x ∷ l) all = let both = and_parts (test x) (list_all test l) all in rw both.0 (none l both.1)

  module _ (made : List Sign → List Sign) (empty : made [] ≡ []) where
    pub behind-split : (l m : List Sign) (x : Sign) → test x ≡ false
        → behind_run test made (l ++ (x ∷ m)) ≡ behind_run test made l ++ (x ∷ with_runs test made m)
    behind-split [] m x isnt = rw isnt refl
    behind-split (y ∷ l) m x isnt = go (test y) (behind-split l m x isnt) where
      go : (b : Bool) → behind_run test made (l ++ (x ∷ m)) ≡ behind_run test made l ++ (x ∷ with_runs test made m)
          → (if b then behind_run test made (l ++ (x ∷ m)) else y ∷ (made (front_run test (l ++ (x ∷ m))) ++ behind_run test made (l ++ (x ∷ m))))
          ≡ (if b then behind_run test made l else y ∷ (made (front_run test l) ++ behind_run test made l)) ++ (x ∷ with_runs test made m)
      go true rest = rest
      go false rest = ap (λ t. y ∷ t) (
          ap (λ r. made r ++ behind_run test made (l ++ (x ∷ m))) (front-split l m x isnt)
          ∙ ap (λ t. made (front_run test l) ++ t) rest
          ∙ sym (append_assoc (made (front_run test l)) (behind_run test made l) (x ∷ with_runs test made m))
          )

    -- what stands in front of a sign that doesn't pass, and what stands behind it
    pub with-split : (l m : List Sign) (x : Sign) → test x ≡ false
        → with_runs test made (l ++ (x ∷ m)) ≡ with_runs test made l ++ (x ∷ with_runs test made m)
    with-split l m x isnt =
        ap (λ r. made r ++ behind_run test made (l ++ (x ∷ m))) (front-split l m x isnt)
        ∙ ap (λ t. made (front_run test l) ++ t) (behind-split l m x isnt)
        ∙ sym (append_assoc (made (front_run test l)) (behind_run test made l) (x ∷ with_runs test made m))

    -- a run in front of what doesn't go on with it
    pub behind-run : (l m : List Sign) → list_all test l ≡ true → behind_run test made (l ++ m) ≡ behind_run test made m
    behind-run [] m all = refl
    behind-run (x ∷ l) m all = let both = and_parts (test x) (list_all test l) all in rw both.0 (behind-run l m both.1)

    pub with-run : (l m : List Sign) → list_all test l ≡ true → Stops m → with_runs test made (l ++ m) ≡ made l ++ with_runs test made m
    with-run l m all stops =
        ap (λ r. made r ++ behind_run test made (l ++ m)) (front-run l m all stops)
        ∙ ap (λ t. made l ++ t) (behind-run l m all)
        ∙ ap (λ t. made l ++ (t ++ behind_run test made m)) (sym (ap made (front-stops m stops) ∙ empty))

    -- signs of which none passes, in front
    pub with-others : (l m : List Sign) → list_all (λ x. not (test x)) l ≡ true → with_runs test made (l ++ m) ≡ l ++ with_runs test made m
    with-others [] m all = refl
    with-others (x ∷ l) m all =
        let both = and_parts (not (test x)) (list_all (λ x. not (test x)) l) all in
        with-split [] (l ++ m) x (not-true (test x) both.0)
        ∙ ap (λ t. (t ++ []) ++ (x ∷ with_runs test made (l ++ m))) empty
        ∙ ap (λ t. x ∷ t) (with-others l m both.1)

    pub with-none : (l : List Sign) → list_all (λ x. not (test x)) l ≡ true → with_runs test made l ≡ l
    with-none l none =
        ap (with_runs test made) (sym (append-nil l)) ∙ with-others l [] none ∙ ap (λ t. l ++ (t ++ [])) empty ∙ append-nil l

    -- nothing changes where each run stays
    module _ (passes : List Sign → Bool) (stays : (run : List Sign) → passes run ≡ true → made run ≡ run) where
      behind-stays : (l : List Sign) → list_all passes (later_runs test l) ≡ true → front_run test l ++ behind_run test made l ≡ l
      behind-stays [] all = refl
      behind-stays (x ∷ l) all = go (test x) all (behind-stays l) where
        go : (b : Bool) → list_all passes (if b then later_runs test l else runs_of test l) ≡ true
            → (list_all passes (later_runs test l) ≡ true → front_run test l ++ behind_run test made l ≡ l)
            → (if b then x ∷ front_run test l else []) ++ (if b then behind_run test made l else x ∷ (made (front_run test l) ++ behind_run test made l)) ≡ x ∷ l
        go true all rest = ap (λ t. x ∷ t) (rest all)
        go false all rest =
            let both = and_parts (passes (front_run test l)) (list_all passes (later_runs test l)) all in
            ap (λ r. x ∷ (r ++ behind_run test made l)) (stays (front_run test l) both.0) ∙ ap (λ t. x ∷ t) (rest both.1)

      pub with-stays : (l : List Sign) → list_all passes (runs_of test l) ≡ true → with_runs test made l ≡ l
      with-stays l all =
          let both = and_parts (passes (front_run test l)) (list_all passes (later_runs test l)) all in
          ap (λ r. r ++ behind_run test made l) (stays (front_run test l) both.0) ∙ behind-stays l both.1

    -- all runs pass where those of what is made of a run do
    module _ (passes : List Sign → Bool) (empty_passes : passes [] ≡ true)
        (each : (run : List Sign) → list_all test run ≡ true → list_all passes (runs_of test (made run)) ≡ true) where
      behind-stops : (l : List Sign) → Stops (behind_run test made l)
      behind-stops [] = tt
      behind-stops (x ∷ l) = go (test x) refl (behind-stops l) where
        go : (b : Bool) → test x ≡ b → Stops (behind_run test made l) → Stops (if b then behind_run test made l else x ∷ (made (front_run test l) ++ behind_run test made l))
        go true is rest = rest
        go false is rest = is

      with-from : (l : List Sign) → list_all passes (later_runs test (behind_run test made l)) ≡ true → list_all passes (runs_of test (with_runs test made l)) ≡ true
      with-from l later =
          ap (list_all passes) (runs-join (made (front_run test l)) (behind_run test made l) (behind-stops l))
          ∙ all-append passes (runs_of test (made (front_run test l))) (later_runs test (behind_run test made l)) (each (front_run test l) (front-all l)) later

      later-left : (l : List Sign) → list_all passes (later_runs test (behind_run test made l)) ≡ true
      later-left [] = refl
      later-left (x ∷ l) = go (test x) refl (later-left l) where
        go : (b : Bool) → test x ≡ b → list_all passes (later_runs test (behind_run test made l)) ≡ true → list_all passes (later_runs test (if b then behind_run test made l else x ∷ with_runs test made l)) ≡ true
        go true is rest = rest
        go false is rest = rw is (with-from l rest)

      pub with-left : (l : List Sign) → list_all passes (runs_of test (with_runs test made l)) ≡ true
      with-left l = with-from l (later-left l)

    -- a measure that adds up
    module _ (size : List Sign → ℕ) (adds : (l m : List Sign) → size (l ++ m) ≡ size l + size m) (none : size [] ≡ 0) (lost : List Sign → ℕ)
        (each : (run : List Sign) → list_all test run ≡ true → size (made run) + lost run ≡ size run) where
      behind-size : (l : List Sign) → size (front_run test l) + size (behind_run test made l) + sum_by lost (later_runs test l) ≡ size l
      behind-size [] = omega (arith, none)
      behind-size (x ∷ l) = go (test x) (behind-size l) where
        go : (b : Bool) → size (front_run test l) + size (behind_run test made l) + sum_by lost (later_runs test l) ≡ size l
            → size (if b then x ∷ front_run test l else []) + size (if b then behind_run test made l else x ∷ with_runs test made l)
            + sum_by lost (if b then later_runs test l else runs_of test l) ≡ size (x ∷ l)
        go true rest = omega (arith, adds (x ∷ []) (front_run test l), adds (x ∷ []) l, rest)
        go false rest = omega (
          arith,
          none,
          adds (x ∷ []) (with_runs test made l),
          adds (made (front_run test l)) (behind_run test made l),
          adds (x ∷ []) l,
          sum_by-cons lost (front_run test l) (later_runs test l),
          each (front_run test l) (front-all l),
          rest,
        )

      pub with-size : (l : List Sign) → size (with_runs test made l) + sum_by lost (runs_of test l) ≡ size l
      with-size l = omega (
        arith,
        adds (made (front_run test l)) (behind_run test made l),
        sum_by-cons lost (front_run test l) (later_runs test l),
        each (front_run test l) (front-all l),
        behind-size l,
      )

    -- what holds of each sign
    module _ (Q : Sign → Type 0) (each : (run : List Sign) → list_all test run ≡ true → Each Q run → Each Q (made run)) where
      each-from : (l : List Sign) → Each Q l → Each Q (behind_run test made l) → Each Q (with_runs test made l)
      each-from l a = each-append Q (made (front_run test l)) (behind_run test made l) (each (front_run test l) (front-all l) (each-front Q l a))

      each-behind : (l : List Sign) → Each Q l → Each Q (behind_run test made l)
      each-behind [] a = tt
      each-behind (x ∷ l) a = go (test x) (each-behind l a.1) where
        go : (b : Bool) → Each Q (behind_run test made l) → Each Q (if b then behind_run test made l else x ∷ with_runs test made l)
        go true rest = rest
        go false rest = (a.0, each-from l a.1 rest)

      pub each-with : (l : List Sign) → Each Q l → Each Q (with_runs test made l)
      each-with l a = each-from l a (each-behind l a)

  -- signs that are changed one by one, which the test doesn't see
  module _ (g : Sign → Sign) (unseen : (x : Sign) → test (g x) ≡ test x) where
    pub front-map : (l : List Sign) → front_run test (map g l) ≡ map g (front_run test l)
    front-map [] = refl
    front-map (x ∷ l) = ap (λ (b : Bool). if b then g x ∷ front_run test (map g l) else []) (unseen x) ∙ go (test x) (front-map l) where
      go : (b : Bool) → front_run test (map g l) ≡ map g (front_run test l) → (if b then g x ∷ front_run test (map g l) else []) ≡ map g (if b then x ∷ front_run test l else [])
      go true rest = ap (λ r. g x ∷ r) rest
      go false rest = refl

    later-map : (l : List Sign) → later_runs test (map g l) ≡ map (map g) (later_runs test l)
    later-map [] = refl
    later-map (x ∷ l) = ap (λ (b : Bool). if b then later_runs test (map g l) else runs_of test (map g l)) (unseen x) ∙ go (test x) (later-map l) where
      go : (b : Bool) → later_runs test (map g l) ≡ map (map g) (later_runs test l) → (if b then later_runs test (map g l) else runs_of test (map g l)) ≡ map (map g) (if b then later_runs test l else runs_of test l)
      go true rest = rest
      go false rest = ap (λ r. r ∷ later_runs test (map g l)) (front-map l) ∙ ap (λ rs. map g (front_run test l) ∷ rs) rest

    pub runs-map : (l : List Sign) → runs_of test (map g l) ≡ map (map g) (runs_of test l)
    runs-map l = ap (λ r. r ∷ later_runs test (map g l)) (front-map l) ∙ ap (λ rs. map g (front_run test l) ∷ rs) (later-map l)

    pub pass-map : (passes : List Sign → Bool) → ((run : List Sign) → passes (map g run) ≡ passes run) → (l : List Sign) → list_all passes (runs_of test (map g l)) ≡ list_all passes (runs_of test l)
    pass-map passes same l = ap (list_all passes) (runs-map l) ∙ each (runs_of test l) where
      each : (runs : List (List Sign)) → list_all passes (map (map g) runs) ≡ list_all passes runs
      each [] = refl
      each (run ∷ runs) = ap (λ b. b && list_all passes (map (map g) runs)) (same run) ∙ ap (λ b. passes run && b) (each runs)

    module _ (made : List Sign → List Sign) (follows : (run : List Sign) → made (map g run) ≡ map g (made run)) where
      with-map-from : (l : List Sign) → behind_run test made (map g l) ≡ map g (behind_run test made l) → with_runs test made (map g l) ≡ map g (with_runs test made l)
      with-map-from l behind =
          ap (λ r. made r ++ behind_run test made (map g l)) (front-map l)
          ∙ ap (λ r. r ++ behind_run test made (map g l)) (follows (front_run test l))
          ∙ ap (λ t. map g (made (front_run test l)) ++ t) behind
          ∙ sym (map-append g (made (front_run test l)) (behind_run test made l))

      behind-map : (l : List Sign) → behind_run test made (map g l) ≡ map g (behind_run test made l)
      behind-map [] = refl
      behind-map (x ∷ l) = ap (λ (b : Bool). if b then behind_run test made (map g l) else g x ∷ with_runs test made (map g l)) (unseen x) ∙ go (test x) (behind-map l) where
        go : (b : Bool) → behind_run test made (map g l) ≡ map g (behind_run test made l) → (if b then behind_run test made (map g l) else g x ∷ with_runs test made (map g l)) ≡ map g (if b then behind_run test made l else x ∷ with_runs test made l)
        go true rest = rest
        go false rest = ap (λ t. g x ∷ t) (with-map-from l rest)

      pub with-map : (l : List Sign) → with_runs test made (map g l) ≡ map g (with_runs test made l)
      with-map l = with-map-from l (behind-map l)
