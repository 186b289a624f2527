-- What paragraphs keep.
use Rattle.std.proofs.Common.{◌≡◌, ℕ, ◌+◌, ◌≤◌, Bool, true, false, not, ◌&&◌, ◌||◌, List, [], ◌∷◌, refl, ap, ◌∙◌, arith}
use Rattle.std.specs.Prelude.{if◌then◌else◌, nat_le, sum_by, ◌==◌}
use Rattle.std.specs.List.{list_all}
use Rattle.std.proofs.lemmas.Bool.{and_parts}
use Rattle.std.proofs.lemmas.Bool.Decides.{nat_tests}
use Rattle.std.proofs.lemmas.List.Sums.{sum_by-cons}
use Rattle.pur_names.specs.declared.elements.Element.{Element}
use Rattle.pur_names.specs.declared.elements.Element.TheVariants.{P}
use Rattle.pur_modules.specs.declared.kinds.Doctype.{Doctype}
use Rattle.pur_modules.specs.Contents.{is_excluded, is_excluded_in}
use Rattle.pur_settings.specs.Rules.{Rules, permits_element}
use Rattle.pur_tree.specs.Nodes.{bare, Nodes, no_nodes, text_first, elem_first, is_joined, level_in}
use Rattle.pur_tree.specs.Places.{level_limit, fragment, inside}
use Rattle.pur_tree.specs.Properties.{Property, Holds, levels, soundness, free, permitted, pictures, allowed, distinct}
use Rattle.pur_tree.specs.Walks.{count_in_text}
use Rattle.pur_tree.proofs.HoldsLemmas.{levels-test, test-levels, soundness-test, test-soundness, allowed-test, test-allowed, distinct-test, test-distinct}
use Rattle.pur_attrlist.specs.Texts.{times}
use Rattle.pur_inject.specs.Laws.{Keeps}
use Rattle.pur_inject.specs.Paragraphs.{are_blank, in_paragraphs, is_flow, is_line_feed, is_line_feed_sign, is_paragraph, lost_in_paragraphs, lost_in_run, makes_paragraphs, marked_run, stands_in_paragraphs, with_blank_lines, with_paragraphs, wrapped_run}
use Rattle.pur_inject.specs.Runs.{front_run, later_runs, runs_of, with_runs}
use Rattle.pur_inject.specs.Signs.{Sign, letter, element, blank_line, signs_of, nodes_from, two_line_feeds}
use Rattle.pur_inject.proofs.RunLemmas.{Each, each-with, front-all, with-size}
use Rattle.pur_inject.proofs.SignLemmas.{JoinedInside, OfSign, TextProperty, allowed-text, count-adds, count-signs, from-joined, hold-signs, joined-signs, quiet, signs-hold, sound-text}

-- ---- what holds of each sign

module _ (d : Doctype) (Q : Sign → Type 0) (feeds : Q blank_line)
    (wraps : (run : List Sign) → list_all (stands_in_paragraphs d) run ≡ true → is_paragraph (nodes_from run) ≡ true → Each Q run → Q (element (bare P) (nodes_from run))) where
  marked-each : (run : List Sign) → list_all is_line_feed_sign run ≡ true → Each Q run → Each Q (marked_run run)
  marked-each [] all h = h
  marked-each (x ∷ []) all h = h
  marked-each (x ∷ y ∷ run) all h = (feeds, tt)

  wrapped-each : (run : List Sign) → list_all (stands_in_paragraphs d) run ≡ true → Each Q run → Each Q (wrapped_run run)
  wrapped-each run all h = go (is_paragraph (nodes_from run)) refl where
    go : (b : Bool) → is_paragraph (nodes_from run) ≡ b → Each Q (if b then element (bare P) (nodes_from run) ∷ [] else run)
    go true is = (wraps run all is h, tt)
    go false is = h

  pub each-in : (l : List Sign) → Each Q l → Each Q (with_runs (stands_in_paragraphs d) wrapped_run (with_blank_lines l))
  each-in l h =
      each-with (stands_in_paragraphs d) wrapped_run refl Q wrapped-each (with_blank_lines l) (each-with is_line_feed_sign marked_run refl Q marked-each l h)

-- what holds of texts, and of paragraphs, is kept
module _ (q : Property) (texts : TextProperty q) (w : q.Where) (feeds : q.text w two_line_feeds)
    (wraps : (n : Nodes) → is_paragraph n ≡ true → Holds q w n → q.elem w (bare P) × Holds q (q.inside w P) n) where
  Holds-in : (d : Doctype) (n : Nodes) → Holds q w n → Holds q w (in_paragraphs d n)
  Holds-in d n h =
      signs-hold q w (texts.joins w) (with_runs (stands_in_paragraphs d) wrapped_run (with_blank_lines (signs_of n)))
      (each-in d (OfSign q w) feeds (λ run all is h. wraps (nodes_from run) is (signs-hold q w (texts.joins w) run h)) (signs_of n) (hold-signs q w (texts.parts w) n h))

  pub kept : (rules : Rules) (n : Nodes) → Holds q w n → Holds q w (with_paragraphs rules n)
  kept rules n h = go (makes_paragraphs rules) where
    go : (b : Bool) → Holds q w (if b then in_paragraphs rules.doctype n else n)
    go true = Holds-in rules.doctype n h
    go false = h

levels-paragraph : (n : Nodes) → is_paragraph n ≡ true → Holds (levels level_limit) (inside fragment P) n
levels-paragraph n is = levels-test level_limit (inside fragment P) n (le-true (level_in (inside fragment P) n) level_limit (and_parts (not (are_blank n)) (nat_le (level_in (inside fragment P) n) level_limit) is).1)
  where
    le-true : (a b : ℕ) → nat_le a b ≡ true → a ≤ b
    le-true a b is = grind (arith, nat_tests)

same-free : (outer within : List Element) → ((e : Element) → is_excluded_in within e ≡ is_excluded_in outer e) → (n : Nodes) → Holds free outer n → Holds free within n
same-free outer within same no_nodes h = tt
same-free outer within same (text_first s n) h = (tt, same-free outer within same n h.1)
same-free outer within same (elem_first e kids n) h = (
  same e.name ∙ h.0,
  same-free (e.name ∷ outer) (e.name ∷ within) (λ d. ap (λ (b : Bool). is_excluded e.name d || b) (same d)) kids h.1,
  same-free outer within same n h.2,
)

module _ (rules : Rules) (n : Nodes) where
  on-permits : makes_paragraphs rules ≡ true → permits_element rules P ≡ true
  on-permits on = (and_parts (rules.auto_paragraph && is_flow rules.parent) (permits_element rules P) on).1

  pub joined-with_paragraphs : is_joined n ≡ true → is_joined (with_paragraphs rules n) ≡ true
  joined-with_paragraphs h = go (makes_paragraphs rules) where
    go : (b : Bool) → is_joined (if b then in_paragraphs rules.doctype n else n) ≡ true
    go true = from-joined (with_runs (stands_in_paragraphs rules.doctype) wrapped_run (with_blank_lines (signs_of n)))
        (each-in rules.doctype JoinedInside tt (λ run all is h. from-joined run h) (signs_of n) (joined-signs n h))
    go false = h

  permitted-kept : Holds (permitted (permits_element rules)) tt n → Holds (permitted (permits_element rules)) tt (with_paragraphs rules n)
  permitted-kept h = go (makes_paragraphs rules) refl where
    go : (b : Bool) → makes_paragraphs rules ≡ b → Holds (permitted (permits_element rules)) tt (if b then in_paragraphs rules.doctype n else n)
    go true on = Holds-in (permitted (permits_element rules)) (quiet (permitted (permits_element rules)) (λ w s. tt)) tt tt (λ n is h. (on-permits on, h)) rules.doctype n h
    go false on = h

  pub keeps-with_paragraphs : Keeps rules n (with_paragraphs rules n)
  keeps-with_paragraphs = record {
    forest = λ h. record {
      low = test-levels level_limit fragment (with_paragraphs rules n)
          (kept (levels level_limit) (quiet (levels level_limit) (λ w s. tt)) fragment tt (λ n is h. (omega arith, levels-paragraph n is)) rules n (levels-test level_limit fragment n h.low));
      sound = test-soundness (with_paragraphs rules n)
          (kept soundness sound-text false (refl, omega arith) (λ n is h. (refl, h)) rules n (soundness-test n h.sound));
    };
    joined = joined-with_paragraphs;
    free = λ h. kept free (quiet free (λ w s. tt)) [] tt (λ n is h. (refl, same-free [] (P ∷ []) (λ e. refl) n h)) rules n h;
    permitted = permitted-kept;
    allowed = λ h. test-allowed (with_paragraphs rules n) (kept allowed allowed-text tt refl (λ n is h. (refl, h)) rules n (allowed-test n h));
    pictures = λ test h. kept (pictures test) (quiet (pictures test) (λ w s. tt)) tt tt (λ n is h. (refl, h)) rules n h;
    distinct = λ h. test-distinct (with_paragraphs rules n) (kept distinct (quiet distinct (λ w s. tt)) tt tt (λ n is h. (refl, h)) rules n (distinct-test n h));
  }

-- ---- counts

module _ (c : ℕ) where
  abbrev size : List Sign → ℕ
  size l = count_in_text c (nodes_from l)

  feed-is : (d : ℕ) → is_line_feed d ≡ true → 0xA ≡ d
  feed-is d is = grind (arith, nat_tests)

  marked-size : (run : List Sign) → list_all is_line_feed_sign run ≡ true → size (marked_run run) + lost_in_run c run ≡ size run
  marked-size [] all = omega arith
  marked-size (x ∷ []) all = omega arith
  marked-size (letter d ∷ letter e ∷ run) all =
      let one = and_parts (is_line_feed d) (is_line_feed e && list_all is_line_feed_sign run) all in
      let two = and_parts (is_line_feed e) (list_all is_line_feed_sign run) one.1 in
      omega (
        arith,
        ap (λ (x : ℕ). times c (x ∷ 0xA ∷ [])) (feed-is d one.0),
        ap (λ (x : ℕ). times c (d ∷ x ∷ [])) (feed-is e two.0),
        count-adds c (letter d ∷ letter e ∷ []) run,
      )
  marked-size (element e kids ∷ y ∷ run) all = absurd (cc)
  marked-size (blank_line ∷ y ∷ run) all = absurd (cc)
  marked-size (letter d ∷ element e kids ∷ run) all = let no = (and_parts (is_line_feed d) false all).1 in absurd (cc)
  marked-size (letter d ∷ blank_line ∷ run) all = let no = (and_parts (is_line_feed d) false all).1 in absurd (cc)

  wrapped-size : (run : List Sign) → size (wrapped_run run) + 0 ≡ size run
  wrapped-size run = go (is_paragraph (nodes_from run)) where
    go : (b : Bool) → size (if b then element (bare P) (nodes_from run) ∷ [] else run) + 0 ≡ size run
    go true = omega arith
    go false = omega arith

  nothing : (runs : List (List Sign)) → sum_by (λ (run : List Sign). 0) runs ≡ 0
  nothing [] = refl
  nothing (run ∷ runs) = sum_by-cons (λ (run : List Sign). 0) run runs ∙ ap (λ n. 0 + n) (nothing runs)

  pub counts-with_paragraphs : (rules : Rules) (n : Nodes) → count_in_text c (with_paragraphs rules n) + lost_in_paragraphs c rules n ≡ count_in_text c n
  counts-with_paragraphs rules n = go (makes_paragraphs rules) where
    go : (b : Bool) → count_in_text c (if b then in_paragraphs rules.doctype n else n) + (if b then sum_by (lost_in_run c) (runs_of is_line_feed_sign (signs_of n)) else 0) ≡ count_in_text c n
    go true = omega (
      arith,
      with-size (stands_in_paragraphs rules.doctype) wrapped_run refl (λ l. count_in_text c (nodes_from l)) (count-adds c) refl (λ run. 0) (λ run all. wrapped-size run) (with_blank_lines (signs_of n)),
      nothing (runs_of (stands_in_paragraphs rules.doctype) (with_blank_lines (signs_of n))),
      with-size is_line_feed_sign marked_run refl (λ l. count_in_text c (nodes_from l)) (count-adds c) refl (lost_in_run c) marked-size (signs_of n),
      count-signs c n,
    )
    go false = omega arith

  -- what is lost is line feeds
  module _ (isnt : is_line_feed c ≡ false) where
    other : (d : ℕ) → is_line_feed d ≡ true → (d == c) ≡ false
    other d is = grind (arith, nat_tests)

    never : (d : ℕ) → is_line_feed d ≡ true → times c (d ∷ []) ≡ 0
    never d is = let no = other d is in rw no refl

    no-feeds : (run : List Sign) → list_all is_line_feed_sign run ≡ true → size run ≡ 0
    no-feeds [] all = refl
    no-feeds (letter d ∷ run) all =
        let both = and_parts (is_line_feed d) (list_all is_line_feed_sign run) all in
        omega (arith, count-adds c (letter d ∷ []) run, never d both.0, no-feeds run both.1)
    no-feeds (element e kids ∷ run) all = absurd (cc)
    no-feeds (blank_line ∷ run) all = absurd (cc)

    lost-run : (run : List Sign) → list_all is_line_feed_sign run ≡ true → lost_in_run c run ≡ 0
    lost-run [] all = refl
    lost-run (x ∷ []) all = refl
    lost-run (x ∷ y ∷ run) all = no-feeds run (and_parts (is_line_feed_sign y) _ (and_parts (is_line_feed_sign x) _ all).1).1

    lost-later : (l : List Sign) → sum_by (lost_in_run c) (later_runs is_line_feed_sign l) ≡ 0
    lost-later [] = refl
    lost-later (x ∷ l) = go (is_line_feed_sign x) (lost-later l) where
      go : (b : Bool) → sum_by (lost_in_run c) (later_runs is_line_feed_sign l) ≡ 0 → sum_by (lost_in_run c) (if b then later_runs is_line_feed_sign l else runs_of is_line_feed_sign l) ≡ 0
      go true rest = rest
      go false rest = omega (
        arith,
        sum_by-cons (lost_in_run c) (front_run is_line_feed_sign l) (later_runs is_line_feed_sign l),
        lost-run (front_run is_line_feed_sign l) (front-all is_line_feed_sign l),
        rest,
      )

    pub loses-feeds : (rules : Rules) (n : Nodes) → lost_in_paragraphs c rules n ≡ 0
    loses-feeds rules n = go (makes_paragraphs rules) where
      go : (b : Bool) → (if b then sum_by (lost_in_run c) (runs_of is_line_feed_sign (signs_of n)) else 0) ≡ 0
      go true = omega (
        arith,
        sum_by-cons (lost_in_run c) (front_run is_line_feed_sign (signs_of n)) (later_runs is_line_feed_sign (signs_of n)),
        lost-run (front_run is_line_feed_sign (signs_of n)) (front-all is_line_feed_sign (signs_of n)),
        lost-later (signs_of n),
      )
      go false = refl
