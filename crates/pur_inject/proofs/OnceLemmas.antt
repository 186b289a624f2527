-- Paragraphs are made once.
use Rattle.std.proofs.Common.{◌≡◌, ℕ, Bool, true, false, not, ◌&&◌, List, [], ◌∷◌, ◌++◌, map, refl, sym, ap, ◌∙◌, arith, max}
use Rattle.std.specs.Prelude.{if◌then◌else◌, nat_le}
use Rattle.std.specs.List.{list_all}
use Rattle.std.proofs.lemmas.Bool.{and_parts, and_from, not-true, cond-false}
use Rattle.std.proofs.lemmas.Bool.Decides.{nat_tests}
use Rattle.std.proofs.lemmas.List.{map-append}
use Rattle.pur_laws.proofs.Lists.{all-append}
use Rattle.pur_text.specs.Characters.{is_blank}
use Rattle.pur_names.specs.declared.elements.Element.TheVariants.{P}
use Rattle.pur_modules.specs.declared.kinds.Doctype.{Doctype}
use Rattle.pur_modules.specs.declared.kinds.Doctype.TheVariants.{Strict, Transitional}
use Rattle.pur_tree.specs.Nodes.{bare, Nodes, no_nodes, text_first, elem_first, is_joined, is_sound, level_in, starts_with_text}
use Rattle.pur_tree.specs.Places.{Place, fragment, inside, level_limit}
use Rattle.pur_tree.specs.Walks.{text_joined}
use Rattle.pur_inject.specs.Laws.{names_alone}
use Rattle.pur_inject.specs.Paragraphs.{are_blank, in_paragraphs, is_in_paragraphs, is_line_feed, is_line_feed_sign, is_paragraph, marked_run, stands_in_paragraphs, with_blank_lines, wrapped_run}
use Rattle.pur_inject.specs.Runs.{front_run, later_runs, runs_of, behind_run, with_runs}
use Rattle.pur_inject.specs.Signs.{Sign, letter, element, blank_line, letters, signs_of, nodes_from, two_line_feeds}
use Rattle.pur_inject.proofs.RunLemmas.{Each, Stops, each-append, front-all, pass-map, pass-run, runs-join, with-left, with-map, with-run, with-split, with-stays}
use Rattle.pur_inject.proofs.SignLemmas.{before-spelled, from-signs, letters-each, signs-from, spelled, spelled-append}

-- ---- signs in which no line feeds, and no blank lines, are neighbours

abbrev is_feed : Sign → Bool
is_feed (letter c) = is_line_feed c
is_feed (element e kids) = false
is_feed blank_line = true

abbrev Apart : List Sign → Type 0
Apart [] = Unit {0}
Apart (x ∷ l) = is_feed x ≡ false

abbrev Normal : List Sign → Type 0
Normal [] = Unit {0}
Normal (x ∷ l) = (is_feed x ≡ true → Apart l) × Normal l

-- what nodes have: no blank line is marked
abbrev Plain : Sign → Type 0
Plain (letter c) = Unit {0}
Plain (element e kids) = Unit {0}
Plain blank_line = ⊥

plain-signs : (n : Nodes) → Each Plain (signs_of n)
plain-signs no_nodes = tt
plain-signs (text_first s n) = each-append Plain (letters s) (signs_of n) (letters-each Plain (λ c. tt) s) (plain-signs n)
plain-signs (elem_first e kids n) = (tt, plain-signs n)

plain-feed : (x : Sign) → Plain x → is_feed x ≡ is_line_feed_sign x
plain-feed (letter c) plain = refl
plain-feed (element e kids) plain = refl
plain-feed blank_line plain = absurd plain

behind-apart : (l : List Sign) → Each Plain l → Apart (behind_run is_line_feed_sign marked_run l)
behind-apart [] plain = tt
behind-apart (x ∷ l) plain = go (is_line_feed_sign x) refl (behind-apart l plain.1) where
  go : (b : Bool) → is_line_feed_sign x ≡ b → Apart (behind_run is_line_feed_sign marked_run l) → Apart (if b then behind_run is_line_feed_sign marked_run l else x ∷ with_blank_lines l)
  go true is rest = rest
  go false is rest = plain-feed x plain.0 ∙ is

marked-from : (l : List Sign) → Each Plain l → Normal (behind_run is_line_feed_sign marked_run l) → Normal (with_blank_lines l)
marked-from l plain normal = go (front_run is_line_feed_sign l) where
  go : (run : List Sign) → Normal (marked_run run ++ behind_run is_line_feed_sign marked_run l)
  go [] = normal
  go (x ∷ []) = (λ is. behind-apart l plain, normal)
  go (x ∷ y ∷ run) = (λ is. behind-apart l plain, normal)

behind-normal : (l : List Sign) → Each Plain l → Normal (behind_run is_line_feed_sign marked_run l)
behind-normal [] plain = tt
behind-normal (x ∷ l) plain = go (is_line_feed_sign x) refl (behind-normal l plain.1) where
  go : (b : Bool) → is_line_feed_sign x ≡ b → Normal (behind_run is_line_feed_sign marked_run l) → Normal (if b then behind_run is_line_feed_sign marked_run l else x ∷ with_blank_lines l)
  go true is rest = rest
  go false is rest =
      let isnt : is_feed x ≡ false = plain-feed x plain.0 ∙ is in
      (λ feed. absurd (cc), marked-from l plain.1 rest)

marked-normal : (l : List Sign) → Each Plain l → Normal (with_blank_lines l)
marked-normal l plain = marked-from l plain (behind-normal l plain)

-- they stay so where pieces are wrapped
module _ (d : Doctype) where
  abbrev wrapped_behind : List Sign → List Sign
  wrapped_behind = behind_run (stands_in_paragraphs d) wrapped_run

  abbrev wrapped : List Sign → List Sign
  wrapped = with_runs (stands_in_paragraphs d) wrapped_run

  abbrev open_front : List Sign → List Sign
  open_front l = front_run (stands_in_paragraphs d) l ++ wrapped_behind l

  record KeepsNormal (l : List Sign) : Type 0 where
    left : Normal (open_front l)
    behind : Normal (wrapped_behind l)
    apart : Apart l → Apart (open_front l)

  wrapped-apart : (l : List Sign) → Apart (open_front l) → Apart (wrapped l)
  wrapped-apart l apart = go (is_paragraph (nodes_from (front_run (stands_in_paragraphs d) l))) where
    go : (b : Bool) → Apart ((if b then element (bare P) (nodes_from (front_run (stands_in_paragraphs d) l)) ∷ [] else front_run (stands_in_paragraphs d) l) ++ wrapped_behind l)
    go true = refl
    go false = apart

  wrapped-from : (l : List Sign) → KeepsNormal l → Normal (wrapped l)
  wrapped-from l kept = go (is_paragraph (nodes_from (front_run (stands_in_paragraphs d) l))) where
    go : (b : Bool) → Normal ((if b then element (bare P) (nodes_from (front_run (stands_in_paragraphs d) l)) ∷ [] else front_run (stands_in_paragraphs d) l) ++ wrapped_behind l)
    go true = (λ feed. absurd (cc), kept.behind)
    go false = kept.left

  keeps-normal : (l : List Sign) → Normal l → KeepsNormal l
  keeps-normal [] normal = record { left = tt; behind = tt; apart = λ a. a }
  keeps-normal (x ∷ l) normal = go (keeps-normal l normal.1) where
    go : KeepsNormal l → KeepsNormal (x ∷ l)
    go rest = record { left = left (stands_in_paragraphs d x); behind = behind (stands_in_paragraphs d x); apart = apart (stands_in_paragraphs d x) } where
      more : Normal (x ∷ wrapped l)
      more = (λ feed. wrapped-apart l (rest.apart (normal.0 feed)), wrapped-from l rest)

      left : (b : Bool) → Normal ((if b then x ∷ front_run (stands_in_paragraphs d) l else []) ++ (if b then wrapped_behind l else x ∷ wrapped l))
      left true = (λ feed. rest.apart (normal.0 feed), rest.left)
      left false = more

      behind : (b : Bool) → Normal (if b then wrapped_behind l else x ∷ wrapped l)
      behind true = rest.behind
      behind false = more

      apart : (b : Bool) → is_feed x ≡ false → Apart ((if b then x ∷ front_run (stands_in_paragraphs d) l else []) ++ (if b then wrapped_behind l else x ∷ wrapped l))
      apart true a = a
      apart false a = a

-- ---- spelled, they are marked as before, and their blank lines are short

feed-is : (c : ℕ) → is_line_feed c ≡ true → c ≡ 0xA
feed-is c is = grind (arith, nat_tests)

apart-stops : (l : List Sign) → Apart l → Stops is_line_feed_sign (spelled l)
apart-stops [] apart = tt
apart-stops (letter c ∷ l) apart = apart
apart-stops (element e kids ∷ l) apart = refl
apart-stops (blank_line ∷ l) apart = absurd (cc)

abbrev is_short : List Sign → Bool
is_short (x ∷ y ∷ z ∷ run) = false
is_short run = true

record IsSpelled (l : List Sign) : Type 0 where
  marked : with_blank_lines (spelled l) ≡ l
  short : list_all is_short (runs_of is_line_feed_sign (spelled l)) ≡ true

other-spelled : (x : Sign) (l : List Sign) → is_line_feed_sign x ≡ false → IsSpelled l → with_blank_lines (x ∷ spelled l) ≡ x ∷ l
other-spelled x l isnt rest = with-split is_line_feed_sign marked_run refl [] (spelled l) x isnt ∙ ap (λ t. x ∷ t) rest.marked

run-short : (run : List Sign) (l : List Sign) → Stops is_line_feed_sign (spelled l) → list_all is_short (runs_of is_line_feed_sign run) ≡ true → IsSpelled l
    → list_all is_short (runs_of is_line_feed_sign (run ++ spelled l)) ≡ true
run-short run l stops short rest =
    ap (list_all is_short) (runs-join is_line_feed_sign run (spelled l) stops)
    ∙ all-append is_short (runs_of is_line_feed_sign run) (later_runs is_line_feed_sign (spelled l)) short (and_parts _ _ rest.short).1

normal-spelled : (l : List Sign) → Normal l → IsSpelled l
normal-spelled [] normal = record { marked = refl; short = refl }
normal-spelled (letter c ∷ l) normal = go (is_line_feed c) refl (normal-spelled l normal.1) where
  go : (b : Bool) → is_line_feed c ≡ b → IsSpelled l → IsSpelled (letter c ∷ l)
  go true is rest =
      let stops = apart-stops l (normal.0 is) in
      let one : list_all is_line_feed_sign (letter c ∷ []) ≡ true = and_from _ _ is refl in
      record {
        marked = with-run is_line_feed_sign marked_run refl (letter c ∷ []) (spelled l) one stops ∙ ap (λ t. letter c ∷ t) rest.marked;
        short = run-short (letter c ∷ []) l stops (rw is refl) rest;
      }
  go false isnt rest = record {
    marked = other-spelled (letter c) l isnt rest;
    short = rw isnt rest.short;
  }
normal-spelled (element e kids ∷ l) normal = let rest = normal-spelled l normal.1 in record { marked = other-spelled (element e kids) l refl rest; short = rest.short }
normal-spelled (blank_line ∷ l) normal =
    let rest = normal-spelled l normal.1 in
    let stops = apart-stops l (normal.0 refl) in
    record {
      marked = with-run is_line_feed_sign marked_run refl (letter 0xA ∷ letter 0xA ∷ []) (spelled l) refl stops ∙ ap (λ t. blank_line ∷ t) rest.marked;
      short = run-short (letter 0xA ∷ letter 0xA ∷ []) l stops refl rest;
    }

-- where blank lines are short, marking takes nothing
short-run : (run : List Sign) → list_all is_line_feed_sign run ≡ true → is_short run ≡ true → spelled (marked_run run) ≡ run
short-run [] all short = refl
short-run (letter c ∷ []) all short = refl
short-run (letter c ∷ letter e ∷ []) all short =
    let one = and_parts (is_line_feed c) (is_line_feed e && true) all in
    let two = and_parts (is_line_feed e) true one.1 in
    ap (λ (x : ℕ). letter x ∷ letter 0xA ∷ []) (sym (feed-is c one.0)) ∙ ap (λ (x : ℕ). letter c ∷ letter x ∷ []) (sym (feed-is e two.0))
short-run (x ∷ y ∷ z ∷ run) all short = absurd (cc)
short-run (element e kids ∷ run) all short = absurd (cc)
short-run (blank_line ∷ run) all short = absurd (cc)
short-run (letter c ∷ element e kids ∷ []) all short = let no = (and_parts (is_line_feed c) false all).1 in absurd (cc)
short-run (letter c ∷ blank_line ∷ []) all short = let no = (and_parts (is_line_feed c) false all).1 in absurd (cc)

plain-spelled : (x : Sign) (l : List Sign) → Plain x → spelled (x ∷ l) ≡ x ∷ spelled l
plain-spelled (letter c) l plain = refl
plain-spelled (element e kids) l plain = refl
plain-spelled blank_line l plain = absurd plain

behind-short : (l : List Sign) → Each Plain l → list_all is_short (later_runs is_line_feed_sign l) ≡ true
    → front_run is_line_feed_sign l ++ spelled (behind_run is_line_feed_sign marked_run l) ≡ l
behind-short [] plain short = refl
behind-short (x ∷ l) plain short = go (is_line_feed_sign x) short (behind-short l plain.1) where
  go : (b : Bool) → list_all is_short (if b then later_runs is_line_feed_sign l else runs_of is_line_feed_sign l) ≡ true
      → (list_all is_short (later_runs is_line_feed_sign l) ≡ true → front_run is_line_feed_sign l ++ spelled (behind_run is_line_feed_sign marked_run l) ≡ l)
      → (if b then x ∷ front_run is_line_feed_sign l else []) ++ spelled (if b then behind_run is_line_feed_sign marked_run l else x ∷ with_blank_lines l) ≡ x ∷ l
  go true short rest = ap (λ t. x ∷ t) (rest short)
  go false short rest =
      let both = and_parts _ _ short in
      let front = front_run is_line_feed_sign l in
      let behind = behind_run is_line_feed_sign marked_run l in
      plain-spelled x (with_blank_lines l) plain.0
      ∙ ap (λ t. x ∷ t) (spelled-append (marked_run front) behind)
      ∙ ap (λ t. x ∷ (t ++ spelled behind)) (short-run front (front-all is_line_feed_sign l) both.0)
      ∙ ap (λ t. x ∷ t) (rest both.1)

short-stays : (l : List Sign) → Each Plain l → list_all is_short (runs_of is_line_feed_sign l) ≡ true → spelled (with_blank_lines l) ≡ l
short-stays l plain short =
    let both = and_parts _ _ short in
    let front = front_run is_line_feed_sign l in
    let behind = behind_run is_line_feed_sign marked_run l in
    spelled-append (marked_run front) behind
    ∙ ap (λ t. t ++ spelled behind) (short-run front (front-all is_line_feed_sign l) both.0)
    ∙ behind-short l plain both.1

-- ---- attributes don't count

abbrev strip : Sign → Sign
strip (letter c) = letter c
strip (element e kids) = element (bare e.name) (names_alone kids)
strip blank_line = blank_line

strip-letters : (s : List ℕ) → map strip (letters s) ≡ letters s
strip-letters [] = refl
strip-letters (c ∷ s) = ap (λ t. letter c ∷ t) (strip-letters s)

signs-names : (n : Nodes) → signs_of (names_alone n) ≡ map strip (signs_of n)
signs-names no_nodes = refl
signs-names (text_first s n) =
    ap (λ t. letters s ++ t) (signs-names n) ∙ ap (λ t. t ++ map strip (signs_of n)) (sym (strip-letters s)) ∙ sym (map-append strip (letters s) (signs_of n))
signs-names (elem_first e kids n) = ap (λ t. element (bare e.name) (names_alone kids) ∷ t) (signs-names n)

names-joined : (s : List ℕ) (f : Nodes) → names_alone (text_joined s f) ≡ text_joined s (names_alone f)
names-joined s no_nodes = refl
names-joined s (text_first t f) = refl
names-joined s (elem_first e kids f) = refl

nodes-names : (l : List Sign) → nodes_from (map strip l) ≡ names_alone (nodes_from l)
nodes-names [] = refl
nodes-names (letter c ∷ l) = ap (text_joined (c ∷ [])) (nodes-names l) ∙ sym (names-joined (c ∷ []) (nodes_from l))
nodes-names (element e kids ∷ l) = ap (elem_first (bare e.name) (names_alone kids)) (nodes-names l)
nodes-names (blank_line ∷ l) = ap (text_joined two_line_feeds) (nodes-names l) ∙ sym (names-joined two_line_feeds (nodes_from l))

blank-names : (n : Nodes) → are_blank (names_alone n) ≡ are_blank n
blank-names no_nodes = refl
blank-names (text_first s n) = ap (λ b. is_blank s && b) (blank-names n)
blank-names (elem_first e kids n) = refl

level-names : (at : Place) (n : Nodes) → level_in at (names_alone n) ≡ level_in at n
level-names at no_nodes = refl
level-names at (text_first s n) = level-names at n
level-names at (elem_first e kids n) =
    ap (λ (m : ℕ). max (max (inside at e.name).level m) (level_in at (names_alone n))) (level-names (inside at e.name) kids)
    ∙ ap (λ (m : ℕ). max (max (inside at e.name).level (level_in (inside at e.name) kids)) m) (level-names at n)

starts-names : (n : Nodes) → starts_with_text (names_alone n) ≡ starts_with_text n
starts-names no_nodes = refl
starts-names (text_first s n) = refl
starts-names (elem_first e kids n) = refl

pub joined-names : (n : Nodes) → is_joined (names_alone n) ≡ is_joined n
joined-names no_nodes = refl
joined-names (text_first s n) = ap (λ (b : Bool). not b && is_joined (names_alone n)) (starts-names n) ∙ ap (λ (b : Bool). not (starts_with_text n) && b) (joined-names n)
joined-names (elem_first e kids n) = ap (λ (b : Bool). b && is_joined (names_alone n)) (joined-names kids) ∙ ap (λ (b : Bool). is_joined kids && b) (joined-names n)

-- a piece that becomes no paragraph
abbrev stays : List Sign → Bool
stays run = not (is_paragraph (nodes_from run))

stays-strip : (run : List Sign) → stays (map strip run) ≡ stays run
stays-strip run =
    ap (λ n. not (is_paragraph n)) (nodes-names run)
    ∙ ap (λ (b : Bool). not (not b && nat_le (level_in (inside fragment P) (names_alone (nodes_from run))) level_limit)) (blank-names (nodes_from run))
    ∙ ap (λ (m : ℕ). not (not (are_blank (nodes_from run)) && nat_le m level_limit)) (level-names (inside fragment P) (nodes_from run))

short-strip : (run : List Sign) → is_short (map strip run) ≡ is_short run
short-strip [] = refl
short-strip (x ∷ []) = refl
short-strip (x ∷ y ∷ []) = refl
short-strip (x ∷ y ∷ z ∷ run) = refl

marked-strip : (run : List Sign) → marked_run (map strip run) ≡ map strip (marked_run run)
marked-strip [] = refl
marked-strip (x ∷ []) = refl
marked-strip (x ∷ y ∷ run) = refl

feed-strip : (x : Sign) → is_line_feed_sign (strip x) ≡ is_line_feed_sign x
feed-strip (letter c) = refl
feed-strip (element e kids) = refl
feed-strip blank_line = refl

-- ---- no paragraph is left

module _ (d : Doctype) where
  stands-strip : (x : Sign) → stands_in_paragraphs d (strip x) ≡ stands_in_paragraphs d x
  stands-strip (letter c) = refl
  stands-strip (element e kids) = refl
  stands-strip blank_line = refl

  wrapped-stays : (run : List Sign) → stays run ≡ true → wrapped_run run ≡ run
  wrapped-stays run is = cond-false _ _ _ (not-true (is_paragraph (nodes_from run)) is)

  no-paragraph : (d : Doctype) → is_in_paragraphs d P ≡ false
  no-paragraph Strict = refl
  no-paragraph Transitional = refl

  wrapped-left : (run : List Sign) → list_all (stands_in_paragraphs d) run ≡ true → list_all stays (runs_of (stands_in_paragraphs d) (wrapped_run run)) ≡ true
  wrapped-left run all = go (is_paragraph (nodes_from run)) refl where
    go : (b : Bool) → is_paragraph (nodes_from run) ≡ b → list_all stays (runs_of (stands_in_paragraphs d) (if b then element (bare P) (nodes_from run) ∷ [] else run)) ≡ true
    go true is = rw (no-paragraph d) refl
    go false is = pass-run (stands_in_paragraphs d) stays refl run all (ap not is)

  -- the signs of a fragment's own nodes in paragraphs
  abbrev made_of : Nodes → List Sign
  made_of n = wrapped d (with_blank_lines (signs_of n))

  made-spelled : (n : Nodes) → IsSpelled (made_of n)
  made-spelled n =
      let marked = with_blank_lines (signs_of n) in
      normal-spelled (made_of n) (wrapped-from d marked (keeps-normal d marked (marked-normal (signs_of n) (plain-signs n))))

  made-stays : (n : Nodes) → list_all stays (runs_of (stands_in_paragraphs d) (made_of n)) ≡ true
  made-stays n = with-left (stands_in_paragraphs d) wrapped_run refl stays refl wrapped-left (with_blank_lines (signs_of n))

  pub in-once : (n : Nodes) → in_paragraphs d (in_paragraphs d n) ≡ in_paragraphs d n
  in-once n =
      ap (λ l. nodes_from (wrapped d (with_blank_lines l))) (signs-from (made_of n))
      ∙ ap (λ l. nodes_from (wrapped d l)) (made-spelled n).marked
      ∙ ap nodes_from (with-stays (stands_in_paragraphs d) wrapped_run refl stays wrapped-stays (made_of n) (made-stays n))

  -- also where attributes are others
  pub in-stays : (n m : Nodes) → names_alone m ≡ names_alone (in_paragraphs d n) → is_sound m ≡ true → is_joined m ≡ true → in_paragraphs d m ≡ m
  in-stays n m same sound joined =
      let made = made_of n in
      let signs = signs_of m in
      let marked = with_blank_lines signs in
      let stripped : map strip signs ≡ map strip (spelled made) =
      sym (signs-names m) ∙ ap signs_of same ∙ signs-names (nodes_from made) ∙ ap (map strip) (signs-from made) in
      let both : map strip marked ≡ map strip made =
      sym (with-map is_line_feed_sign strip feed-strip marked_run marked-strip signs) ∙ ap with_blank_lines stripped
      ∙ with-map is_line_feed_sign strip feed-strip marked_run marked-strip (spelled made) ∙ ap (map strip) (made-spelled n).marked in
      let quiet : list_all stays (runs_of (stands_in_paragraphs d) marked) ≡ true =
      sym (pass-map (stands_in_paragraphs d) strip stands-strip stays stays-strip marked)
      ∙ ap (λ l. list_all stays (runs_of (stands_in_paragraphs d) l)) both
      ∙ pass-map (stands_in_paragraphs d) strip stands-strip stays stays-strip made ∙ made-stays n in
      let short : list_all is_short (runs_of is_line_feed_sign signs) ≡ true =
      sym (pass-map is_line_feed_sign strip feed-strip is_short short-strip signs)
      ∙ ap (λ l. list_all is_short (runs_of is_line_feed_sign l)) stripped
      ∙ pass-map is_line_feed_sign strip feed-strip is_short short-strip (spelled made) ∙ (made-spelled n).short in
      ap nodes_from (with-stays (stands_in_paragraphs d) wrapped_run refl stays wrapped-stays marked quiet)
      ∙ sym (before-spelled marked no_nodes)
      ∙ ap nodes_from (short-stays signs (plain-signs m) short)
      ∙ from-signs m sound joined
