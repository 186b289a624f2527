-- Nodes that grow, the signs that are cut of a text, and pieces that stand open.
use Rattle.std.proofs.Common.{◌≡◌, ℕ, ◌<◌, ◌≤◌, Bool, true, false, not, List, [], ◌∷◌, ◌++◌, length, refl, sym, ap, ◌∙◌, arith, string_bytes}
use Rattle.std.specs.Prelude.{if◌then◌else◌}
use Rattle.std.specs.List.{list_all}
use Rattle.std.specs.Str.{chars}
use Rattle.std.proofs.lemmas.Bool.{and_parts, and_from, not-true}
use Rattle.std.proofs.lemmas.List.{map-append}
use Rattle.std.proofs.lemmas.Str.{chars-nil}
use Rattle.pur_modules.specs.declared.kinds.Doctype.{Doctype}
use Rattle.pur_tree.specs.Image.{nodes_of}
use Rattle.pur_names.specs.declared.elements.Element.TheVariants.{P}
use Rattle.pur_tree.specs.Nodes.{bare, Nodes, no_nodes, elem_first, nodes_append}
use Rattle.pur_inject.specs.Paragraphs.{is_paragraph, marked_run, stands_in_paragraphs, wrapped_run}
use Rattle.pur_inject.specs.Private.Cutting.{is_over, says}
use Rattle.pur_inject.specs.Private.Growing.{grown}
use Rattle.pur_inject.specs.Private.Standing.{ahead, piece_before}
use Rattle.pur_inject.specs.Runs.{front_run, behind_run, with_runs}
use Rattle.pur_inject.specs.Signs.{Sign, letter, element, blank_line, letters, signs_of, sign_before, signs_before, nodes_from}
use Rattle.pur_inject.specs.declared.growing.Growing.{Growing}
use Rattle.pur_inject.proofs.RunLemmas.{Stops, behind-run, front-prefix, with-others, with-run}
use Rattle.pur_inject.proofs.SignLemmas.{before-append, before-spelled, signs-from}

-- no text at hand
pub grown-ended : (g : Growing) (more : Nodes) → string_bytes g.text ≡ [] → grown g more ≡ nodes_append (nodes_of g.nodes.items) more
grown-ended g more over =
    ap (λ (b : List ℕ). nodes_append (nodes_of g.nodes.items) (signs_before (letters (chars b)) more)) over
    ∙ ap (λ (s : List ℕ). nodes_append (nodes_of g.nodes.items) (signs_before (letters s) more)) chars-nil

pub grown-new : (g : Growing) (more : Nodes) → g.nodes.items ≡ [] → string_bytes g.text ≡ [] → grown g more ≡ more
grown-new g more none over = grown-ended g more over ∙ ap (λ items. nodes_append (nodes_of items) more) none

-- ---- a text that is cut behind a run

module _ (sign_test : Sign → Bool) (test : ℕ → Bool) (same : (c : ℕ) → sign_test (letter c) ≡ test c) (made : List Sign → List Sign) (empty : made [] ≡ []) where
  all-said : (s : List ℕ) → list_all test s ≡ true → list_all sign_test (letters s) ≡ true
  all-said [] all = refl
  all-said (c ∷ s) all = let both = and_parts (test c) (list_all test s) all in and_from _ _ (same c ∙ both.0) (all-said s both.1)

  none-said : (s : List ℕ) → list_all (λ c. not (test c)) s ≡ true → list_all (λ x. not (sign_test x)) (letters s) ≡ true
  none-said [] all = refl
  none-said (c ∷ s) all = let both = and_parts (not (test c)) (list_all (λ c. not (test c)) s) all in and_from _ _ (ap not (same c) ∙ both.0) (none-said s both.1)

  over-stops : (s : List ℕ) → is_over test true s ≡ true → Stops sign_test (letters s)
  over-stops [] over = tt
  over-stops (c ∷ s) over = same c ∙ not-true (test c) over

  pub cut-with : (is : Bool) (text run behind : List ℕ) → text ≡ run ++ behind → list_all (says test is) run ≡ true → is_over test is behind ≡ true
      → with_runs sign_test made (letters text) ≡ (if is then made (letters run) else letters run) ++ with_runs sign_test made (letters behind)
  cut-with is text run behind cut all over = ap (λ t. with_runs sign_test made (letters t)) cut ∙ ap (with_runs sign_test made) (map-append letter run behind) ∙ go is all over where
    go : (is : Bool) → list_all (says test is) run ≡ true → is_over test is behind ≡ true
        → with_runs sign_test made (letters run ++ letters behind) ≡ (if is then made (letters run) else letters run) ++ with_runs sign_test made (letters behind)
    go true all over = with-run sign_test made empty (letters run) (letters behind) (all-said run all) (over-stops behind over)
    go false all over = with-others sign_test made empty (letters run) (letters behind) (none-said run all)

-- ---- a piece that goes on, and one that ends

pub piece-run : (run : List Sign) (more : Nodes) → piece_before (nodes_from run) more ≡ signs_before (wrapped_run run) more
piece-run run more = go (is_paragraph (nodes_from run)) where
  go : (b : Bool) → (if b then elem_first (bare P) (nodes_from run) more else signs_before (signs_of (nodes_from run)) more)
      ≡ signs_before (if b then element (bare P) (nodes_from run) ∷ [] else run) more
  go true = refl
  go false = ap (λ l. signs_before l more) (signs-from run) ∙ before-spelled run more

module _ (d : Doctype) where
  pub goes-on : (done old new : Growing) (l more : List Sign) → list_all (stands_in_paragraphs d) l ≡ true
      → ((after : Nodes) → grown new after ≡ grown old (signs_before l after)) → ahead d done new more ≡ ahead d done old (l ++ more)
  goes-on done old new l more all is =
      let stands = stands_in_paragraphs d in
      let rest = nodes_from (behind_run stands wrapped_run more) in
      ap (λ n. grown done (piece_before n rest))
      (is (nodes_from (front_run stands more)) ∙ ap (grown old) (sym (before-append l (front_run stands more) no_nodes)) ∙ ap (λ r. grown old (nodes_from r)) (sym (front-prefix stands l more all)))
      ∙ ap (λ r. grown done (piece_before (grown old (nodes_from (front_run stands (l ++ more)))) (nodes_from r))) (sym (behind-run stands wrapped_run refl l more all))

  -- a piece without nodes
  pub starts : (done piece : Growing) (more : List Sign) → ((after : Nodes) → grown piece after ≡ after)
      → ahead d done piece more ≡ grown done (nodes_from (with_runs (stands_in_paragraphs d) wrapped_run more))
  starts done piece more none =
      let stands = stands_in_paragraphs d in
      let front = front_run stands more in
      let rest = behind_run stands wrapped_run more in
      ap (λ n. grown done (piece_before n (nodes_from rest))) (none (nodes_from front))
      ∙ ap (grown done) (piece-run front (nodes_from rest) ∙ sym (before-append (wrapped_run front) rest no_nodes))

  pub ends : (done piece ended empty : Growing) (x : Sign) (more : List Sign) → stands_in_paragraphs d x ≡ false → ((after : Nodes) → grown empty after ≡ after)
      → ((after : Nodes) → grown ended after ≡ grown done (piece_before (grown piece no_nodes) (sign_before x after))) → ahead d ended empty more ≡ ahead d done piece (x ∷ more)
  ends done piece ended empty x more isnt none is =
      let stands = stands_in_paragraphs d in
      let rest = with_runs stands wrapped_run more in
      starts ended empty more none
      ∙ is (nodes_from rest)
      ∙ ap (λ (b : Bool). grown done (piece_before (grown piece (nodes_from (if b then x ∷ front_run stands more else []))) (nodes_from (if b then behind_run stands wrapped_run more else x ∷ rest)))) (sym isnt)

  -- the end
  pub ends-all : (done piece : Growing) → ahead d done piece [] ≡ grown done (piece_before (grown piece no_nodes) no_nodes)
  ends-all done piece = refl

pub all-stand : (d : Doctype) (s : List ℕ) → list_all (stands_in_paragraphs d) (letters s) ≡ true
all-stand d [] = refl
all-stand d (c ∷ s) = all-stand d s

-- line feeds that are a blank line, and that are none
pub marked-long : (s : List ℕ) → 1 < length s → marked_run (letters s) ≡ blank_line ∷ []
marked-long [] long = absurd (omega arith)
marked-long (c ∷ []) long = absurd (omega arith)
marked-long (c ∷ e ∷ s) long = refl

pub marked-one : (s : List ℕ) → length s ≤ 1 → marked_run (letters s) ≡ letters s
marked-one [] short = refl
marked-one (c ∷ []) short = refl
marked-one (c ∷ e ∷ s) short = absurd (omega arith)
