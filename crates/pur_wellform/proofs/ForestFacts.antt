-- What closing writes is balanced, and its tree is a forest in which no two attributes of an element have one name.
use Rattle.std.proofs.Common.{◌≡◌, ℕ, List, [], ◌∷◌, ◌++◌, length, Bool, true, not, ◌&&◌, nat_lt, refl, ap, sym, subst, arith, length-append}
use Rattle.std.specs.List.{list_all}
use Rattle.std.proofs.lemmas.Bool.{and_parts, and_from, not-true, lt-ltb, ltb-true}
use Rattle.pur_names.specs.declared.elements.Element.{Element}
use Rattle.pur_modules.specs.Contents.{is_empty_element}
use Rattle.pur_attrlist.specs.Attributes.{is_distinct}
use Rattle.pur_tokens.specs.Distinct.{shows_distinct}
use Rattle.pur_tokens.specs.Tokens as read
use Rattle.pur_settings.specs.Rules.{Rules}
use Rattle.pur_tree.specs.Nodes.{PlainElem, Nodes, is_sound}
use Rattle.pur_tree.specs.Spelling.{has_distinct_names}
use Rattle.pur_tree.specs.Tokens.{Token, levels_of, first_level, other_levels, IsBalanced, balanced_nothing, balanced_text, balanced_empty, balanced_start, balanced_stop}
use Rattle.pur_wellform.specs.Closing.{closed}
use Rattle.pur_wellform.specs.Invariants.{Writes, writes_nothing, writes_text, writes_empty, writes_start, writes_end}
use Rattle.pur_wellform.specs.Laws.{ClosedIsForest, ClosedKeepsDistinct}
use Rattle.pur_wellform.specs.Standing.{can_be_closed}
use Rattle.pur_wellform.proofs.PassingFacts.{Test, Reads, Tells, passes, closed-passes, written-passes}
use Rattle.pur_wellform.proofs.PropertyFacts.{stands_low}
use Rattle.pur_wellform.proofs.StepFacts.{run_writes}
use Rattle.pur_wellform.proofs.TreeFacts.{writes-joined, writes-tree}

-- ---- balanced

abbrev is_full : Element → Bool
is_full element = not (is_empty_element element)

balanced : {rules : Rules} {es after : List Element} {ts : List Token} → Writes rules es ts after → after ≡ [] → list_all is_full es ≡ true → IsBalanced es ts
balanced writes_nothing none full = subst (λ l. IsBalanced l []) (sym none) balanced_nothing
balanced (writes_text m p) none full = balanced_text (balanced p none full)
balanced (writes_empty e m p) none full = balanced_empty e (balanced p none full)
balanced {es = es} (writes_start {element = x} e m p) none full =
    balanced_start e (balanced p none (and_from (is_full x.name) (list_all is_full es) (ap not e) full))
balanced (writes_end {opened = es} {element = x} p) none full =
    let parts = and_parts (is_full x) (list_all is_full es) full in
    balanced_stop (not-true (is_empty_element x) parts.0) (balanced p none parts.1)

pub closed-balanced : (rules : Rules) (tokens : List read.PlainToken) → list_all (can_be_closed rules) tokens ≡ true → IsBalanced [] (closed rules tokens)
closed-balanced rules tokens all = balanced (writes-joined (run_writes rules tokens all)) refl refl

-- ---- no text is empty, and EMPTY elements have no children

abbrev says : List ℕ → Bool
says text = nat_lt 0 (length text)

abbrev shows : PlainElem → Bool
shows tag = true

longer : (s t : List ℕ) → says s ≡ true → says t ≡ true → says (s ++ t) ≡ true
longer s t one two = lt-ltb _ _ (omega (arith, ltb-true _ _ one, length-append s t))

text-test : Test says shows
text-test = record { joins = longer; wraps = λ wrapper is. refl }

text-reads : (rules : Rules) → Reads says shows (can_be_closed rules)
text-reads rules = record {
  text = λ text is. is;
  start = λ name attrs element named is. refl;
  empty = λ name attrs element named is. refl;
}

abbrev AreSound : List Nodes → Type 0
AreSound [] = Unit {0}
AreSound (n ∷ more) = (is_sound n ≡ true) × AreSound more

first-sound : (outer : List Nodes) → AreSound outer → is_sound (first_level outer) ≡ true
first-sound [] all = refl
first-sound (n ∷ more) all = all.0

others-sound : (outer : List Nodes) → AreSound outer → AreSound (other_levels outer)
others-sound [] all = tt
others-sound (n ∷ more) all = all.1

levels-sound : {rules : Rules} {es after : List Element} {ts : List Token} → Writes rules es ts after → list_all (passes says shows) ts ≡ true
    → (is_sound (levels_of ts).here ≡ true) × AreSound (levels_of ts).outer
levels-sound writes_nothing all = (refl, tt)
levels-sound (writes_text {text = s} {more = ts} m p) all =
    let parts = and_parts (says s) (list_all (passes says shows) ts) all in
    let r = levels-sound p parts.1 in
    (and_from (says s) (is_sound (levels_of ts).here) parts.0 r.0, r.1)
levels-sound (writes_empty {element = x} {more = ts} e m p) all =
    let r = levels-sound p all in
    (rw e r.0, r.1)
levels-sound (writes_start {element = x} {more = ts} e m p) all =
    let r = levels-sound p all in
    let l = levels_of ts in
    (rw e (and_from (is_sound l.here) (is_sound (first_level l.outer)) r.0 (first-sound l.outer r.1)), others-sound l.outer r.1)
levels-sound (writes_end p) all =
    let r = levels-sound p all in
    (refl, (r.0, r.1))

pub closed-forest : ClosedIsForest
closed-forest rules tokens all =
    let writes = writes-joined (run_writes rules tokens all) in
    record {
      low = stands_low (writes-tree writes);
      sound = (levels-sound writes (written-passes says shows text-test (can_be_closed rules) (text-reads rules) rules tokens all)).0;
    }

-- ---- no two attributes of an element have one name

abbrev any : List ℕ → Bool
any text = true

abbrev is_apart : PlainElem → Bool
is_apart tag = is_distinct tag.attrs

apart-test : Test any is_apart
apart-test = record { joins = λ s t one two. refl; wraps = λ wrapper is. refl }

apart-reads : Reads any is_apart shows_distinct
apart-reads = record {
  text = λ text is. refl;
  start = λ name attrs element named is. is;
  empty = λ name attrs element named is. is;
}

apart-tells : Tells any is_apart (λ (nodes : Nodes). has_distinct_names nodes ≡ true)
apart-tells = record {
  none = refl;
  text = λ text rest is more. more;
  elem = λ e kids rest is k r.
      and_from (is_distinct e.attrs) (has_distinct_names kids && has_distinct_names rest) is
      (and_from (has_distinct_names kids) (has_distinct_names rest) k r);
}

pub closed-distinct : ClosedKeepsDistinct
closed-distinct rules tokens nodes all tree =
    closed-passes any is_apart apart-test (λ (nodes : Nodes). has_distinct_names nodes ≡ true) apart-tells shows_distinct apart-reads
    rules tokens nodes all tree
