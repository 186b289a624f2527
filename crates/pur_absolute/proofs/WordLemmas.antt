-- Words stay words, where texts become one and elements go that must have a URI.
use Rattle.std.proofs.Common.{◌≡◌, ◌∙◌, ◌≤◌, ℕ, zero, suc, Bool, true, false, not, List, [], ◌∷◌, length, Option, Some, None, refl, ap, sym, subst, arith}
use Rattle.std.specs.Prelude.{◌&&◌, ◌||◌, if◌then◌else◌}
use Rattle.std.specs.List.{list_all, list_any}
use Rattle.std.specs.Option.{option_map_or}
use Rattle.std.proofs.lemmas.Bool.{and_parts, not-true}
use Rattle.std.proofs.lemmas.List.Folds.{list_all-append}
use Rattle.pur_text.specs.Characters.{is_blank, is_space}
use Rattle.pur_modules.specs.declared.kinds.Child.{Child}
use Rattle.pur_modules.specs.declared.kinds.Child.TheVariants.{Text, Elem}
use Rattle.pur_modules.specs.declared.kinds.Content.{Content}
use Rattle.pur_modules.specs.declared.kinds.Doctype.{Doctype}
use Rattle.pur_modules.specs.Contents.{content_held}
use Rattle.pur_modules.specs.Expressions.{Step, expression_of, has_text_letter}
use Rattle.pur_modules.proofs.KindLaws.{each_kind}
use Rattle.pur_models.specs.Languages.{IsInLanguage, IsInWay, IsRun, all_among, first_way, has_letter, later_way, no_step, same_child, step_first}
use Rattle.pur_models.proofs.LetterLemmas.{same_child-Decides}
use Rattle.pur_attrlist.specs.Attributes.{Attribute}
use Rattle.pur_attrlist.proofs.AttributeLaws.{both_false}
use Rattle.pur_tree.specs.Nodes.{Nodes, no_nodes, text_first, elem_first, nodes_append, plain_elem}
use Rattle.pur_tree.specs.Walks.{joined_nodes, text_joined, walk}
use Rattle.pur_tree.specs.Words.{HaveWords, IsWord, word_of}
use Rattle.pur_uri.specs.Uris.{PlainUri}
use Rattle.pur_absolute.specs.Absolute.{absolute_attributes, absolute_element}
use Rattle.pur_absolute.proofs.FewerLemmas.{Fewer, none_fewer, one_stays, one_goes, all-fewer, fewer-parts, fewer-same, fewer-still, length-fewer, same-fewer}
use Rattle.pur_absolute.proofs.StayingLemmas.{gone-needs, needs_uri}

-- the letters that may go: a text becomes one with its neighbour
abbrev may_go : Child → Bool
may_go Text = true
may_go (Elem element) = needs_uri element

abbrev asks_none : ℕ → Bool
asks_none zero = true
asks_none (suc n) = false

-- a step of which any letters may go, or whose letters all stay
abbrev may_lose : Step → Bool
may_lose step = asks_none step.least || not (list_any may_go step.letters)

steps-may_lose : (d : Doctype) (k : Content) → list_all (list_all may_lose) (expression_of d k) ≡ true
steps-may_lose d k = each_kind (λ d k. list_all (list_all may_lose) (expression_of d k)) refl d k

letter-stays : (letters : List Child) (c : Child) → list_any may_go letters ≡ false → has_letter letters c ≡ true → may_go c ≡ false
letter-stays [] c none is = absurd (cc)
letter-stays (d ∷ letters) c none is =
    let parts = both_false (may_go d) (list_any may_go letters) none in go (same_child c d) refl is parts.0 (letter-stays letters c parts.1)
  where
    go : (b : Bool) → same_child c d ≡ b → (b || has_letter letters c) ≡ true → may_go d ≡ false → (has_letter letters c ≡ true → may_go c ≡ false) → may_go c ≡ false
    go true same is here rest = ap may_go ((same_child-Decides c d).0 same) ∙ here
    go false other is here rest = rest is

run-stays : (letters run : List Child) → list_any may_go letters ≡ false → all_among letters run ≡ true → list_any may_go run ≡ false
run-stays letters [] none all = refl
run-stays letters (c ∷ run) none all =
    let parts = and_parts (has_letter letters c) (all_among letters run) all in
    ap (λ b. b || list_any may_go run) (letter-stays letters c none parts.0) ∙ run-stays letters run none parts.1

run-fewer : (step : Step) {run left : List Child} → may_lose step ≡ true → IsRun step run → Fewer may_go run left → IsRun step left
run-fewer step {run} {left} may is fewer = record {
  letters = all-fewer may_go (has_letter step.letters) fewer is.letters;
  least = go step.least refl may;
  most = λ one. let few = is.most one in let short = length-fewer may_go fewer in omega (arith, few, short);
}
  where
    go : (n : ℕ) → step.least ≡ n → (asks_none n || not (list_any may_go step.letters)) ≡ true → step.least ≤ length left
    go zero e may = omega (arith, e)
    go (suc n) e may =
        subst (λ l. step.least ≤ length l) (sym (fewer-same may_go fewer (run-stays step.letters run (not-true _ may) is.letters))) is.least

way-fewer : {steps : List Step} {word left : List Child} → list_all may_lose steps ≡ true → IsInWay steps word → Fewer may_go word left → IsInWay steps left
way-fewer may no_step none_fewer = no_step
way-fewer may (step_first {step} {steps} {run} {rest} is more) fewer =
    let here = and_parts (may_lose step) (list_all may_lose steps) may in
    let parts = fewer-parts may_go run rest fewer in
    subst (IsInWay (step ∷ steps)) (sym parts.joined) (step_first (run-fewer step here.0 is parts.of_first) (way-fewer here.1 more parts.of_second))

expression-fewer : {ways : List (List Step)} {word left : List Child} → list_all (list_all may_lose) ways ≡ true → IsInLanguage ways word → Fewer may_go word left
    → IsInLanguage ways left
expression-fewer may (first_way {way} {ways} is) fewer = first_way (way-fewer (and_parts (list_all may_lose way) (list_all (list_all may_lose) ways) may).0 is fewer)
expression-fewer may (later_way {way} {ways} is) fewer =
    later_way (expression-fewer (and_parts (list_all may_lose way) (list_all (list_all may_lose) ways) may).1 is fewer)

-- ---- texts that become one

-- the word of a text before others, where text is a letter or isn't, and the text is blank or isn't
abbrev before : Bool → Bool → List Child → List Child
before texts blank word = if not texts && blank then word else Text ∷ word

before-fewer : (texts blank : Bool) {word left : List Child} → Fewer may_go word left → Fewer may_go (before texts blank word) (before texts blank left)
before-fewer true blank is = one_stays is
before-fewer false true is = is
before-fewer false false is = one_stays is

two-fewer : (texts a b : Bool) (word : List Child) → Fewer may_go (before texts a (before texts b word)) (before texts (a && b) word)
two-fewer true a b word = one_goes refl (same-fewer may_go (Text ∷ word))
two-fewer false true true word = same-fewer may_go word
two-fewer false true false word = same-fewer may_go (Text ∷ word)
two-fewer false false true word = same-fewer may_go (Text ∷ word)
two-fewer false false false word = one_goes refl (same-fewer may_go (Text ∷ word))

text_joined-fewer : (texts : Bool) (s : List ℕ) (f : Nodes) → Fewer may_go (before texts (is_blank s) (word_of texts f)) (word_of texts (text_joined s f))
text_joined-fewer texts s no_nodes = same-fewer may_go (before texts (is_blank s) [])
text_joined-fewer texts s (text_first t f) =
    subst (λ b. Fewer may_go (before texts (is_blank s) (before texts (is_blank t) (word_of texts f))) (before texts b (word_of texts f)))
    (sym (list_all-append is_space s t)) (two-fewer texts (is_blank s) (is_blank t) (word_of texts f))
text_joined-fewer texts s (elem_first e kids f) = same-fewer may_go (before texts (is_blank s) (Elem e.name ∷ word_of texts f))

joined-fewer : (texts : Bool) (f : Nodes) → Fewer may_go (word_of texts f) (word_of texts (joined_nodes f))
joined-fewer texts no_nodes = none_fewer
joined-fewer texts (text_first s f) =
    fewer-still may_go (before-fewer texts (is_blank s) (joined-fewer texts f)) (text_joined-fewer texts s (joined_nodes f))
joined-fewer texts (elem_first e kids f) = one_stays (joined-fewer texts f)

module _ (d : Doctype) where
  word-joined : (k : Content) (f : Nodes) → IsWord d k f → IsWord d k (joined_nodes f)
  word-joined k f is = expression-fewer (steps-may_lose d k) is (joined-fewer (has_text_letter d k) f)

  words-text_joined : (k : Content) (s : List ℕ) (f : Nodes) → HaveWords d k f → HaveWords d k (text_joined s f)
  words-text_joined k s no_nodes have = tt
  words-text_joined k s (text_first t f) have = have
  words-text_joined k s (elem_first e kids f) have = have

  words-joined : (k : Content) (f : Nodes) → HaveWords d k f → HaveWords d k (joined_nodes f)
  words-joined k no_nodes have = tt
  words-joined k (text_first s f) have = words-text_joined k s (joined_nodes f) (words-joined k f have)
  words-joined k (elem_first e kids f) have =
      let held = content_held d e.name k in
      (word-joined held kids have.0, words-joined held kids have.1, words-joined k f have.2)

  -- ---- nodes whose URIs become absolute

  module _ (allows : PlainUri → Bool) (base : PlainUri) where
    walk-fewer : (texts : Bool) (f : Nodes) → Fewer may_go (word_of texts f) (word_of texts (walk (absolute_element allows base) f))
    walk-fewer texts no_nodes = none_fewer
    walk-fewer texts (text_first s f) = before-fewer texts (is_blank s) (walk-fewer texts f)
    walk-fewer texts (elem_first e kids f) = go (absolute_attributes allows base e.name e.attrs) refl (walk-fewer texts f)
      where
        below : Nodes
        below = walk (absolute_element allows base) kids

        behind : Nodes
        behind = walk (absolute_element allows base) f

        go : (o : Option (List Attribute)) → absolute_attributes allows base e.name e.attrs ≡ o → Fewer may_go (word_of texts f) (word_of texts behind)
            → Fewer may_go (Elem e.name ∷ word_of texts f)
            (word_of texts (nodes_append (option_map_or (λ attrs. elem_first (plain_elem e.name attrs) below no_nodes) o no_nodes) behind))
        go None gone rest = one_goes (gone-needs allows base e.name e.attrs gone) rest
        go (Some attrs) is rest = one_stays rest

    word-walk : (k : Content) (f : Nodes) → IsWord d k f → IsWord d k (walk (absolute_element allows base) f)
    word-walk k f is = expression-fewer (steps-may_lose d k) is (walk-fewer (has_text_letter d k) f)

    words-walk : (k : Content) (f : Nodes) → HaveWords d k f → HaveWords d k (walk (absolute_element allows base) f)
    words-walk k no_nodes have = tt
    words-walk k (text_first s f) have = words-walk k f have
    words-walk k (elem_first e kids f) have =
        let held = content_held d e.name k in
        go (absolute_attributes allows base e.name e.attrs) (word-walk held kids have.0) (words-walk held kids have.1) (words-walk k f have.2)
      where
        below : Nodes
        below = walk (absolute_element allows base) kids

        behind : Nodes
        behind = walk (absolute_element allows base) f

        go : (o : Option (List Attribute)) → IsWord d (content_held d e.name k) below → HaveWords d (content_held d e.name k) below → HaveWords d k behind
            → HaveWords d k (nodes_append (option_map_or (λ attrs. elem_first (plain_elem e.name attrs) below no_nodes) o no_nodes) behind)
        go None word words rest = rest
        go (Some attrs) word words rest = (word, words, rest)

    pub word-absolute : (k : Content) (f : Nodes) → IsWord d k f → IsWord d k (joined_nodes (walk (absolute_element allows base) f))
    word-absolute k f is = word-joined k (walk (absolute_element allows base) f) (word-walk k f is)

    pub words-absolute : (k : Content) (f : Nodes) → HaveWords d k f → HaveWords d k (joined_nodes (walk (absolute_element allows base) f))
    words-absolute k f have = words-joined k (walk (absolute_element allows base) f) (words-walk k f have)
