-- Nodes whose words are in their languages, and in which no texts are neighbours, are settled; so is what repair leaves.
use Rattle.std.proofs.Common.{◌≡◌, [], ◌∷◌, Bool, true, false, not, ◌&&◌, refl, ap, ◌∙◌, subst}
use Rattle.std.specs.Prelude.{if◌then◌else◌}
use Rattle.std.specs.List.{list_all}
use Rattle.std.proofs.lemmas.Bool.{and_parts, not-true}
use Rattle.pur_laws.proofs.Truth.{or_true}
use Rattle.pur_text.specs.Characters.{is_blank}
use Rattle.pur_names.specs.declared.elements.Element.{Element}
use Rattle.pur_names.specs.declared.elements.Element.TheVariants.{Table}
use Rattle.pur_names.proofs.ElementLaws.{same_element-Decides}
use Rattle.pur_modules.specs.declared.kinds.Child.TheVariants.{Text, Elem}
use Rattle.pur_modules.specs.declared.kinds.Content.{Content}
use Rattle.pur_modules.specs.declared.kinds.Content.TheVariants.{TableParts}
use Rattle.pur_modules.specs.declared.kinds.Doctype.{Doctype}
use Rattle.pur_modules.specs.Contents.{content_held}
use Rattle.pur_modules.specs.Expressions.{is_letter, has_text_letter}
use Rattle.pur_models.specs.Languages.{Language}
use Rattle.pur_models.proofs.WordLemmas.{words_are_allowed, empty_if, parts_of_table}
use Rattle.pur_tree.specs.Nodes.{Nodes, no_nodes, text_first, elem_first, starts_with_text, is_joined}
use Rattle.pur_tree.specs.Properties.{Holds, letters}
use Rattle.pur_tree.specs.Walks.{walk}
use Rattle.pur_tree.specs.Words.{word_of, IsWord, HaveWords}
use Rattle.pur_tree.proofs.WalkLemmas.{is_joined-joined_nodes}
use Rattle.pur_nesting.specs.declared.permits.Permits.{Permits}
use Rattle.pur_nesting.specs.Nesting.{vanishes, repair, nested}
use Rattle.pur_nesting.specs.Repaired.{IsRepairedWord, HaveRepairedWords}
use Rattle.pur_nesting.specs.Settled.{IsSettled}
use Rattle.pur_nesting.proofs.LetterLemmas.{held_table, no_text, letters_nested}
use Rattle.pur_nesting.proofs.BlankLemmas.{word-NoElems}
use Rattle.pur_nesting.proofs.NeededLemmas.{vanished}
use Rattle.pur_nesting.proofs.JoinedWordsLemmas.{HaveWords-nested}
use Rattle.pur_nesting.proofs.SettledLemmas.{settled_same}

-- an element whose children are a word of what it holds, if repair makes words of that, doesn't vanish
stays_there : (d : Doctype) (k : Content) (e : Element) (kids : Nodes) → Holds (letters d) (content_held d e k) kids
    → IsRepairedWord d (content_held d e k) kids → vanishes e kids ≡ false
stays_there d k e kids l w = go (vanishes e kids) refl
  where
    go : (b : Bool) → vanishes e kids ≡ b → b ≡ false
    go false is = refl
    go true is =
        let v = vanished d k e kids is l in
        let word : word_of (has_text_letter d (content_held d e k)) kids ≡ [] = rw v.0 (word-NoElems kids v.3 v.4) in
        let empty = empty_if d (content_held d e k) (subst (λ x. Language d (content_held d e k) x) word (w v.2)) in
        let never = v.1 in absurd (cc)

words_settled : (d : Doctype) (k : Content) (f : Nodes) → Holds (letters d) k f → HaveRepairedWords d k f → is_joined f ≡ true → IsSettled f
words_settled d k no_nodes l h j = tt
words_settled d k (text_first t f) l h j =
    let parts = and_parts (not (starts_with_text f)) (is_joined f) j in
    (not-true (starts_with_text f) parts.0, words_settled d k f l.1 h parts.1)
words_settled d k (elem_first e kids f) l h j =
    let parts = and_parts (is_joined kids) (is_joined f) j in (
      stays_there d k e.name kids l.1 h.0,
      λ is. let named : e.name ≡ Table = (same_element-Decides e.name Table).0 is in
          let same : content_held d e.name k ≡ TableParts = ap (λ x. content_held d x k) named ∙ held_table d k in
          let w : IsWord d TableParts kids = subst (λ x. IsRepairedWord d x kids) same h.0 refl in
          parts_of_table d (word_of false kids) (rw (no_text d).1 at w),
      words_settled d (content_held d e.name k) kids l.1 h.1 parts.0,
      words_settled d k f l.2 h.2 parts.1,
    )

-- words have letters of their content alone
letters_of_word : (d : Doctype) (k : Content) (f : Nodes) → list_all (is_letter d k) (word_of (has_text_letter d k) f) ≡ true
    → HaveWords d k f → Holds (letters d) k f
letters_of_word d k no_nodes w h = tt
letters_of_word d k (text_first s f) w h = go (has_text_letter d k) refl (is_blank s) refl w (λ v. letters_of_word d k f v h)
  where
    go : (t : Bool) → has_text_letter d k ≡ t → (b : Bool) → is_blank s ≡ b
        → list_all (is_letter d k) (if not t && b then word_of (has_text_letter d k) f else (Text ∷ word_of (has_text_letter d k) f)) ≡ true
        → (list_all (is_letter d k) (word_of (has_text_letter d k) f) ≡ true → Holds (letters d) k f) → Holds (letters d) k (text_first s f)
    go true te b be v r =
        let parts = and_parts (is_letter d k Text) (list_all (is_letter d k) (word_of (has_text_letter d k) f)) v in
        (rw te (or_true (is_blank s)), r parts.1)
    go false te true be v r = (rw be refl, r v)
    go false te false be v r =
        let parts = and_parts (is_letter d k Text) (list_all (is_letter d k) (word_of (has_text_letter d k) f)) v in
        (rw be parts.0, r parts.1)
letters_of_word d k (elem_first e kids f) w h =
    let parts = and_parts (is_letter d k (Elem e.name)) (list_all (is_letter d k) (word_of (has_text_letter d k) f)) w in
    let held = content_held d e.name k in
    let inner = words_are_allowed d held (word_of (has_text_letter d held) kids) h.0 in
    (parts.0, letters_of_word d held kids inner h.1, letters_of_word d k f parts.1 h.2)

pub valid_letters : (d : Doctype) (k : Content) (f : Nodes) → IsWord d k f → HaveWords d k f → Holds (letters d) k f
valid_letters d k f w h = letters_of_word d k f (words_are_allowed d k (word_of (has_text_letter d k) f) w) h

words_repaired : (d : Doctype) (k : Content) (f : Nodes) → HaveWords d k f → HaveRepairedWords d k f
words_repaired d k no_nodes h = tt
words_repaired d k (text_first s f) h = words_repaired d k f h
words_repaired d k (elem_first e kids f) h = (λ repaired. h.0, words_repaired d (content_held d e.name k) kids h.1, words_repaired d k f h.2)

pub valid_settled : (d : Doctype) (k : Content) (f : Nodes) → IsWord d k f → HaveWords d k f → is_joined f ≡ true → IsSettled f
valid_settled d k f w h j = words_settled d k f (valid_letters d k f w h) (words_repaired d k f h) j

-- what repair leaves is settled, and needs no repair
pub nested_settled : (d : Doctype) (p : Permits) (k : Content) (f : Nodes) → Holds (letters d) k f → IsSettled (nested p f)
nested_settled d p k f l =
    words_settled d k (nested p f) (letters_nested d p k f l) (HaveWords-nested d p k f l) (is_joined-joined_nodes (walk (repair p) f))

pub nested_twice : (d : Doctype) (p : Permits) (k : Content) (f : Nodes) → Holds (letters d) k f → nested p (nested p f) ≡ nested p f
nested_twice d p k f l = settled_same p (nested p f) (nested_settled d p k f l)
