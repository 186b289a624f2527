-- After repair the children of each element are a word of what it holds, where repair makes words of that.
use Rattle.std.proofs.Common.{◌≡◌, ℕ, List, ◌∷◌, Bool, true, false, refl, ap, ◌∙◌}
use Rattle.std.proofs.lemmas.Bool.{and_from}
use Rattle.std.proofs.lemmas.List.Folds.{list_all-append}
use Rattle.pur_text.specs.Characters.{is_space, is_blank}
use Rattle.pur_names.specs.declared.elements.Element.TheVariants.{Table}
use Rattle.pur_names.specs.Elements.{same_element}
use Rattle.pur_names.proofs.ElementLaws.{same_element-Decides}
use Rattle.pur_modules.specs.declared.kinds.Child.TheVariants.{Elem}
use Rattle.pur_modules.specs.declared.kinds.Content.{Content}
use Rattle.pur_modules.specs.declared.kinds.Content.TheVariants.{Inline, Flow, Block, AddressMix, TableParts, Cols, TextOnly}
use Rattle.pur_modules.specs.declared.kinds.Doctype.{Doctype}
use Rattle.pur_modules.specs.Contents.{content_held}
use Rattle.pur_modules.specs.Expressions.{has_text_letter}
use Rattle.pur_models.specs.Languages.{Language}
use Rattle.pur_models.specs.Laws.{takes_any_number}
use Rattle.pur_models.proofs.WordLemmas.{any_letters}
use Rattle.pur_tree.specs.Nodes.{PlainElem, Nodes, no_nodes, text_first, elem_first}
use Rattle.pur_tree.specs.Properties.{Holds, letters}
use Rattle.pur_tree.specs.Walks.{walk, text_joined, joined_nodes}
use Rattle.pur_tree.specs.Words.{word_of, IsWord}
use Rattle.pur_tree.proofs.HoldsLemmas.{Holds-joined_nodes}
use Rattle.pur_nesting.specs.declared.permits.Permits.{Permits}
use Rattle.pur_nesting.specs.Nesting.{vanishes, repair, nested}
use Rattle.pur_nesting.specs.Repaired.{is_repaired, IsRepairedWord, HaveRepairedWords}
use Rattle.pur_nesting.proofs.LetterLemmas.{held_table, at_kind, letters_stay, letters_walk}
use Rattle.pur_nesting.proofs.BlankLemmas.{Blank, Blank-letters}
use Rattle.pur_nesting.proofs.WordLemmas.{letters_word, word_of_element}
use Rattle.pur_nesting.proofs.HaveWordsLemmas.{HaveWords-at, HaveWords-append}
use Rattle.pur_nesting.proofs.TableHasWordsLemmas.{HaveWords-repaired_table}

HaveWords-repair : (d : Doctype) (p : Permits) (k : Content) (e : PlainElem) (kids : Nodes) → Holds (letters d) (content_held d e.name k) kids
    → HaveRepairedWords d (content_held d e.name k) kids → HaveRepairedWords d k (repair p e kids)
HaveWords-repair d p k e kids l h = go (same_element e.name Table) refl (vanishes e.name kids) refl
  where
    go : (b : Bool) → same_element e.name Table ≡ b → (v : Bool) → vanishes e.name kids ≡ v → HaveRepairedWords d k (repair p e kids)
    go true is v gone =
        let named : e.name ≡ Table = (same_element-Decides e.name Table).0 is in
        let same : content_held d e.name k ≡ TableParts = ap (λ x. content_held d x k) named ∙ held_table d k in
        let kept = at_kind d (content_held d e.name k) TableParts kids same l in
        rw is (HaveWords-repaired_table d p k e kids named kept (HaveWords-at d (content_held d e.name k) TableParts kids same h))
    go false is true gone = rw (is, gone) tt
    go false is false gone = rw (is, gone) (word_of_element d k e.name kids is gone l, h, tt)

HaveWords-walk : (d : Doctype) (p : Permits) (k : Content) (f : Nodes) → Holds (letters d) k f → HaveRepairedWords d k (walk (repair p) f)
HaveWords-walk d p k no_nodes l = tt
HaveWords-walk d p k (text_first s f) l = HaveWords-walk d p k f l.1
HaveWords-walk d p k (elem_first e kids f) l =
    HaveWords-append d k (repair p e (walk (repair p) kids)) (walk (repair p) f)
    (
    HaveWords-repair d p k e (walk (repair p) kids) (letters_walk d p (content_held d e.name k) kids l.1)
    (HaveWords-walk d p (content_held d e.name k) kids l.1)
    )
    (HaveWords-walk d p k f l.2)

-- joining texts leaves words words
word_of-text_joined : (s : List ℕ) (f : Nodes) → is_blank s ≡ true → Blank f → word_of false (text_joined s f) ≡ word_of false f
word_of-text_joined s no_nodes h b = rw h refl
word_of-text_joined s (text_first t f) h b = rw (list_all-append is_space s t ∙ and_from _ _ h b.0, b.0) refl
word_of-text_joined s (elem_first e kids f) h b = rw h refl

Blank-text_joined : (s : List ℕ) (f : Nodes) → is_blank s ≡ true → Blank f → Blank (text_joined s f)
Blank-text_joined s no_nodes h b = (h, tt)
Blank-text_joined s (text_first t f) h b = (list_all-append is_space s t ∙ and_from _ _ h b.0, b.1)
Blank-text_joined s (elem_first e kids f) h b = (h, b)

Blank-joined_nodes : (f : Nodes) → Blank f → Blank (joined_nodes f)
Blank-joined_nodes no_nodes b = tt
Blank-joined_nodes (text_first s f) b = Blank-text_joined s (joined_nodes f) b.0 (Blank-joined_nodes f b.1)
Blank-joined_nodes (elem_first e kids f) b = Blank-joined_nodes f b

word_of-joined_nodes : (f : Nodes) → Blank f → word_of false (joined_nodes f) ≡ word_of false f
word_of-joined_nodes no_nodes b = refl
word_of-joined_nodes (text_first s f) b = rw b.0 (word_of-text_joined s (joined_nodes f) b.0 (Blank-joined_nodes f b.1) ∙ word_of-joined_nodes f b.1)
word_of-joined_nodes (elem_first e kids f) b = ap (λ w. Elem e.name ∷ w) (word_of-joined_nodes f b)

-- where text is a letter any number of letters is a word, if repair makes words of the kind
text_takes_any : (d : Doctype) (k : Content) → is_repaired k ≡ true → has_text_letter d k ≡ true → takes_any_number k ≡ true
unfolding has_text_letter
text_takes_any d Inline r h = refl
text_takes_any d Flow r h = refl
text_takes_any d Block r h = refl
text_takes_any d AddressMix r h = refl
text_takes_any d Cols r h = refl
text_takes_any d TextOnly r h = refl
text_takes_any d k r h = absurd (cc)

IsWord-joined_nodes : (d : Doctype) (p : Permits) (k : Content) (f : Nodes) → Holds (letters d) k f → IsRepairedWord d k f → IsRepairedWord d k (joined_nodes f)
IsWord-joined_nodes d p k f l w repaired = go (has_text_letter d k) refl
  where
    go : (t : Bool) → has_text_letter d k ≡ t → IsWord d k (joined_nodes f)
    go true is =
        let kept = Holds-joined_nodes (letters d) (letters_stay d p).joined k f l in
        any_letters d k (word_of (has_text_letter d k) (joined_nodes f)) (text_takes_any d k repaired is) (letters_word d k (joined_nodes f) kept)
    go false is = let v : Language d k (word_of false f) = rw is at (w repaired) in rw (is, word_of-joined_nodes f (Blank-letters d k f is l)) v

HaveWords-text_joined : (d : Doctype) (k : Content) (s : List ℕ) (f : Nodes) → HaveRepairedWords d k f → HaveRepairedWords d k (text_joined s f)
HaveWords-text_joined d k s no_nodes h = tt
HaveWords-text_joined d k s (text_first t f) h = h
HaveWords-text_joined d k s (elem_first e kids f) h = h

HaveWords-joined_nodes : (d : Doctype) (p : Permits) (k : Content) (f : Nodes) → Holds (letters d) k f → HaveRepairedWords d k f → HaveRepairedWords d k (joined_nodes f)
HaveWords-joined_nodes d p k no_nodes l h = tt
HaveWords-joined_nodes d p k (text_first s f) l h = HaveWords-text_joined d k s (joined_nodes f) (HaveWords-joined_nodes d p k f l.1 h)
HaveWords-joined_nodes d p k (elem_first e kids f) l h =
    let held = content_held d e.name k in
    (IsWord-joined_nodes d p held kids l.1 h.0, HaveWords-joined_nodes d p held kids l.1 h.1, HaveWords-joined_nodes d p k f l.2 h.2)

-- after repair the children of each element are a word of what it holds, where repair makes words of that
pub HaveWords-nested : (d : Doctype) (p : Permits) (k : Content) (f : Nodes) → Holds (letters d) k f → HaveRepairedWords d k (nested p f)
HaveWords-nested d p k f l =
    HaveWords-joined_nodes d p k (walk (repair p) f) (letters_walk d p k f l) (HaveWords-walk d p k f l)
