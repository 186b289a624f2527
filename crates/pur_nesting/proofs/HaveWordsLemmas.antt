-- The words that repair makes, through the repair of a table's parts.
use Rattle.std.proofs.Common.{◌≡◌, [], ◌∷◌, Bool, true, false, refl, ap, sym, ◌∙◌, subst, arith}
use Rattle.pur_laws.proofs.Truth.{either}
use Rattle.pur_names.specs.declared.elements.Element.{Element}
use Rattle.pur_names.specs.declared.elements.Element.TheVariants.{Tbody, Tr}
use Rattle.pur_names.specs.Elements.{same_element}
use Rattle.pur_names.proofs.ElementLaws.{same_element-Decides}
use Rattle.pur_modules.specs.declared.kinds.Content.{Content}
use Rattle.pur_modules.specs.declared.kinds.Content.TheVariants.{TableParts, Rows}
use Rattle.pur_modules.specs.declared.kinds.Doctype.{Doctype}
use Rattle.pur_modules.specs.Contents.{content_held}
use Rattle.pur_modules.specs.Expressions.{has_text_letter}
use Rattle.pur_models.proofs.WordLemmas.{some_letters}
use Rattle.pur_tree.specs.Nodes.{PlainElem, Nodes, no_nodes, text_first, elem_first, nodes_append}
use Rattle.pur_tree.specs.Properties.{Holds, letters}
use Rattle.pur_tree.specs.Words.{word_of}
use Rattle.pur_nesting.specs.Repaired.{IsRepairedWord, HaveRepairedWords}
use Rattle.pur_nesting.specs.declared.permits.Permits.{Permits}
use Rattle.pur_nesting.specs.declared.roles.Part.{Part}
use Rattle.pur_nesting.specs.declared.roles.Met.{Met}
use Rattle.pur_nesting.specs.Parts.{role_of, same_part, next, part}
use Rattle.pur_nesting.specs.Tables.{has_child, from_first_element, as_body, as_bodies, run_of_rows, runs_in_bodies, of_one_kind}
use Rattle.pur_nesting.proofs.LetterLemmas.{held_rows, held_row, only_rows, at_kind, letters_of_run}
use Rattle.pur_nesting.proofs.TableLemmas.{each_body}
use Rattle.pur_nesting.proofs.WordLemmas.{letters_word}

pub HaveWords-at : (d : Doctype) (k l : Content) (f : Nodes) → k ≡ l → HaveRepairedWords d k f → HaveRepairedWords d l f
HaveWords-at d k l f same h = subst (λ x. HaveRepairedWords d x f) same h

pub IsWord-at : (d : Doctype) (k l : Content) (f : Nodes) → k ≡ l → IsRepairedWord d k f → IsRepairedWord d l f
IsWord-at d k l f same h = subst (λ x. IsRepairedWord d x f) same h

pub HaveWords-append : (d : Doctype) (k : Content) (f g : Nodes) → HaveRepairedWords d k f → HaveRepairedWords d k g → HaveRepairedWords d k (nodes_append f g)
HaveWords-append d k no_nodes g h i = i
HaveWords-append d k (text_first s f) g h i = HaveWords-append d k f g h i
HaveWords-append d k (elem_first e kids f) g h i = (h.0, h.1, HaveWords-append d k f g h.2 i)

pub HaveWords-part : (d : Doctype) (k : Content) (w : Part) (m : Met) (f : Nodes) → HaveRepairedWords d k f → HaveRepairedWords d k (part w m f)
HaveWords-part d k w m no_nodes h = tt
HaveWords-part d k w m (text_first s f) h =
    let rest = HaveWords-part d k w m f h in either (HaveRepairedWords d k) (same_part w m.part) (text_first s (part w m f)) (part w m f) rest rest
HaveWords-part d k w m (elem_first e kids f) h =
    let n : Met = next m (role_of e.name) in
    let rest = HaveWords-part d k w n f h.2 in
    either (HaveRepairedWords d k) (same_part w n.part) (elem_first e kids (part w n f)) (part w n f) (h.0, h.1, rest) rest

HaveWords-from_first_element : (d : Doctype) (k : Content) (f : Nodes) → HaveRepairedWords d k f → HaveRepairedWords d k (from_first_element f)
HaveWords-from_first_element d k no_nodes h = tt
HaveWords-from_first_element d k (text_first s f) h = HaveWords-from_first_element d k f h
HaveWords-from_first_element d k (elem_first e kids f) h = h

-- a row in the table, and in a body
row_same : (d : Doctype) (e : Element) → e ≡ Tr → content_held d e TableParts ≡ content_held d e Rows
row_same d e row =
    ap (λ x. content_held d x TableParts) row ∙ held_row d TableParts ∙ sym (held_row d Rows) ∙ ap (λ x. content_held d x Rows) (sym row)

HaveWords-rows : (d : Doctype) (f : Nodes) → Holds (letters d) Rows f → HaveRepairedWords d Rows f → HaveRepairedWords d TableParts f
HaveWords-rows d no_nodes l h = tt
HaveWords-rows d (text_first s f) l h = HaveWords-rows d f l.1 h
HaveWords-rows d (elem_first e kids f) l h =
    let same : content_held d e.name Rows ≡ content_held d e.name TableParts = sym (row_same d e.name (only_rows d e.name l.0)) in (
      IsWord-at d (content_held d e.name Rows) (content_held d e.name TableParts) kids same h.0,
      HaveWords-at d (content_held d e.name Rows) (content_held d e.name TableParts) kids same h.1,
      HaveWords-rows d f l.2 h.2,
    )

HaveWords-run_of_rows : (d : Doctype) (f : Nodes) → HaveRepairedWords d TableParts f → HaveRepairedWords d Rows (run_of_rows f)
HaveWords-run_of_rows d no_nodes h = tt
HaveWords-run_of_rows d (text_first s f) h = HaveWords-run_of_rows d f h
HaveWords-run_of_rows d (elem_first e kids f) h = go (same_element e.name Tr) refl (HaveWords-run_of_rows d f h.2)
  where
    go : (b : Bool) → same_element e.name Tr ≡ b → HaveRepairedWords d Rows (run_of_rows f) → HaveRepairedWords d Rows (run_of_rows (elem_first e kids f))
    go true is r =
        let same = row_same d e.name ((same_element-Decides e.name Tr).0 is) in
        rw is (IsWord-at d _ _ kids same h.0, HaveWords-at d _ _ kids same h.1, r)
    go false is r = rw is tt

HaveWords-as_body : (d : Doctype) (tbody : Bool) (e : PlainElem) (kids : Nodes) → Holds (letters d) (content_held d e.name TableParts) kids
    → IsRepairedWord d (content_held d e.name TableParts) kids → HaveRepairedWords d (content_held d e.name TableParts) kids → HaveRepairedWords d TableParts (as_body tbody e kids)
HaveWords-as_body d tbody e kids l w h =
    each_body (HaveRepairedWords d TableParts) d tbody e kids (
    λ rows. let same : content_held d e.name TableParts ≡ content_held d Tbody TableParts = rows ∙ sym (held_rows d TableParts).2 in
    (IsWord-at d _ _ kids same w, HaveWords-at d _ _ kids same h, tt)
    ) (
    λ rows. HaveWords-from_first_element d TableParts kids
    (HaveWords-rows d kids (at_kind d (content_held d e.name TableParts) Rows kids rows l) (HaveWords-at d (content_held d e.name TableParts) Rows kids rows h))
    ) (λ other. (w, h, tt))

pub HaveWords-as_bodies : (d : Doctype) (tbody : Bool) (f : Nodes) → Holds (letters d) TableParts f → HaveRepairedWords d TableParts f
    → HaveRepairedWords d TableParts (as_bodies tbody f)
HaveWords-as_bodies d tbody no_nodes l h = tt
HaveWords-as_bodies d tbody (text_first s f) l h = HaveWords-as_bodies d tbody f l.1 h
HaveWords-as_bodies d tbody (elem_first e kids f) l h =
    HaveWords-append d TableParts (as_body tbody e kids) (as_bodies tbody f)
    (HaveWords-as_body d tbody e kids l.1 h.0 h.1) (HaveWords-as_bodies d tbody f l.2 h.2)

-- a row and the run behind it are a word of a body
run_word : (d : Doctype) (e : PlainElem) (kids f : Nodes) → Holds (letters d) Rows (elem_first e kids f) → IsRepairedWord d Rows (elem_first e kids f)
run_word d e kids f l repaired = some_letters d Rows (word_of (has_text_letter d Rows) (elem_first e kids f)) refl (omega arith) (letters_word d Rows (elem_first e kids f) l)

HaveWords-runs : (d : Doctype) (p : Permits) (in_run : Bool) (f : Nodes) → Holds (letters d) TableParts f → HaveRepairedWords d TableParts f
    → HaveRepairedWords d TableParts (runs_in_bodies in_run f)
HaveWords-runs d p in_run no_nodes l h = tt
HaveWords-runs d p true (text_first s f) l h = HaveWords-runs d p true f l.1 h
HaveWords-runs d p false (text_first s f) l h = HaveWords-runs d p false f l.1 h
HaveWords-runs d p in_run (elem_first e kids f) l h =
    go (same_element e.name Tr) refl in_run (HaveWords-runs d p true f l.2 h.2) (HaveWords-runs d p false f l.2 h.2)
  where
    rows : Rows ≡ content_held d Tbody TableParts
    rows = sym (held_rows d TableParts).2

    run : same_element e.name Tr ≡ true
        → IsRepairedWord d (content_held d Tbody TableParts) (elem_first e kids (run_of_rows f)) × HaveRepairedWords d (content_held d Tbody TableParts) (elem_first e kids (run_of_rows f))
    run is =
        let run_letters : Holds (letters d) Rows (run_of_rows (elem_first e kids f)) = letters_of_run d p (elem_first e kids f) l in
        let run_words : HaveRepairedWords d Rows (run_of_rows (elem_first e kids f)) = HaveWords-run_of_rows d (elem_first e kids f) h in (
          IsWord-at d Rows (content_held d Tbody TableParts) (elem_first e kids (run_of_rows f)) rows (run_word d e kids (run_of_rows f) (rw is at run_letters)),
          HaveWords-at d Rows (content_held d Tbody TableParts) (elem_first e kids (run_of_rows f)) rows (rw is at run_words),
        )

    go : (b : Bool) → same_element e.name Tr ≡ b → (i : Bool) → HaveRepairedWords d TableParts (runs_in_bodies true f) → HaveRepairedWords d TableParts (runs_in_bodies false f)
        → HaveRepairedWords d TableParts (runs_in_bodies i (elem_first e kids f))
    go true is true r s = rw is r
    go true is false r s = let made = run is in rw is (made.0, made.1, r)
    go false is i r s = rw is (h.0, h.1, s)

pub HaveWords-of_one_kind : (d : Doctype) (p : Permits) (f : Nodes) → Holds (letters d) TableParts f → HaveRepairedWords d TableParts f
    → HaveRepairedWords d TableParts (of_one_kind f)
HaveWords-of_one_kind d p f l h = either (HaveRepairedWords d TableParts) (has_child (Tbody ∷ []) f) (runs_in_bodies false f) f (HaveWords-runs d p false f l h) h
