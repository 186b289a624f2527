-- Where a table has bodies it has rows.
use Rattle.std.proofs.Common.{◌≡◌, ◌⊎◌, inl, inr, [], ◌∷◌, Bool, true, false, refl, subst}
use Rattle.pur_laws.proofs.Truth.{either}
use Rattle.pur_names.specs.declared.elements.Element.TheVariants.{Tbody, Tr}
use Rattle.pur_names.specs.Elements.{same_element}
use Rattle.pur_modules.specs.declared.kinds.Content.TheVariants.{TableParts, Rows}
use Rattle.pur_modules.specs.declared.kinds.Doctype.{Doctype}
use Rattle.pur_modules.specs.Contents.{content_held}
use Rattle.pur_modules.specs.Expressions.{has_text_letter}
use Rattle.pur_models.specs.Languages.{Language}
use Rattle.pur_models.specs.Laws.{may_be_empty}
use Rattle.pur_models.proofs.WordLemmas.{empty_if}
use Rattle.pur_tree.specs.Nodes.{PlainElem, bare, Nodes, no_nodes, text_first, elem_first, nodes_append, has_no_nodes}
use Rattle.pur_tree.specs.Properties.{Holds, letters}
use Rattle.pur_tree.specs.Words.{word_of}
use Rattle.pur_nesting.specs.Repaired.{IsRepairedWord, HaveRepairedWords}
use Rattle.pur_nesting.specs.declared.roles.Part.{Part}
use Rattle.pur_nesting.specs.declared.roles.Met.{Met}
use Rattle.pur_nesting.specs.Parts.{role_of, same_part, next, part}
use Rattle.pur_nesting.specs.Tables.{has_child, from_first_element, as_body, as_bodies, run_of_rows, runs_in_bodies, of_one_kind}
use Rattle.pur_nesting.proofs.LetterLemmas.{no_text, at_kind}
use Rattle.pur_nesting.proofs.OneLemmas.{NoElems}
use Rattle.pur_nesting.proofs.BlankLemmas.{Blank-letters, word-NoElems, HasElems, elems_or_none}
use Rattle.pur_nesting.proofs.TableLemmas.{in_part, each_body}

HasElems-append : (f g : Nodes) → HasElems f → HasElems (nodes_append f g)
HasElems-append no_nodes g s = absurd s
HasElems-append (text_first x f) g s = HasElems-append f g s
HasElems-append (elem_first e kids f) g s = tt

HasElems-from_first_element : (f : Nodes) → HasElems f → HasElems (from_first_element f)
HasElems-from_first_element no_nodes s = s
HasElems-from_first_element (text_first x f) s = HasElems-from_first_element f s
HasElems-from_first_element (elem_first e kids f) s = tt

-- rows are never none
HasElems-rows : (d : Doctype) (kids : Nodes) → Holds (letters d) Rows kids → IsRepairedWord d Rows kids → HasElems kids
HasElems-rows d kids h w = go (elems_or_none kids)
  where
    go : HasElems kids ⊎ NoElems kids → HasElems kids
    go (inl some) = some
    go (inr none) =
        let word : word_of (has_text_letter d Rows) kids ≡ [] = rw (no_text d).0 (word-NoElems kids (Blank-letters d Rows kids (no_text d).0 h) none) in
        let empty : may_be_empty Rows ≡ true = empty_if d Rows (subst (λ x. Language d Rows x) word (w refl)) in absurd (cc)

-- it begins with an element
abbrev pub Begins : Nodes → Type 0
Begins no_nodes = ⊥
Begins (text_first s f) = ⊥
Begins (elem_first e kids f) = Unit {0}

pub Begins-part : (w : Part) (m : Met) (f : Nodes) → same_part w m.part ≡ false → has_no_nodes (part w m f) ≡ false → Begins (part w m f)
Begins-part w m no_nodes p h = absurd (cc)
Begins-part w m (text_first s f) p h = rw p (Begins-part w m f p (rw p at h))
Begins-part w m (elem_first e kids f) p h =
    let n : Met = next m (role_of e.name) in
    in_part (λ g. has_no_nodes g ≡ false → Begins g) w n.part (elem_first e kids (part w n f)) (part w n f)
    (λ there k. tt) (λ other k. Begins-part w n f other k) h

HasElems-as_body : (d : Doctype) (tbody : Bool) (e : PlainElem) (kids : Nodes) → Holds (letters d) (content_held d e.name TableParts) kids
    → IsRepairedWord d (content_held d e.name TableParts) kids → HasElems (as_body tbody e kids)
HasElems-as_body d tbody e kids l w =
    each_body HasElems d tbody e kids (λ rows. tt) (
    λ rows. let letters_of_rows = at_kind d (content_held d e.name TableParts) Rows kids rows l in
    let word = subst (λ x. IsRepairedWord d x kids) rows w in
    HasElems-from_first_element kids (HasElems-rows d kids letters_of_rows word)
    ) (λ other. tt)

pub HasElems-as_bodies : (d : Doctype) (tbody : Bool) (f : Nodes) → Begins f → Holds (letters d) TableParts f → HaveRepairedWords d TableParts f
    → HasElems (as_bodies tbody f)
HasElems-as_bodies d tbody no_nodes b h w = absurd b
HasElems-as_bodies d tbody (text_first s f) b h w = absurd b
HasElems-as_bodies d tbody (elem_first e kids f) b h w =
    HasElems-append (as_body tbody e kids) (as_bodies tbody f) (HasElems-as_body d tbody e kids h.1 w.0)

HasElems-runs : (f : Nodes) → HasElems f → HasElems (runs_in_bodies false f)
HasElems-runs no_nodes s = s
HasElems-runs (text_first x f) s = HasElems-runs f s
HasElems-runs (elem_first e kids f) s =
    either HasElems (same_element e.name Tr) (elem_first (bare Tbody) (elem_first e kids (run_of_rows f)) (runs_in_bodies true f))
    (elem_first e kids (runs_in_bodies false f)) tt tt

pub HasElems-of_one_kind : (f : Nodes) → HasElems f → HasElems (of_one_kind f)
HasElems-of_one_kind f s = either HasElems (has_child (Tbody ∷ []) f) (runs_in_bodies false f) f (HasElems-runs f s) s
