-- Repair keeps letters: what the tables of contents say of tables, their parts and rows.
use Rattle.std.proofs.Common.{◌≡◌, ℕ, List, ◌++◌, Bool, true, false, ◌||◌, refl, ap, sym, ◌∙◌, subst}
use Rattle.std.proofs.lemmas.Bool.{and_from}
use Rattle.std.proofs.lemmas.List.Folds.{list_all-append}
use Rattle.pur_laws.proofs.Truth.{or_true, or_false}
use Rattle.pur_text.specs.Characters.{is_space, is_blank}
use Rattle.pur_names.specs.declared.elements.Element.{Element}
use Rattle.pur_names.specs.declared.elements.Element.TheVariants.{Caption, P, Table, Tbody, Tfoot, Thead, Tr}
use Rattle.pur_names.specs.Elements.{same_element}
use Rattle.pur_names.proofs.ElementLaws.{same_element-Decides}
use Rattle.pur_modules.specs.declared.kinds.Child.TheVariants.{Text, Elem}
use Rattle.pur_modules.specs.declared.kinds.Content.{Content}
use Rattle.pur_modules.specs.declared.kinds.Content.TheVariants.{Inline, Flow, Block, FieldsetMix, TableParts, Rows, Cells}
use Rattle.pur_modules.specs.declared.kinds.Doctype.{Doctype}
use Rattle.pur_modules.specs.declared.kinds.Doctype.TheVariants.{Strict, Transitional}
use Rattle.pur_modules.specs.Contents.{content_held}
use Rattle.pur_modules.specs.Expressions.{is_letter, has_text_letter, child_letters}
use Rattle.pur_tree.specs.Nodes.{Nodes, no_nodes, text_first, elem_first}
use Rattle.pur_tree.specs.Properties.{Holds, letters}
use Rattle.pur_tree.specs.Walks.{walk}
use Rattle.pur_tree.proofs.HoldsLemmas.{Holds-walk}
use Rattle.pur_nesting.specs.declared.permits.Permits.{Permits}
use Rattle.pur_nesting.specs.Tables.{as_bodies, run_of_rows, of_one_kind}
use Rattle.pur_nesting.specs.Nesting.{repair, nested}
use Rattle.pur_nesting.specs.Private.Keeping.{StaysInRepair}
use Rattle.pur_nesting.proofs.HoldsLemmas.{Holds-as_bodies, Holds-run_of_rows, Holds-of_one_kind, Holds-repair, Holds-nested}

pub held_table : (d : Doctype) (k : Content) → content_held d Table k ≡ TableParts
unfolding content_held
held_table d k = refl

pub held_rows : (d : Doctype) (k : Content) → (content_held d Thead k ≡ Rows) × (content_held d Tfoot k ≡ Rows) × (content_held d Tbody k ≡ Rows)
unfolding content_held
held_rows d k = (refl, refl, refl)

pub held_inline : (d : Doctype) (k : Content) → (content_held d Caption k ≡ Inline) × (content_held d P k ≡ Inline)
unfolding content_held
held_inline d k = (refl, refl)

pub held_row : (d : Doctype) (k : Content) → content_held d Tr k ≡ Cells
unfolding content_held
held_row d k = refl

body_letter : (d : Doctype) → is_letter d TableParts (Elem Tbody) ≡ true
unfolding child_letters
body_letter d = refl

row_letter : (d : Doctype) → (is_letter d Rows (Elem Tr) ≡ true) × (is_letter d TableParts (Elem Tr) ≡ true)
unfolding child_letters
row_letter d = (refl, refl)

pub only_rows : (d : Doctype) (e : Element) → is_letter d Rows (Elem e) ≡ true → e ≡ Tr
unfolding child_letters
only_rows d e h = go (same_element e Tr) refl h
  where
    go : (b : Bool) → same_element e Tr ≡ b → (b || false) ≡ true → e ≡ Tr
    go true is k = (same_element-Decides e Tr).0 is
    go false is k = absurd (cc)

pub no_text : (d : Doctype) → (is_letter d Rows Text ≡ false) × (is_letter d TableParts Text ≡ false)
unfolding has_text_letter
no_text d = (refl, refl)

-- where a table may stand a paragraph may
paragraph_letter : (d : Doctype) (k : Content) → is_letter d k (Elem Table) ≡ true → is_letter d k (Elem P) ≡ true
unfolding child_letters
paragraph_letter Strict Flow h = refl
paragraph_letter Strict Block h = refl
paragraph_letter Strict FieldsetMix h = refl
paragraph_letter Transitional Flow h = refl
paragraph_letter Transitional Block h = refl
paragraph_letter Transitional FieldsetMix h = refl
paragraph_letter d k h = absurd (cc)

-- at a content kind, and at the same by another name
pub at_kind : (d : Doctype) (k l : Content) (f : Nodes) → k ≡ l → Holds (letters d) k f → Holds (letters d) l f
at_kind d k l f same h = subst (λ x. Holds (letters d) x f) same h

letter_at : (d : Doctype) (k l : Content) (e : Element) → k ≡ l → is_letter d k (Elem e) ≡ true → is_letter d l (Elem e) ≡ true
letter_at d k l e same h = ap (λ x. is_letter d x (Elem e)) (sym same) ∙ h

-- where text is no letter it is white space, and white space may stand anywhere
pub space_in : (d : Doctype) (k : Content) (s : List ℕ) → is_letter d k Text ≡ false → (is_blank s || is_letter d k Text) ≡ true → is_blank s ≡ true
space_in d k s none h = let only : (is_blank s || false) ≡ true = rw none at h in sym (or_false (is_blank s)) ∙ only

space_anywhere : (d : Doctype) (k : Content) (s : List ℕ) → is_blank s ≡ true → (is_blank s || is_letter d k Text) ≡ true
space_anywhere d k s h = rw h refl

-- rows may stand in the table itself
rows_in_table : (d : Doctype) (f : Nodes) → Holds (letters d) Rows f → Holds (letters d) TableParts f
rows_in_table d no_nodes h = tt
rows_in_table d (text_first s f) h = (space_anywhere d TableParts s (space_in d Rows s (no_text d).0 h.0), rows_in_table d f h.1)
rows_in_table d (elem_first e kids f) h =
    let row : e.name ≡ Tr = only_rows d e.name h.0 in (
      ap (λ x. is_letter d TableParts (Elem x)) row ∙ (row_letter d).1,
      at_kind d (content_held d e.name Rows) (content_held d e.name TableParts) kids
          (ap (λ x. content_held d x Rows) row ∙ held_row d Rows ∙ sym (held_row d TableParts) ∙ ap (λ x. content_held d x TableParts) (sym row)) h.1,
      rows_in_table d f h.2,
    )

text_joins : (d : Doctype) (k : Content) (s t : List ℕ) → (is_blank s || is_letter d k Text) ≡ true → (is_blank t || is_letter d k Text) ≡ true
    → (is_blank (s ++ t) || is_letter d k Text) ≡ true
text_joins d k s t h i = go (is_letter d k Text) h i
  where
    go : (b : Bool) → (is_blank s || b) ≡ true → (is_blank t || b) ≡ true → (is_blank (s ++ t) || b) ≡ true
    go true h i = or_true (is_blank (s ++ t))
    go false h i =
        or_false (is_blank (s ++ t)) ∙ list_all-append is_space s t ∙ and_from _ _ (sym (or_false (is_blank s)) ∙ h) (sym (or_false (is_blank t)) ∙ i)

pub letters_stay : (d : Doctype) (p : Permits) → StaysInRepair (letters d) p
letters_stay d p = record {
  joined = λ k s t h i. text_joins d k s t h i;
  paragraph = λ yes k attrs h. paragraph_letter d k h;
  caption = λ k kids h. at_kind d _ _ kids ((held_inline d (content_held d Table k)).0 ∙ sym (held_inline d k).1) h;
  head = λ yes k attrs h. letter_at d TableParts (content_held d Table k) Tbody (sym (held_table d k)) (body_letter d);
  foot = λ yes k attrs h. letter_at d TableParts (content_held d Table k) Tbody (sym (held_table d k)) (body_letter d);
  body = λ k attrs h. h;
  in_head = λ k kids h. at_kind d _ _ kids ((held_rows d (content_held d Table k)).0 ∙ sym (held_rows d (content_held d Table k)).2) h;
  in_foot = λ k kids h. at_kind d _ _ kids ((held_rows d (content_held d Table k)).1 ∙ sym (held_rows d (content_held d Table k)).2) h;
  out_of_head = λ k kids h. let rows = at_kind d _ Rows kids (held_rows d (content_held d Table k)).0 h in
      at_kind d TableParts (content_held d Table k) kids (sym (held_table d k)) (rows_in_table d kids rows);
  out_of_foot = λ k kids h. let rows = at_kind d _ Rows kids (held_rows d (content_held d Table k)).1 h in
      at_kind d TableParts (content_held d Table k) kids (sym (held_table d k)) (rows_in_table d kids rows);
  row = λ k attrs h. letter_at d Rows (content_held d Tbody (content_held d Table k)) Tr (sym (held_rows d (content_held d Table k)).2) (row_letter d).0;
  in_row = λ k kids h. at_kind d _ _ kids (held_row d (content_held d Table k) ∙ sym (held_row d (content_held d Tbody (content_held d Table k)))) h;
  beside_rows = λ k s h.
      space_anywhere d (content_held d Tbody (content_held d Table k)) s
      (space_in d (content_held d Table k) s (ap (λ x. is_letter d x Text) (held_table d k) ∙ (no_text d).1) h);
}

-- letters through the repair of each element
pub letters_walk : (d : Doctype) (p : Permits) (k : Content) (f : Nodes) → Holds (letters d) k f → Holds (letters d) k (walk (repair p) f)
letters_walk d p k f h = Holds-walk (letters d) (repair p) (Holds-repair (letters d) p (letters_stay d p)) k f h

pub letters_nested : (d : Doctype) (p : Permits) (k : Content) (f : Nodes) → Holds (letters d) k f → Holds (letters d) k (nested p f)
letters_nested d p k f h = Holds-nested (letters d) p (letters_stay d p) k f h

-- letters of a table's bodies, in a table below some content
letters_below : (d : Doctype) (f : Nodes) → Holds (letters d) TableParts f → Holds (letters d) (content_held d Table Flow) f
letters_below d f l = at_kind d TableParts (content_held d Table Flow) f (sym (held_table d Flow)) l

pub letters_of_bodies : (d : Doctype) (p : Permits) (f : Nodes) → Holds (letters d) TableParts f → Holds (letters d) TableParts (as_bodies p.tbody f)
letters_of_bodies d p f l =
    at_kind d (content_held d Table Flow) TableParts (as_bodies p.tbody f) (held_table d Flow)
    (Holds-as_bodies (letters d) p (letters_stay d p) Flow f (letters_below d f l))

pub letters_of_one_kind : (d : Doctype) (p : Permits) (f : Nodes) → Holds (letters d) TableParts f → Holds (letters d) TableParts (of_one_kind f)
letters_of_one_kind d p f l =
    at_kind d (content_held d Table Flow) TableParts (of_one_kind f) (held_table d Flow)
    (Holds-of_one_kind (letters d) p (letters_stay d p) Flow f (letters_below d f l))

pub letters_of_run : (d : Doctype) (p : Permits) (f : Nodes) → Holds (letters d) TableParts f → Holds (letters d) Rows (run_of_rows f)
letters_of_run d p f l =
    at_kind d (content_held d Tbody (content_held d Table Flow)) Rows (run_of_rows f) (held_rows d (content_held d Table Flow)).2
    (Holds-run_of_rows (letters d) p (letters_stay d p) Flow f (letters_below d f l))
