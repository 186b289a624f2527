-- Where captions and columns stand, captions alone have characters other than white space.
use Rattle.std.proofs.Common.{◌≡◌, ℕ, List, Bool, true, false, not, ◌||◌, refl, ap, ◌∙◌, arith}
use Rattle.pur_text.specs.Characters.{is_space, is_blank}
use Rattle.pur_names.specs.declared.elements.Element.{Element}
use Rattle.pur_names.specs.declared.elements.Element.TheVariants.{Caption, Col, Colgroup}
use Rattle.pur_names.specs.Elements.{same_element}
use Rattle.pur_names.proofs.ElementLaws.{each_element, same_element-Decides}
use Rattle.pur_modules.specs.declared.kinds.Child.TheVariants.{Text, Elem}
use Rattle.pur_modules.specs.declared.kinds.Content.{Content}
use Rattle.pur_modules.specs.declared.kinds.Content.TheVariants.{TableParts, Cols, Nothing}
use Rattle.pur_modules.specs.declared.kinds.Doctype.{Doctype}
use Rattle.pur_modules.specs.Contents.{content_held}
use Rattle.pur_modules.specs.Expressions.{is_letter, has_text_letter, child_letters}
use Rattle.pur_tree.specs.Nodes.{Nodes, no_nodes, text_first, elem_first}
use Rattle.pur_tree.specs.Properties.{Holds, letters}
use Rattle.pur_tree.specs.Walks.{count_in_text}
use Rattle.pur_nesting.specs.declared.roles.Role.{Role}
use Rattle.pur_nesting.specs.declared.roles.Role.TheVariants.{Title, Column, ColumnGroup, Stranger}
use Rattle.pur_nesting.specs.declared.roles.Part.{Part}
use Rattle.pur_nesting.specs.declared.roles.Part.TheVariants.{Captions, Columns, Surplus}
use Rattle.pur_nesting.specs.Parts.{role_of, same_role}
use Rattle.pur_nesting.specs.Tables.{count_in_captions}
use Rattle.pur_nesting.proofs.RoleLemmas.{of_role, may_hold}
use Rattle.pur_nesting.proofs.HoldsLemmas.{Fits}
use Rattle.pur_nesting.proofs.LetterLemmas.{no_text, at_kind, space_in}
use Rattle.pur_nesting.proofs.BlankLemmas.{none_in_space}

nothing_letter : (d : Doctype) (e : Element) → is_letter d Nothing (Elem e) ≡ false
unfolding child_letters
nothing_letter d e = refl

nothing_text : (d : Doctype) → (is_letter d Nothing Text ≡ false) × (is_letter d Cols Text ≡ false)
unfolding has_text_letter
nothing_text d = (refl, refl)

only_columns : (d : Doctype) (e : Element) → is_letter d Cols (Elem e) ≡ true → e ≡ Col
unfolding child_letters
only_columns d e h = go (same_element e Col) refl h
  where
    go : (b : Bool) → same_element e Col ≡ b → (b || false) ≡ true → e ≡ Col
    go true is k = (same_element-Decides e Col).0 is
    go false is k = absurd (cc)

held_columns : (d : Doctype) (k : Content) → (content_held d Col k ≡ Nothing) × (content_held d Colgroup k ≡ Cols)
unfolding content_held
held_columns d k = (refl, refl)

-- a text of white space counts nothing
blank_first : (c : ℕ) (s : List ℕ) (f : Nodes) → is_space c ≡ false → is_blank s ≡ true → count_in_text c (text_first s f) ≡ count_in_text c f
blank_first c s f other blank = omega (arith, none_in_space c s other blank)

count_in_text-nothing : (c : ℕ) (d : Doctype) (f : Nodes) → is_space c ≡ false → Holds (letters d) Nothing f → count_in_text c f ≡ 0
count_in_text-nothing c d no_nodes other h = refl
count_in_text-nothing c d (text_first s f) other h =
    blank_first c s f other (space_in d Nothing s (nothing_text d).0 h.0) ∙ count_in_text-nothing c d f other h.1
count_in_text-nothing c d (elem_first e kids f) other h = let none = nothing_letter d e.name in let some = h.0 in absurd (cc)

count_in_text-col : (c : ℕ) (d : Doctype) (k : Content) (e : Element) (kids : Nodes) → is_space c ≡ false → e ≡ Col
    → Holds (letters d) (content_held d e k) kids → count_in_text c kids ≡ 0
count_in_text-col c d k e kids other named h =
    let held = ap (λ x. content_held d x k) named ∙ (held_columns d k).0 in
    count_in_text-nothing c d kids other (at_kind d (content_held d e k) Nothing kids held h)

count_in_text-cols : (c : ℕ) (d : Doctype) (f : Nodes) → is_space c ≡ false → Holds (letters d) Cols f → count_in_text c f ≡ 0
count_in_text-cols c d no_nodes other h = refl
count_in_text-cols c d (text_first s f) other h =
    blank_first c s f other (space_in d Cols s (nothing_text d).1 h.0) ∙ count_in_text-cols c d f other h.1
count_in_text-cols c d (elem_first e kids f) other h =
    omega (arith, count_in_text-col c d Cols e.name kids other (only_columns d e.name h.0) h.1, count_in_text-cols c d f other h.2)

count_in_text-colgroup : (c : ℕ) (d : Doctype) (k : Content) (e : Element) (kids : Nodes) → is_space c ≡ false → e ≡ Colgroup
    → Holds (letters d) (content_held d e k) kids → count_in_text c kids ≡ 0
count_in_text-colgroup c d k e kids other named h =
    let held = ap (λ x. content_held d x k) named ∙ (held_columns d k).1 in
    count_in_text-cols c d kids other (at_kind d (content_held d e k) Cols kids held h)

-- no stranger is a letter of a table
strangers_are_none : (d : Doctype) (e : Element) → (not (is_letter d TableParts (Elem e)) || not (same_role (role_of e) Stranger)) ≡ true
unfolding child_letters
strangers_are_none d = each_element (λ e. not (is_letter d TableParts (Elem e)) || not (same_role (role_of e) Stranger)) refl

no_stranger : (d : Doctype) (e : Element) → is_letter d TableParts (Elem e) ≡ true → role_of e ≡ Stranger → ⊥
no_stranger d e l r =
    let k : (not true || not (same_role Stranger Stranger)) ≡ true = rw (l, r) at (strangers_are_none d e) in absurd (cc)

-- what is no head, foot, body or row
abbrev pub is_beside : Role → Bool
is_beside Title = true
is_beside Column = true
is_beside ColumnGroup = true
is_beside Stranger = true
is_beside r = false

abbrev pub Beside : Nodes → Type 0
Beside no_nodes = Unit {0}
Beside (text_first s f) = Beside f
Beside (elem_first e kids f) = (is_beside (role_of e.name) ≡ true) × Beside f

abbrev pub is_side : Part → Bool
is_side Captions = true
is_side Columns = true
is_side Surplus = true
is_side w = false

side_role : (w : Part) (r : Role) → is_side w ≡ true → may_hold w r ≡ true → is_beside r ≡ true
side_role Captions Title h k = refl
side_role Captions r h k = absurd (cc)
side_role Columns Column h k = refl
side_role Columns ColumnGroup h k = refl
side_role Columns r h k = absurd (cc)
side_role Surplus Title h k = refl
side_role Surplus Column h k = refl
side_role Surplus ColumnGroup h k = refl
side_role Surplus Stranger h k = refl
side_role Surplus r h k = absurd (cc)
side_role w r h k = absurd (cc)

pub Beside-side : (w : Part) (f : Nodes) → is_side w ≡ true → Fits w f → Beside f
Beside-side w no_nodes h fits = tt
Beside-side w (text_first s f) h fits = Beside-side w f h fits
Beside-side w (elem_first e kids f) h fits = (side_role w (role_of e.name) h fits.0, Beside-side w f h fits.1)

pub count_in_text-captions : (c : ℕ) (d : Doctype) (f : Nodes) → is_space c ≡ false → Beside f → Holds (letters d) TableParts f
    → count_in_text c f ≡ count_in_captions c f
count_in_text-captions c d no_nodes other w h = refl
count_in_text-captions c d (text_first s f) other w h =
    blank_first c s f other (space_in d TableParts s (no_text d).1 h.0) ∙ count_in_text-captions c d f other w h.1
count_in_text-captions c d (elem_first e kids f) other w h = go (role_of e.name) refl w.0 (count_in_text-captions c d f other w.1 h.2)
  where
    go : (r : Role) → role_of e.name ≡ r → is_beside r ≡ true → count_in_text c f ≡ count_in_captions c f
        → count_in_text c (elem_first e kids f) ≡ count_in_captions c (elem_first e kids f)
    go Title is b r = let named : e.name ≡ Caption = of_role e.name Title is refl in rw named (omega (arith, r))
    go Column is b r =
        let named : e.name ≡ Col = of_role e.name Column is refl in
        let none = count_in_text-col c d TableParts e.name kids other named h.1 in rw named (omega (arith, r, none))
    go ColumnGroup is b r =
        let named : e.name ≡ Colgroup = of_role e.name ColumnGroup is refl in
        let none = count_in_text-colgroup c d TableParts e.name kids other named h.1 in rw named (omega (arith, r, none))
    go Stranger is b r = absurd (no_stranger d e.name h.0 is)
    go role is b r = absurd (cc)

-- columns have no captions
pub count_in_captions-columns : (c : ℕ) (f : Nodes) → Fits Columns f → count_in_captions c f ≡ 0
count_in_captions-columns c no_nodes fits = refl
count_in_captions-columns c (text_first s f) fits = count_in_captions-columns c f fits
count_in_captions-columns c (elem_first e kids f) fits = go (role_of e.name) refl fits.0 (count_in_captions-columns c f fits.1)
  where
    go : (r : Role) → role_of e.name ≡ r → may_hold Columns r ≡ true → count_in_captions c f ≡ 0 → count_in_captions c (elem_first e kids f) ≡ 0
    go Column is k r = rw (of_role e.name Column is refl) (omega (arith, r))
    go ColumnGroup is k r = rw (of_role e.name ColumnGroup is refl) (omega (arith, r))
    go role is k r = absurd (cc)
