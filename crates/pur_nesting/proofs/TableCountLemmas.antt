-- A repaired table and what is lost in it have each character of the table that isn't white space.
use Rattle.std.proofs.Common.{◌≡◌, ℕ, ◌+◌, Bool, true, false, not, ◌&&◌, refl, arith}
use Rattle.std.specs.Prelude.{if◌then◌else◌}
use Rattle.pur_text.specs.Characters.{is_space}
use Rattle.pur_modules.specs.declared.kinds.Content.TheVariants.{TableParts, Rows}
use Rattle.pur_modules.specs.declared.kinds.Doctype.{Doctype}
use Rattle.pur_modules.specs.Contents.{content_held}
use Rattle.pur_tree.specs.Nodes.{PlainElem, Nodes, no_nodes, text_first, elem_first, has_no_nodes}
use Rattle.pur_tree.specs.Properties.{Holds, letters}
use Rattle.pur_tree.specs.Walks.{count_in_text}
use Rattle.pur_tree.proofs.WalkLemmas.{count_in_text-append}
use Rattle.pur_nesting.specs.declared.permits.Permits.{Permits}
use Rattle.pur_nesting.specs.declared.roles.Part.{Part}
use Rattle.pur_nesting.specs.declared.roles.Part.TheVariants.{Lead, Captions, Columns, Heads, Feet, Bodies, Surplus}
use Rattle.pur_nesting.specs.Parts.{at_first}
use Rattle.pur_nesting.specs.Tables.{are_blank, from_first_element, as_body, as_bodies, without_bodies, parts_of, repaired_table, count_in_captions, lost_in_table}
use Rattle.pur_nesting.proofs.HoldsLemmas.{Fits-part, Holds-part}
use Rattle.pur_nesting.proofs.LetterLemmas.{no_text, at_kind}
use Rattle.pur_nesting.proofs.OneLemmas.{AtMostOne, AtMostOne-part}
use Rattle.pur_nesting.proofs.BlankLemmas.{Blank, Blank-letters, NoElems-lead, none_in_space, count_in_text-NoElems}
use Rattle.pur_nesting.proofs.PartCountLemmas.{count_in_parts, parts_have_all, Sums, count_in_text-table}
use Rattle.pur_nesting.proofs.CaptionLemmas.{count_in_text-captions, is_side, Beside, Beside-side, count_in_captions-columns}
use Rattle.pur_nesting.proofs.TableLemmas.{each_table, each_body}

count_in_text-from_first_element : (c : ℕ) (f : Nodes) → is_space c ≡ false → Blank f → count_in_text c (from_first_element f) ≡ count_in_text c f
count_in_text-from_first_element c no_nodes other b = refl
count_in_text-from_first_element c (text_first s f) other b = omega (arith, none_in_space c s other b.0, count_in_text-from_first_element c f other b.1)
count_in_text-from_first_element c (elem_first e kids f) other b = refl

-- bodies keep what they have
count_in_text-as_body : (c : ℕ) (d : Doctype) (tbody : Bool) (e : PlainElem) (kids : Nodes) → is_space c ≡ false
    → Holds (letters d) (content_held d e.name TableParts) kids → count_in_text c (as_body tbody e kids) ≡ count_in_text c kids
count_in_text-as_body c d tbody e kids other h =
    each_body (λ body. count_in_text c body ≡ count_in_text c kids) d tbody e kids (λ rows. omega arith) (
    λ rows. let l = at_kind d (content_held d e.name TableParts) Rows kids rows h in
    count_in_text-from_first_element c kids other (Blank-letters d Rows kids (no_text d).0 l)
    ) (λ stays. omega arith)

count_in_text-as_bodies : (c : ℕ) (d : Doctype) (tbody : Bool) (f : Nodes) → is_space c ≡ false → Holds (letters d) TableParts f
    → count_in_text c (as_bodies tbody f) ≡ count_in_text c f
count_in_text-as_bodies c d tbody no_nodes other h = refl
count_in_text-as_bodies c d tbody (text_first s f) other h = omega (arith, count_in_text-as_bodies c d tbody f other h.1)
count_in_text-as_bodies c d tbody (elem_first e kids f) other h =
    omega (
      arith,
      count_in_text-append c (as_body tbody e kids) (as_bodies tbody f),
      count_in_text-as_body c d tbody e kids other h.1,
      count_in_text-as_bodies c d tbody f other h.2,
    )

-- where there are no bodies the caption's characters stand in the paragraph, or are lost
abbrev CaptionCounts : ℕ → Bool → Nodes → Type 0
CaptionCounts c paragraph f =
    count_in_text c (without_bodies paragraph f) + (if has_no_nodes (without_bodies paragraph f) then count_in_captions c f else 0) ≡ count_in_text c f

count_in_text-without_bodies : (c : ℕ) (d : Doctype) (paragraph : Bool) (f : Nodes) → is_space c ≡ false → AtMostOne f → Beside f
    → Holds (letters d) TableParts f → CaptionCounts c paragraph f
count_in_text-without_bodies c d paragraph no_nodes other one beside h = refl
count_in_text-without_bodies c d paragraph (text_first s f) other one beside h =
    let r = count_in_text-captions c d (text_first s f) other beside h in omega (arith, r)
count_in_text-without_bodies c d paragraph (elem_first e kids f) other one beside h = go (paragraph && not (are_blank kids)) refl
  where
    behind : count_in_text c f ≡ 0
    behind = count_in_text-NoElems c f other (Blank-letters d TableParts f (no_text d).1 h.2) one

    captions : count_in_text c (elem_first e kids f) ≡ count_in_captions c (elem_first e kids f)
    captions = count_in_text-captions c d (elem_first e kids f) other beside h

    go : (b : Bool) → (paragraph && not (are_blank kids)) ≡ b → CaptionCounts c paragraph (elem_first e kids f)
    go true is = rw is (omega (arith, behind))
    go false is = rw is (omega (arith, captions))

none_of : (c : ℕ) (f : Nodes) → has_no_nodes f ≡ true → count_in_text c f ≡ 0
none_of c no_nodes h = refl
none_of c (text_first s f) h = absurd (cc)
none_of c (elem_first e kids f) h = absurd (cc)

pub count_in_text-repaired_table : (c : ℕ) (d : Doctype) (p : Permits) (e : PlainElem) (kids : Nodes) → is_space c ≡ false
    → Holds (letters d) TableParts kids → count_in_text c (repaired_table p e kids) + lost_in_table c p kids ≡ count_in_text c kids
count_in_text-repaired_table c d p e kids other h =
    each_table (λ f. count_in_text c f + lost_in_table c p kids ≡ count_in_text c kids) p e parts
    (λ x. let m = made (parts Heads) (parts Feet) (as_bodies p.tbody (parts Bodies)) in rw x (omega (arith, m, bodies Bodies, surplus, all)))
    (λ x y. let m = made (parts Heads) no_nodes (as_bodies p.tbody (parts Feet)) in rw (x, y) (omega (arith, m, bodies Feet, surplus, none Bodies x, all)))
    (λ x y z. let m = made no_nodes no_nodes (as_bodies p.tbody (parts Heads)) in rw (x, y, z) (omega (arith, m, bodies Heads, surplus, none Bodies x, none Feet y, all)))
    (λ x y z. rw (x, y, z) (omega (arith, caption, surplus, none Bodies x, none Feet y, none Heads z, lead, columns, no_captions, all)))
  where
    parts : Part → Nodes
    parts = parts_of kids

    holds : (w : Part) → Holds (letters d) TableParts (parts_of kids w)
    holds w = Holds-part (letters d) TableParts w at_first kids h

    beside : (w : Part) → is_side w ≡ true → Beside (parts_of kids w)
    beside w s = Beside-side w (parts_of kids w) s (Fits-part w at_first kids)

    none : (w : Part) → has_no_nodes (parts_of kids w) ≡ true → count_in_text c (parts_of kids w) ≡ 0
    none w = none_of c (parts_of kids w)

    bodies : (w : Part) → count_in_text c (as_bodies p.tbody (parts_of kids w)) ≡ count_in_text c (parts_of kids w)
    bodies w = count_in_text-as_bodies c d p.tbody (parts_of kids w) other (holds w)

    side : (w : Part) → is_side w ≡ true → count_in_text c (parts_of kids w) ≡ count_in_captions c (parts_of kids w)
    side w s = count_in_text-captions c d (parts_of kids w) other (beside w s) (holds w)

    surplus : count_in_text c (parts_of kids Surplus) ≡ count_in_captions c (parts_of kids Surplus)
    surplus = side Surplus refl

    columns : count_in_text c (parts_of kids Columns) ≡ count_in_captions c (parts_of kids Columns)
    columns = side Columns refl

    no_captions : count_in_captions c (parts_of kids Columns) ≡ 0
    no_captions = count_in_captions-columns c (parts_of kids Columns) (Fits-part Columns at_first kids)

    lead : count_in_text c (parts_of kids Lead) ≡ 0
    lead = count_in_text-NoElems c (parts_of kids Lead) other (Blank-letters d TableParts (parts_of kids Lead) (no_text d).1 (holds Lead))
        (NoElems-lead (parts_of kids Lead) (Fits-part Lead at_first kids))

    caption : CaptionCounts c p.paragraph (parts_of kids Captions)
    caption = count_in_text-without_bodies c d p.paragraph (parts_of kids Captions) other (AtMostOne-part Captions at_first kids refl) (beside Captions refl) (holds Captions)

    made : (heads feet bodies : Nodes) → Sums c e (parts_of kids Lead) (parts_of kids Captions) (parts_of kids Columns) heads feet bodies
    made = count_in_text-table c e (parts_of kids Lead) (parts_of kids Captions) (parts_of kids Columns)

    all : count_in_parts c (parts_of kids) ≡ count_in_text c kids
    all = parts_have_all c at_first kids
