-- Properties that hold at every depth, through repair.
use Rattle.std.proofs.Common.{◌≡◌, List, [], ◌∷◌, Bool, true, false, not, ◌&&◌, ◌||◌, refl, sym, subst}
use Rattle.std.specs.Prelude.{if◌then◌else◌}
use Rattle.pur_names.specs.declared.elements.Element.{Element}
use Rattle.pur_names.specs.declared.elements.Element.TheVariants.{Caption, P, Table, Tbody, Tfoot, Thead, Tr}
use Rattle.pur_names.specs.Elements.{same_element}
use Rattle.pur_names.proofs.ElementLaws.{same_element-Decides}
use Rattle.pur_attrlist.specs.Attributes.{Attribute}
use Rattle.pur_tree.specs.Nodes.{PlainElem, plain_elem, bare, Nodes, no_nodes, text_first, elem_first, nodes_append, has_no_nodes}
use Rattle.pur_nesting.specs.declared.permits.Permits.{Permits}
use Rattle.pur_nesting.specs.declared.roles.Role.{Role}
use Rattle.pur_nesting.specs.declared.roles.Role.TheVariants.{Title, Column, ColumnGroup, Header, Footer, Body, Row, Stranger}
use Rattle.pur_nesting.specs.declared.roles.Part.{Part}
use Rattle.pur_nesting.specs.declared.roles.Part.TheVariants.{Lead, Captions, Columns, Heads, Feet, Bodies}
use Rattle.pur_nesting.specs.declared.roles.Met.{Met}
use Rattle.pur_nesting.specs.Parts.{role_of, same_part, next, part, at_first}
use Rattle.pur_tree.specs.Properties.{Property, Holds}
use Rattle.pur_nesting.specs.Tables.{has_child, are_blank, from_first_element, is_head_or_foot, as_body, as_bodies, run_of_rows, runs_in_bodies, of_one_kind, table, paragraph_of, without_bodies, parts_of, repaired_table}
use Rattle.pur_nesting.specs.Nesting.{vanishes, repair, nested}
use Rattle.pur_tree.specs.Walks.{walk}
use Rattle.pur_tree.proofs.HoldsLemmas.{Holds-append, Holds-walk, Holds-joined_nodes}
use Rattle.pur_nesting.specs.Private.Keeping.{StaysInRepair}
use Rattle.pur_nesting.proofs.RoleLemmas.{of_role, may_hold, part_of_role, same_part-true}

-- one or the other
pub Holds-if : (q : Property) (w : q.Where) (b : Bool) (f g : Nodes) → Holds q w f → Holds q w g → Holds q w (if b then f else g)
Holds-if q w true f g h k = h
Holds-if q w false f g h k = k

pub Holds-part : (q : Property) (w : q.Where) (wanted : Part) (m : Met) (f : Nodes) → Holds q w f → Holds q w (part wanted m f)
Holds-part q w wanted m no_nodes h = tt
Holds-part q w wanted m (text_first s f) h =
    let r = Holds-part q w wanted m f h.1 in
    Holds-if q w (same_part wanted m.part) (text_first s (part wanted m f)) (part wanted m f) (h.0, r) r
Holds-part q w wanted m (elem_first e kids f) h =
    let r = Holds-part q w wanted (next m (role_of e.name)) f h.2 in
    Holds-if q w (same_part wanted (next m (role_of e.name)).part) (elem_first e kids (part wanted (next m (role_of e.name)) f)) (part wanted (next m (role_of e.name)) f) (h.0, h.1, r) r

pub Holds-from_first_element : (q : Property) (w : q.Where) (f : Nodes) → Holds q w f → Holds q w (from_first_element f)
Holds-from_first_element q w no_nodes h = tt
Holds-from_first_element q w (text_first s f) h = Holds-from_first_element q w f h.1
Holds-from_first_element q w (elem_first e kids f) h = h

-- an element as a body
Holds-as_body : (q : Property) (p : Permits) → StaysInRepair q p → (w : q.Where) (e : PlainElem) (kids : Nodes)
    → q.elem (q.inside w Table) e → Holds q (q.inside (q.inside w Table) e.name) kids → Holds q (q.inside w Table) (as_body p.tbody e kids)
Holds-as_body q p stays w e kids h k = go (role_of e.name) refl p.tbody refl
  where
    go : (r : Role) → role_of e.name ≡ r → (b : Bool) → p.tbody ≡ b
        → Holds q (q.inside w Table) (if is_head_or_foot r then (if b then elem_first (plain_elem Tbody e.attrs) kids no_nodes else from_first_element kids) else elem_first e kids no_nodes)
    go Header is b tb =
        let named : e.name ≡ Thead = of_role e.name Header is refl in
        let h2 = subst (λ x. q.elem (q.inside w Table) (plain_elem x e.attrs)) named h in
        let k2 = subst (λ x. Holds q (q.inside (q.inside w Table) x) kids) named k in
        kind b tb (λ yes. stays.head yes w e.attrs h2) (stays.in_head w kids k2) (stays.out_of_head w kids k2)
      where
        kind : (b : Bool) → p.tbody ≡ b → (p.tbody ≡ true → q.elem (q.inside w Table) (plain_elem Tbody e.attrs)) → Holds q (q.inside (q.inside w Table) Tbody) kids → Holds q (q.inside w Table) kids
            → Holds q (q.inside w Table) (if b then elem_first (plain_elem Tbody e.attrs) kids no_nodes else from_first_element kids)
        kind true tb body inner outer = (body tb, inner, tt)
        kind false tb body inner outer = Holds-from_first_element q (q.inside w Table) kids outer
    go Footer is b tb =
        let named : e.name ≡ Tfoot = of_role e.name Footer is refl in
        let h2 = subst (λ x. q.elem (q.inside w Table) (plain_elem x e.attrs)) named h in
        let k2 = subst (λ x. Holds q (q.inside (q.inside w Table) x) kids) named k in
        kind b tb (λ yes. stays.foot yes w e.attrs h2) (stays.in_foot w kids k2) (stays.out_of_foot w kids k2)
      where
        kind : (b : Bool) → p.tbody ≡ b → (p.tbody ≡ true → q.elem (q.inside w Table) (plain_elem Tbody e.attrs)) → Holds q (q.inside (q.inside w Table) Tbody) kids → Holds q (q.inside w Table) kids
            → Holds q (q.inside w Table) (if b then elem_first (plain_elem Tbody e.attrs) kids no_nodes else from_first_element kids)
        kind true tb body inner outer = (body tb, inner, tt)
        kind false tb body inner outer = Holds-from_first_element q (q.inside w Table) kids outer
    go Title is b tb = (h, k, tt)
    go Column is b tb = (h, k, tt)
    go ColumnGroup is b tb = (h, k, tt)
    go Body is b tb = (h, k, tt)
    go Row is b tb = (h, k, tt)
    go Stranger is b tb = (h, k, tt)

pub Holds-as_bodies : (q : Property) (p : Permits) → StaysInRepair q p → (w : q.Where) (f : Nodes)
    → Holds q (q.inside w Table) f → Holds q (q.inside w Table) (as_bodies p.tbody f)
Holds-as_bodies q p stays w no_nodes h = tt
Holds-as_bodies q p stays w (text_first s f) h = (h.0, Holds-as_bodies q p stays w f h.1)
Holds-as_bodies q p stays w (elem_first e kids f) h =
    Holds-append q (q.inside w Table) (as_body p.tbody e kids) (as_bodies p.tbody f) (Holds-as_body q p stays w e kids h.0 h.1) (Holds-as_bodies q p stays w f h.2)

-- a row of a table in a body
row_kept : (q : Property) (p : Permits) → StaysInRepair q p → (w : q.Where) (e : PlainElem) (kids : Nodes) → same_element e.name Tr ≡ true
    → q.elem (q.inside w Table) e → Holds q (q.inside (q.inside w Table) e.name) kids
    → q.elem (q.inside (q.inside w Table) Tbody) e × Holds q (q.inside (q.inside (q.inside w Table) Tbody) e.name) kids
row_kept q p stays w e kids is h k =
    let named : Tr ≡ e.name = sym ((same_element-Decides e.name Tr).0 is) in
    subst (λ x. q.elem (q.inside w Table) (plain_elem x e.attrs) → Holds q (q.inside (q.inside w Table) x) kids → q.elem (q.inside (q.inside w Table) Tbody) (plain_elem x e.attrs) × Holds q (q.inside (q.inside (q.inside w Table) Tbody) x) kids)
    named (λ h k. (stays.row w e.attrs h, stays.in_row w kids k)) h k

pub Holds-run_of_rows : (q : Property) (p : Permits) → StaysInRepair q p → (w : q.Where) (f : Nodes)
    → Holds q (q.inside w Table) f → Holds q (q.inside (q.inside w Table) Tbody) (run_of_rows f)
Holds-run_of_rows q p stays w no_nodes h = tt
Holds-run_of_rows q p stays w (text_first s f) h = (stays.beside_rows w s h.0, Holds-run_of_rows q p stays w f h.1)
Holds-run_of_rows q p stays w (elem_first e kids f) h = go (same_element e.name Tr) refl (Holds-run_of_rows q p stays w f h.2)
  where
    go : (b : Bool) → same_element e.name Tr ≡ b → Holds q (q.inside (q.inside w Table) Tbody) (run_of_rows f)
        → Holds q (q.inside (q.inside w Table) Tbody) (if b then elem_first e kids (run_of_rows f) else no_nodes)
    go true is r = let k = row_kept q p stays w e kids is h.0 h.1 in (k.0, k.1, r)
    go false is r = tt

Holds-runs_in_bodies : (q : Property) (p : Permits) → StaysInRepair q p → (w : q.Where) → q.elem (q.inside w Table) (bare Tbody) → (in_run : Bool) (f : Nodes)
    → Holds q (q.inside w Table) f → Holds q (q.inside w Table) (runs_in_bodies in_run f)
Holds-runs_in_bodies q p stays w body in_run no_nodes h = tt
Holds-runs_in_bodies q p stays w body true (text_first s f) h = Holds-runs_in_bodies q p stays w body true f h.1
Holds-runs_in_bodies q p stays w body false (text_first s f) h = (h.0, Holds-runs_in_bodies q p stays w body false f h.1)
Holds-runs_in_bodies q p stays w body in_run (elem_first e kids f) h =
    go (same_element e.name Tr) refl in_run (Holds-runs_in_bodies q p stays w body true f h.2) (Holds-runs_in_bodies q p stays w body false f h.2) (Holds-run_of_rows q p stays w f h.2)
  where
    go : (b : Bool) → same_element e.name Tr ≡ b → (i : Bool) → Holds q (q.inside w Table) (runs_in_bodies true f) → Holds q (q.inside w Table) (runs_in_bodies false f)
        → Holds q (q.inside (q.inside w Table) Tbody) (run_of_rows f)
        → Holds q (q.inside w Table) (if b then (if i then runs_in_bodies true f else elem_first (bare Tbody) (elem_first e kids (run_of_rows f)) (runs_in_bodies true f)) else elem_first e kids (runs_in_bodies false f))
    go true is true r s run = r
    go true is false r s run = let k = row_kept q p stays w e kids is h.0 h.1 in (body, (k.0, k.1, run), r)
    go false is i r s run = (h.0, h.1, s)

-- what is asked of a new body where there is a body
body_there : (q : Property) (p : Permits) → StaysInRepair q p → (w : q.Where) (f : Nodes) → has_child (Tbody ∷ []) f ≡ true
    → Holds q (q.inside w Table) f → q.elem (q.inside w Table) (bare Tbody)
body_there q p stays w no_nodes is h = absurd (cc)
body_there q p stays w (text_first s f) is h = body_there q p stays w f is h.1
body_there q p stays w (elem_first e kids f) is h = go (same_element e.name Tbody) refl is (λ k. body_there q p stays w f k h.2)
  where
    go : (b : Bool) → same_element e.name Tbody ≡ b → ((b || false) || has_child (Tbody ∷ []) f) ≡ true
        → (has_child (Tbody ∷ []) f ≡ true → q.elem (q.inside w Table) (bare Tbody)) → q.elem (q.inside w Table) (bare Tbody)
    go true same k r = stays.body w e.attrs (subst (λ x. q.elem (q.inside w Table) (plain_elem x e.attrs)) ((same_element-Decides e.name Tbody).0 same) h.0)
    go false same k r = r k

pub Holds-of_one_kind : (q : Property) (p : Permits) → StaysInRepair q p → (w : q.Where) (f : Nodes)
    → Holds q (q.inside w Table) f → Holds q (q.inside w Table) (of_one_kind f)
Holds-of_one_kind q p stays w f h = go (has_child (Tbody ∷ []) f) refl
  where
    go : (b : Bool) → has_child (Tbody ∷ []) f ≡ b → Holds q (q.inside w Table) (if b then runs_in_bodies false f else f)
    go true is = Holds-runs_in_bodies q p stays w (body_there q p stays w f is h) false f h
    go false is = h

-- a table of parts
Holds-table : (q : Property) (p : Permits) → StaysInRepair q p → (w : q.Where) (e : PlainElem) (lead captions columns heads feet bodies : Nodes) → q.elem w e → e.name ≡ Table
    → Holds q (q.inside w Table) lead → Holds q (q.inside w Table) captions → Holds q (q.inside w Table) columns → Holds q (q.inside w Table) heads
    → Holds q (q.inside w Table) feet → Holds q (q.inside w Table) bodies → Holds q w (table e lead captions columns heads feet bodies)
Holds-table q p stays w e lead captions columns heads feet bodies h named hl hc ho hh hf hb =
    let t = q.inside w Table in
    let kids = Holds-append q t lead _ hl (Holds-append q t captions _ hc (Holds-append q t columns _ ho (Holds-append q t heads _ hh (Holds-append q t feet _ hf (Holds-of_one_kind q p stays w bodies hb))))) in
    (h, subst (λ x. Holds q (q.inside w x) (nodes_append lead (nodes_append captions (nodes_append columns (nodes_append heads (nodes_append feet (of_one_kind bodies))))))) (sym named) kids, tt)

-- the elements have roles that the part may hold
abbrev pub Fits : Part → Nodes → Type 0
Fits wanted no_nodes = Unit {0}
Fits wanted (text_first s f) = Fits wanted f
Fits wanted (elem_first e kids f) = (may_hold wanted (role_of e.name) ≡ true) × Fits wanted f

pub Fits-part : (wanted : Part) (m : Met) (f : Nodes) → Fits wanted (part wanted m f)
Fits-part wanted m no_nodes = tt
Fits-part wanted m (text_first s f) = go (same_part wanted m.part) (Fits-part wanted m f)
  where
    go : (b : Bool) → Fits wanted (part wanted m f) → Fits wanted (if b then text_first s (part wanted m f) else part wanted m f)
    go true r = r
    go false r = r
Fits-part wanted m (elem_first e kids f) = go (same_part wanted (next m (role_of e.name)).part) refl (Fits-part wanted (next m (role_of e.name)) f)
  where
    go : (b : Bool) → same_part wanted (next m (role_of e.name)).part ≡ b → Fits wanted (part wanted (next m (role_of e.name)) f)
        → Fits wanted (if b then elem_first e kids (part wanted (next m (role_of e.name)) f) else part wanted (next m (role_of e.name)) f)
    go true is r = (subst (λ x. may_hold x (role_of e.name) ≡ true) (sym (same_part-true wanted (next m (role_of e.name)).part is)) (part_of_role m (role_of e.name)), r)
    go false is r = r

-- what belongs to the captions is a caption
pub is_caption : (e : Element) → may_hold Captions (role_of e) ≡ true → e ≡ Caption
is_caption e h = go (role_of e) refl h
  where
    go : (r : Role) → role_of e ≡ r → may_hold Captions r ≡ true → e ≡ Caption
    go Title is k = of_role e Title is refl
    go Column is k = absurd (cc)
    go ColumnGroup is k = absurd (cc)
    go Header is k = absurd (cc)
    go Footer is k = absurd (cc)
    go Body is k = absurd (cc)
    go Row is k = absurd (cc)
    go Stranger is k = absurd (cc)

Holds-paragraph_of : (q : Property) (p : Permits) → StaysInRepair q p → (w : q.Where) (attrs : List Attribute) (kids : Nodes) → q.elem w (plain_elem Table attrs)
    → Holds q (q.inside (q.inside w Table) Caption) kids → Holds q w (paragraph_of p.paragraph kids)
Holds-paragraph_of q p stays w attrs kids h k = go p.paragraph refl (not (are_blank kids))
  where
    go : (b : Bool) → p.paragraph ≡ b → (c : Bool) → Holds q w (if b && c then elem_first (bare P) kids no_nodes else no_nodes)
    go true is true = (stays.paragraph is w attrs h, stays.caption w kids k, tt)
    go true is false = tt
    go false is c = tt

Holds-without_bodies : (q : Property) (p : Permits) → StaysInRepair q p → (w : q.Where) (attrs : List Attribute) (f : Nodes) → q.elem w (plain_elem Table attrs)
    → Fits Captions f → Holds q (q.inside w Table) f → Holds q w (without_bodies p.paragraph f)
Holds-without_bodies q p stays w attrs no_nodes t fits h = tt
Holds-without_bodies q p stays w attrs (text_first s f) t fits h = tt
Holds-without_bodies q p stays w attrs (elem_first e kids f) t fits h =
    Holds-paragraph_of q p stays w attrs kids t (subst (λ x. Holds q (q.inside (q.inside w Table) x) kids) (is_caption e.name fits.0) h.1)

Holds-repaired_table : (q : Property) (p : Permits) → StaysInRepair q p → (w : q.Where) (e : PlainElem) (kids : Nodes) → e.name ≡ Table → q.elem w e
    → Holds q (q.inside w Table) kids → Holds q w (repaired_table p e kids)
Holds-repaired_table q p stays w e kids named h k =
    go (not (has_no_nodes (parts_of kids Bodies))) (not (has_no_nodes (parts_of kids Feet))) (not (has_no_nodes (parts_of kids Heads)))
  where
    holds : (wanted : Part) → Holds q (q.inside w Table) (parts_of kids wanted)
    holds wanted = Holds-part q (q.inside w Table) wanted at_first kids k

    go : (a b c : Bool) → Holds q w
        (if a
        then table e (parts_of kids Lead) (parts_of kids Captions) (parts_of kids Columns) (parts_of kids Heads) (parts_of kids Feet) (as_bodies p.tbody (parts_of kids Bodies))
        else (if b
        then table e (parts_of kids Lead) (parts_of kids Captions) (parts_of kids Columns) (parts_of kids Heads) no_nodes (as_bodies p.tbody (parts_of kids Feet))
        else (if c
        then table e (parts_of kids Lead) (parts_of kids Captions) (parts_of kids Columns) no_nodes no_nodes (as_bodies p.tbody (parts_of kids Heads))
        else without_bodies p.paragraph (parts_of kids Captions))))
    go true b c = Holds-table q p stays w e (parts_of kids Lead) (parts_of kids Captions) (parts_of kids Columns) (parts_of kids Heads) (parts_of kids Feet) (as_bodies p.tbody (parts_of kids Bodies))
        h named (holds Lead) (holds Captions) (holds Columns) (holds Heads) (holds Feet) (Holds-as_bodies q p stays w (parts_of kids Bodies) (holds Bodies))
    go false true c = Holds-table q p stays w e (parts_of kids Lead) (parts_of kids Captions) (parts_of kids Columns) (parts_of kids Heads) no_nodes (as_bodies p.tbody (parts_of kids Feet))
        h named (holds Lead) (holds Captions) (holds Columns) (holds Heads) tt (Holds-as_bodies q p stays w (parts_of kids Feet) (holds Feet))
    go false false true = Holds-table q p stays w e (parts_of kids Lead) (parts_of kids Captions) (parts_of kids Columns) no_nodes no_nodes (as_bodies p.tbody (parts_of kids Heads))
        h named (holds Lead) (holds Captions) (holds Columns) tt tt (Holds-as_bodies q p stays w (parts_of kids Heads) (holds Heads))
    go false false false =
        Holds-without_bodies q p stays w e.attrs (parts_of kids Captions) (subst (λ x. q.elem w (plain_elem x e.attrs)) named h) (Fits-part Captions at_first kids) (holds Captions)

-- what stays in repair stays where an element is repaired
pub Holds-repair : (q : Property) (p : Permits) → StaysInRepair q p → (w : q.Where) (e : PlainElem) (kids : Nodes) → q.elem w e
    → Holds q (q.inside w e.name) kids → Holds q w (repair p e kids)
Holds-repair q p stays w e kids h k = go (same_element e.name Table) refl (vanishes e.name kids)
  where
    go : (b : Bool) → same_element e.name Table ≡ b → (c : Bool) → Holds q w (if b then repaired_table p e kids else (if c then no_nodes else elem_first e kids no_nodes))
    go true is c =
        let named : e.name ≡ Table = (same_element-Decides e.name Table).0 is in
        Holds-repaired_table q p stays w e kids named h (subst (λ x. Holds q (q.inside w x) kids) named k)
    go false is true = tt
    go false is false = (h, k, tt)

-- and where all elements are repaired
pub Holds-nested : (q : Property) (p : Permits) → StaysInRepair q p → (w : q.Where) (f : Nodes) → Holds q w f → Holds q w (nested p f)
Holds-nested q p stays w f h = Holds-joined_nodes q stays.joined w (walk (repair p) f) (Holds-walk q (repair p) (Holds-repair q p stays) w f h)
