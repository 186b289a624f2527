-- What is asked of a table is asked of the forms that it may have.
use Rattle.std.proofs.Common.{◌≡◌, Bool, true, false, refl, ap, ◌∙◌}
use Rattle.std.specs.Prelude.{if◌then◌else◌}
use Rattle.pur_names.specs.declared.elements.Element.{Element}
use Rattle.pur_names.specs.declared.elements.Element.TheVariants.{Tbody}
use Rattle.pur_modules.specs.declared.kinds.Content.TheVariants.{TableParts, Rows}
use Rattle.pur_modules.specs.declared.kinds.Doctype.{Doctype}
use Rattle.pur_modules.specs.Contents.{content_held}
use Rattle.pur_tree.specs.Nodes.{PlainElem, plain_elem, Nodes, no_nodes, elem_first, has_no_nodes}
use Rattle.pur_nesting.specs.declared.permits.Permits.{Permits}
use Rattle.pur_nesting.specs.declared.roles.Role.{Role}
use Rattle.pur_nesting.specs.declared.roles.Role.TheVariants.{Header, Footer}
use Rattle.pur_nesting.specs.declared.roles.Part.{Part}
use Rattle.pur_nesting.specs.declared.roles.Part.TheVariants.{Lead, Captions, Columns, Heads, Feet, Bodies}
use Rattle.pur_nesting.specs.Parts.{role_of, same_part}
use Rattle.pur_nesting.specs.Tables.{from_first_element, is_head_or_foot, as_body, as_bodies, table, table_of_parts, without_bodies}
use Rattle.pur_nesting.proofs.RoleLemmas.{of_role, same_part-true}
use Rattle.pur_nesting.proofs.LetterLemmas.{held_rows}

-- a node that belongs to a part, or doesn't
pub in_part : (Asked : Nodes → Type 0) (w q : Part) (x y : Nodes) → (w ≡ q → Asked x) → (same_part w q ≡ false → Asked y)
    → Asked (if same_part w q then x else y)
in_part Asked w q x y there other = go (same_part w q) refl
  where
    go : (b : Bool) → same_part w q ≡ b → Asked (if b then x else y)
    go true is = there (same_part-true w q is)
    go false is = other is

-- the forms of a repaired table: with bodies, with the foot as the body, with the head as the body, and without bodies
pub each_table : (Asked : Nodes → Type 0) (p : Permits) (e : PlainElem) (parts : Part → Nodes)
    → (has_no_nodes (parts Bodies) ≡ false
    → Asked (table e (parts Lead) (parts Captions) (parts Columns) (parts Heads) (parts Feet) (as_bodies p.tbody (parts Bodies))))
    → (has_no_nodes (parts Bodies) ≡ true → has_no_nodes (parts Feet) ≡ false
    → Asked (table e (parts Lead) (parts Captions) (parts Columns) (parts Heads) no_nodes (as_bodies p.tbody (parts Feet))))
    → (has_no_nodes (parts Bodies) ≡ true → has_no_nodes (parts Feet) ≡ true → has_no_nodes (parts Heads) ≡ false
    → Asked (table e (parts Lead) (parts Captions) (parts Columns) no_nodes no_nodes (as_bodies p.tbody (parts Heads))))
    → (has_no_nodes (parts Bodies) ≡ true → has_no_nodes (parts Feet) ≡ true → has_no_nodes (parts Heads) ≡ true
    → Asked (without_bodies p.paragraph (parts Captions)))
    → Asked (table_of_parts p e parts)
each_table Asked p e parts bodies foot head none =
    go (has_no_nodes (parts Bodies)) refl (has_no_nodes (parts Feet)) refl (has_no_nodes (parts Heads)) refl
  where
    go : (x : Bool) → has_no_nodes (parts Bodies) ≡ x → (y : Bool) → has_no_nodes (parts Feet) ≡ y → (z : Bool) → has_no_nodes (parts Heads) ≡ z
        → Asked (table_of_parts p e parts)
    go false x y ye z ze = rw x (bodies x)
    go true x false y z ze = rw (x, y) (foot x y)
    go true x true y false z = rw (x, y, z) (head x y z)
    go true x true y true z = rw (x, y, z) (none x y z)

-- a head or foot holds rows
holds_rows : (d : Doctype) (e : Element) → is_head_or_foot (role_of e) ≡ true → content_held d e TableParts ≡ Rows
holds_rows d e h = go (role_of e) refl h
  where
    go : (r : Role) → role_of e ≡ r → is_head_or_foot r ≡ true → content_held d e TableParts ≡ Rows
    go Header is k = ap (λ x. content_held d x TableParts) (of_role e Header is refl) ∙ (held_rows d TableParts).0
    go Footer is k = ap (λ x. content_held d x TableParts) (of_role e Footer is refl) ∙ (held_rows d TableParts).1
    go r is k = absurd (cc)

-- the forms of a body: a head or foot that holds rows is a body or gives its rows, and all else stays
pub each_body : (Asked : Nodes → Type 0) (d : Doctype) (tbody : Bool) (e : PlainElem) (kids : Nodes)
    → (content_held d e.name TableParts ≡ Rows → Asked (elem_first (plain_elem Tbody e.attrs) kids no_nodes))
    → (content_held d e.name TableParts ≡ Rows → Asked (from_first_element kids))
    → (is_head_or_foot (role_of e.name) ≡ false → Asked (elem_first e kids no_nodes))
    → Asked (as_body tbody e kids)
each_body Asked d tbody e kids body rows other = go (is_head_or_foot (role_of e.name)) refl tbody refl
  where
    go : (b : Bool) → is_head_or_foot (role_of e.name) ≡ b → (t : Bool) → tbody ≡ t → Asked (as_body tbody e kids)
    go true is true t = rw (is, t) (body (holds_rows d e.name is))
    go true is false t = rw (is, t) (rows (holds_rows d e.name is))
    go false is b t = rw is (other is)
