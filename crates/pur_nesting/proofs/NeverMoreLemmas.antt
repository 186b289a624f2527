-- No character stands more often after repair than before.
use Rattle.std.proofs.Common.{◌≡◌, ℕ, ◌+◌, ◌≤◌, Bool, not, ◌&&◌, arith}
use Rattle.std.specs.Prelude.{if◌then◌else◌}
use Rattle.pur_laws.proofs.Truth.{either}
use Rattle.pur_names.specs.declared.elements.Element.TheVariants.{P, Table, Tbody}
use Rattle.pur_names.specs.Elements.{same_element}
use Rattle.pur_tree.specs.Nodes.{PlainElem, plain_elem, bare, Nodes, no_nodes, text_first, elem_first}
use Rattle.pur_tree.specs.Walks.{walk, count_in_text}
use Rattle.pur_tree.proofs.WalkLemmas.{count_in_text-append, count_in_text-joined_nodes}
use Rattle.pur_nesting.specs.declared.permits.Permits.{Permits}
use Rattle.pur_nesting.specs.declared.roles.Part.{Part}
use Rattle.pur_nesting.specs.declared.roles.Part.TheVariants.{Lead, Captions, Columns, Heads, Feet, Bodies}
use Rattle.pur_nesting.specs.Parts.{role_of, at_first}
use Rattle.pur_nesting.specs.Tables.{are_blank, from_first_element, is_head_or_foot, as_body, as_bodies, without_bodies, parts_of, repaired_table}
use Rattle.pur_nesting.specs.Nesting.{vanishes, repair, nested}
use Rattle.pur_nesting.proofs.PartCountLemmas.{count_in_parts, parts_have_all, Sums, count_in_text-table}
use Rattle.pur_nesting.proofs.TableLemmas.{each_table}

-- the character stands in the nodes so often at most
abbrev AtMost : ℕ → ℕ → Nodes → Type 0
AtMost c n f = count_in_text c f ≤ n

less-from_first_element : (c : ℕ) (f : Nodes) → count_in_text c (from_first_element f) ≤ count_in_text c f
less-from_first_element c no_nodes = omega arith
less-from_first_element c (text_first s f) = let r = less-from_first_element c f in omega (arith, r)
less-from_first_element c (elem_first e kids f) = omega arith

less-as_body : (c : ℕ) (tbody : Bool) (e : PlainElem) (kids : Nodes) → count_in_text c (as_body tbody e kids) ≤ count_in_text c kids
less-as_body c tbody e kids =
    let less = AtMost c (count_in_text c kids) in
    let body = elem_first (plain_elem Tbody e.attrs) kids no_nodes in
    let rows = from_first_element kids in
    either less (is_head_or_foot (role_of e.name)) (if tbody then body else rows) (elem_first e kids no_nodes)
    (either less tbody body rows here (less-from_first_element c kids)) here
  where
    here : count_in_text c kids + 0 ≤ count_in_text c kids
    here = omega arith

less-as_bodies : (c : ℕ) (tbody : Bool) (f : Nodes) → count_in_text c (as_bodies tbody f) ≤ count_in_text c f
less-as_bodies c tbody no_nodes = omega arith
less-as_bodies c tbody (text_first s f) = let r = less-as_bodies c tbody f in omega (arith, r)
less-as_bodies c tbody (elem_first e kids f) =
    let rest = less-as_bodies c tbody f in
    let body = less-as_body c tbody e kids in
    omega (arith, rest, body, count_in_text-append c (as_body tbody e kids) (as_bodies tbody f))

less-without_bodies : (c : ℕ) (paragraph : Bool) (f : Nodes) → count_in_text c (without_bodies paragraph f) ≤ count_in_text c f
less-without_bodies c paragraph no_nodes = omega arith
less-without_bodies c paragraph (text_first s f) = omega arith
less-without_bodies c paragraph (elem_first e kids f) =
    either (AtMost c (count_in_text c kids + count_in_text c f)) (paragraph && not (are_blank kids)) (elem_first (bare P) kids no_nodes) no_nodes
    (omega arith) (omega arith)

less-repaired_table : (c : ℕ) (p : Permits) (e : PlainElem) (kids : Nodes) → count_in_text c (repaired_table p e kids) ≤ count_in_text c kids
less-repaired_table c p e kids =
    each_table (AtMost c (count_in_text c kids)) p e (parts_of kids)
    (λ x. let b = less-as_bodies c p.tbody (parts Bodies) in omega (arith, made (parts Heads) (parts Feet) (as_bodies p.tbody (parts Bodies)), b, all))
    (λ x y. let b = less-as_bodies c p.tbody (parts Feet) in omega (arith, made (parts Heads) no_nodes (as_bodies p.tbody (parts Feet)), b, all))
    (λ x y z. let b = less-as_bodies c p.tbody (parts Heads) in omega (arith, made no_nodes no_nodes (as_bodies p.tbody (parts Heads)), b, all))
    (λ x y z. let b = less-without_bodies c p.paragraph (parts Captions) in omega (arith, b, all))
  where
    parts : Part → Nodes
    parts = parts_of kids

    made : (heads feet bodies : Nodes) → Sums c e (parts_of kids Lead) (parts_of kids Captions) (parts_of kids Columns) heads feet bodies
    made = count_in_text-table c e (parts_of kids Lead) (parts_of kids Captions) (parts_of kids Columns)

    all : count_in_parts c (parts_of kids) ≡ count_in_text c kids
    all = parts_have_all c at_first kids

less-repair : (c : ℕ) (p : Permits) (e : PlainElem) (kids : Nodes) → count_in_text c (repair p e kids) ≤ count_in_text c kids
less-repair c p e kids =
    let less = AtMost c (count_in_text c kids) in
    let other = if vanishes e.name kids then no_nodes else elem_first e kids no_nodes in
    either less (same_element e.name Table) (repaired_table p e kids) other (less-repaired_table c p e kids)
    (either less (vanishes e.name kids) no_nodes (elem_first e kids no_nodes) (omega arith) (omega arith))

less-walk : (c : ℕ) (p : Permits) (f : Nodes) → count_in_text c (walk (repair p) f) ≤ count_in_text c f
less-walk c p no_nodes = omega arith
less-walk c p (text_first s f) = let r = less-walk c p f in omega (arith, r)
less-walk c p (elem_first e kids f) =
    let rest = less-walk c p f in
    let inner = less-walk c p kids in
    let here = less-repair c p e (walk (repair p) kids) in
    omega (arith, rest, inner, here, count_in_text-append c (repair p e (walk (repair p) kids)) (walk (repair p) f))

pub never_more : (p : Permits) (c : ℕ) (f : Nodes) → count_in_text c (nested p f) ≤ count_in_text c f
never_more p c f = let w = less-walk c p f in omega (arith, count_in_text-joined_nodes c (walk (repair p) f), w)
