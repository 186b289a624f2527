-- The parts of a table have each character that it has.
use Rattle.std.proofs.Common.{◌≡◌, ℕ, ◌+◌, [], ◌∷◌, Bool, true, false, refl, arith}
use Rattle.std.specs.Prelude.{if◌then◌else◌}
use Rattle.pur_laws.proofs.Truth.{either}
use Rattle.pur_names.specs.declared.elements.Element.TheVariants.{Tbody, Tr}
use Rattle.pur_names.specs.Elements.{same_element}
use Rattle.pur_tree.specs.Nodes.{PlainElem, Nodes, no_nodes, text_first, elem_first, nodes_append}
use Rattle.pur_tree.specs.Walks.{count_in_text}
use Rattle.pur_tree.proofs.WalkLemmas.{count_in_text-append}
use Rattle.pur_nesting.specs.declared.roles.Part.{Part}
use Rattle.pur_nesting.specs.declared.roles.Part.TheVariants.{Lead, Captions, Columns, Heads, Feet, Bodies, Surplus}
use Rattle.pur_nesting.specs.declared.roles.Met.{Met}
use Rattle.pur_nesting.specs.Parts.{role_of, same_part, next, part}
use Rattle.pur_nesting.specs.Tables.{has_child, run_of_rows, runs_in_bodies, of_one_kind, table}

-- how often a character stands in all parts of a table
abbrev pub count_in_parts : ℕ → (Part → Nodes) → ℕ
count_in_parts c parts =
    count_in_text c (parts Lead) + (count_in_text c (parts Captions) + (count_in_text c (parts Columns) + (count_in_text c (parts Heads)
    + (count_in_text c (parts Feet) + (count_in_text c (parts Bodies) + count_in_text c (parts Surplus))))))

-- a node more in one of the parts
count_in_parts-put : (c : ℕ) (q : Part) (parts : Part → Nodes) (node : Nodes) (put : Nodes → Nodes)
    → ((f : Nodes) → count_in_text c (put f) ≡ count_in_text c node + count_in_text c f)
    → count_in_parts c (λ w. if same_part w q then put (parts w) else parts w) ≡ count_in_text c node + count_in_parts c parts
count_in_parts-put c Lead parts node put more = omega (arith, more (parts Lead))
count_in_parts-put c Captions parts node put more = omega (arith, more (parts Captions))
count_in_parts-put c Columns parts node put more = omega (arith, more (parts Columns))
count_in_parts-put c Heads parts node put more = omega (arith, more (parts Heads))
count_in_parts-put c Feet parts node put more = omega (arith, more (parts Feet))
count_in_parts-put c Bodies parts node put more = omega (arith, more (parts Bodies))
count_in_parts-put c Surplus parts node put more = omega (arith, more (parts Surplus))

-- the parts of a table have all that it has
pub parts_have_all : (c : ℕ) (m : Met) (f : Nodes) → count_in_parts c (λ w. part w m f) ≡ count_in_text c f
parts_have_all c m no_nodes = refl
parts_have_all c m (text_first s f) =
    let put = count_in_parts-put c m.part (λ w. part w m f) (text_first s no_nodes) (text_first s) (λ g. omega arith) in
    omega (arith, put, parts_have_all c m f)
parts_have_all c m (elem_first e kids f) =
    let n : Met = next m (role_of e.name) in
    let put = count_in_parts-put c n.part (λ w. part w n f) (elem_first e kids no_nodes) (elem_first e kids) (λ g. omega arith) in
    omega (arith, put, parts_have_all c n f)

-- rows that go into bodies stay: those that begin a run, and what a run puts into its body together with what is left
abbrev RunsHaveAll : ℕ → Nodes → Type 0
RunsHaveAll c f =
    (count_in_text c (runs_in_bodies false f) ≡ count_in_text c f)
    × (count_in_text c (run_of_rows f) + count_in_text c (runs_in_bodies true f) ≡ count_in_text c f)

runs_have_all : (c : ℕ) (f : Nodes) → RunsHaveAll c f
runs_have_all c no_nodes = (refl, refl)
runs_have_all c (text_first s f) = let r = runs_have_all c f in (omega (arith, r.0), omega (arith, r.1))
runs_have_all c (elem_first e kids f) = go (same_element e.name Tr) refl (runs_have_all c f)
  where
    go : (b : Bool) → same_element e.name Tr ≡ b → RunsHaveAll c f → RunsHaveAll c (elem_first e kids f)
    go true is r = rw is (omega (arith, r.1), omega (arith, r.1))
    go false is r = rw is (omega (arith, r.0), omega (arith, r.0))

count_in_text-of_one_kind : (c : ℕ) (f : Nodes) → count_in_text c (of_one_kind f) ≡ count_in_text c f
count_in_text-of_one_kind c f =
    either (λ g. count_in_text c g ≡ count_in_text c f) (has_child (Tbody ∷ []) f) (runs_in_bodies false f) f (runs_have_all c f).0 refl

-- a table of six parts has what they have
abbrev pub Sums : ℕ → PlainElem → Nodes → Nodes → Nodes → Nodes → Nodes → Nodes → Type 0
Sums c e lead captions columns heads feet bodies =
    count_in_text c (table e lead captions columns heads feet bodies)
    ≡ count_in_text c lead + (count_in_text c captions + (count_in_text c columns + (count_in_text c heads + (count_in_text c feet + count_in_text c bodies))))

pub count_in_text-table : (c : ℕ) (e : PlainElem) (lead captions columns heads feet bodies : Nodes) → Sums c e lead captions columns heads feet bodies
count_in_text-table c e x y z u v w =
    omega (
      arith,
      count_in_text-of_one_kind c w,
      count_in_text-append c v (of_one_kind w),
      count_in_text-append c u (nodes_append v (of_one_kind w)),
      count_in_text-append c z (nodes_append u (nodes_append v (of_one_kind w))),
      count_in_text-append c y (nodes_append z (nodes_append u (nodes_append v (of_one_kind w)))),
      count_in_text-append c x (nodes_append y (nodes_append z (nodes_append u (nodes_append v (of_one_kind w))))),
    )
