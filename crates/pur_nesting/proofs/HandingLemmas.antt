-- Bodies of a table that need no change stay as they are.
use Rattle.std.proofs.Common.{◌≡◌, [], ◌∷◌, Bool, true, false, ◌&&◌, refl, ap}
use Rattle.std.specs.Prelude.{if◌then◌else◌}
use Rattle.std.proofs.lemmas.Bool.{or_parts}
use Rattle.pur_names.specs.declared.elements.Element.TheVariants.{Tbody, Tr}
use Rattle.pur_names.specs.Elements.{same_element}
use Rattle.pur_modules.specs.Groups.{is_among}
use Rattle.pur_tree.specs.Nodes.{Nodes, no_nodes, text_first, elem_first}
use Rattle.pur_nesting.specs.Parts.{role_of}
use Rattle.pur_nesting.specs.Tables.{has_child, is_head_or_foot, as_bodies, runs_in_bodies, of_one_kind}
use Rattle.pur_nesting.specs.Private.Handing.{has_head_or_foot}

-- without a head and a foot
pub same_bodies : (tbody : Bool) (f : Nodes) → has_head_or_foot f ≡ false → f ≡ as_bodies tbody f
same_bodies tbody no_nodes h = refl
same_bodies tbody (text_first s f) h = ap (text_first s) (same_bodies tbody f h)
same_bodies tbody (elem_first e kids f) h =
    let no = or_parts (is_head_or_foot (role_of e.name)) (has_head_or_foot f) h in
    rw no.0 (ap (elem_first e kids) (same_bodies tbody f no.1))

-- without a row
runs_stay : (f : Nodes) → has_child (Tr ∷ []) f ≡ false → f ≡ runs_in_bodies false f
runs_stay no_nodes h = refl
runs_stay (text_first s f) h = ap (text_first s) (runs_stay f h)
runs_stay (elem_first e kids f) h =
    let no = or_parts (is_among (Tr ∷ []) e.name) (has_child (Tr ∷ []) f) h in
    let no_row = or_parts (same_element e.name Tr) false no.0 in
    rw no_row.0 (ap (elem_first e kids) (runs_stay f no.1))

-- without a row, or without a body
pub same_kind : (f : Nodes) → (has_child (Tbody ∷ []) f && has_child (Tr ∷ []) f) ≡ false → f ≡ of_one_kind f
same_kind f h = go (has_child (Tbody ∷ []) f) h
  where
    go : (b : Bool) → (b && has_child (Tr ∷ []) f) ≡ false → f ≡ (if b then runs_in_bodies false f else f)
    go true k = runs_stay f k
    go false k = refl
