-- The columns of a table are of one kind.
use Rattle.std.proofs.Common.{◌≡◌, ◌⊎◌, inl, inr, [], ◌∷◌, Bool, true, false, not, refl, ap}
use Rattle.std.specs.Prelude.{if◌then◌else◌}
use Rattle.pur_laws.proofs.Truth.{either}
use Rattle.pur_names.specs.declared.elements.Element.TheVariants.{Col, Colgroup}
use Rattle.pur_tree.specs.Nodes.{PlainElem, Nodes, no_nodes, text_first, elem_first}
use Rattle.pur_nesting.specs.declared.roles.Role.{Role}
use Rattle.pur_nesting.specs.declared.roles.Role.TheVariants.{Column, ColumnGroup}
use Rattle.pur_nesting.specs.declared.roles.Part.{Part}
use Rattle.pur_nesting.specs.declared.roles.Part.TheVariants.{Columns}
use Rattle.pur_nesting.specs.declared.roles.Met.{Met}
use Rattle.pur_nesting.specs.Parts.{role_of, same_part, next, part}
use Rattle.pur_nesting.proofs.RoleLemmas.{of_role, may_hold}
use Rattle.pur_nesting.proofs.OneLemmas.{held}
use Rattle.pur_nesting.proofs.OrderLemmas.{Only}
use Rattle.pur_nesting.proofs.TableLemmas.{in_part}

-- an element whose role has no such place is passed over
passed : (w : Part) (m : Met) (e : PlainElem) (kids f : Nodes) (r : Role) → may_hold w r ≡ false
    → (if same_part w (next m r).part then elem_first e kids (part w (next m r) f) else part w (next m r) f) ≡ part w (next m r) f
passed w m e kids f r none =
    in_part (λ x. x ≡ part w (next m r) f) w (next m r).part (elem_first e kids (part w (next m r) f)) (part w (next m r) f)
    (λ there. let k = held w m r there in absurd (cc)) (λ other. refl)

-- where columns of a kind have been met, no others follow
more_columns : (g : Bool) (m : Met) (f : Nodes) → m.groups ≡ g → m.columns ≡ not g → Only ((if g then Colgroup else Col) ∷ []) (part Columns m f)
more_columns g m no_nodes groups columns = tt
more_columns g m (text_first s f) groups columns =
    let more = more_columns g m f groups columns in
    either (Only ((if g then Colgroup else Col) ∷ [])) (same_part Columns m.part) (text_first s (part Columns m f)) (part Columns m f) more more
more_columns g m (elem_first e kids f) groups columns = go g (role_of e.name) refl groups columns (λ n h k. more_columns g n f h k)
  where
    go : (g : Bool) (r : Role) → role_of e.name ≡ r → m.groups ≡ g → m.columns ≡ not g
        → ((n : Met) → n.groups ≡ g → n.columns ≡ not g → Only ((if g then Colgroup else Col) ∷ []) (part Columns n f))
        → Only ((if g then Colgroup else Col) ∷ []) (if same_part Columns (next m r).part then elem_first e kids (part Columns (next m r) f) else part Columns (next m r) f)
    go false Column is h k more = let o = more (next m Column) h (ap not h) in rw h (rw (of_role e.name Column is refl) (refl, rw h at o))
    go true Column is h k more = let o = more (next m Column) h (ap not h) in rw h (rw h at o)
    go false ColumnGroup is h k more = let o = more (next m ColumnGroup) (ap not k) k in rw k (rw k at o)
    go true ColumnGroup is h k more = let o = more (next m ColumnGroup) (ap not k) k in rw k (rw (of_role e.name ColumnGroup is refl) (refl, rw k at o))
    go g role is h k more = rw (passed Columns m e kids f role refl) (more (next m role) h k)

-- all columns are of one kind
abbrev pub AreAlike : Nodes → Type 0
AreAlike f = Only (Col ∷ []) f ⊎ Only (Colgroup ∷ []) f

pub columns_alike : (m : Met) (f : Nodes) → m.groups ≡ false → m.columns ≡ false → AreAlike (part Columns m f)
columns_alike m no_nodes g c = inl tt
columns_alike m (text_first s f) g c =
    let more = columns_alike m f g c in either AreAlike (same_part Columns m.part) (text_first s (part Columns m f)) (part Columns m f) more more
columns_alike m (elem_first e kids f) g c = go (role_of e.name) refl (λ n h k. columns_alike n f h k)
  where
    go : (r : Role) → role_of e.name ≡ r → ((n : Met) → n.groups ≡ false → n.columns ≡ false → AreAlike (part Columns n f))
        → AreAlike (if same_part Columns (next m r).part then elem_first e kids (part Columns (next m r) f) else part Columns (next m r) f)
    go Column is more =
        let o = more_columns false (next m Column) f g (ap not g) in inl (rw g (rw (of_role e.name Column is refl) (refl, rw g at o)))
    go ColumnGroup is more =
        let o = more_columns true (next m ColumnGroup) f (ap not c) c in inr (rw c (rw (of_role e.name ColumnGroup is refl) (refl, rw c at o)))
    go role is more = rw (passed Columns m e kids f role refl) (more (next m role) g c)
