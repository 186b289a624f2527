-- At most one caption, one head and one foot belong to their parts.
use Rattle.std.proofs.Common.{◌≡◌, Bool, true, false, refl, sym, subst}
use Rattle.pur_laws.proofs.Truth.{either}
use Rattle.pur_tree.specs.Nodes.{Nodes, no_nodes, text_first, elem_first}
use Rattle.pur_nesting.specs.declared.roles.Role.{Role}
use Rattle.pur_nesting.specs.declared.roles.Role.TheVariants.{Title, Header, Footer}
use Rattle.pur_nesting.specs.declared.roles.Part.{Part}
use Rattle.pur_nesting.specs.declared.roles.Part.TheVariants.{Captions, Heads, Feet}
use Rattle.pur_nesting.specs.declared.roles.Met.{Met}
use Rattle.pur_nesting.specs.Parts.{role_of, same_part, next, part}
use Rattle.pur_nesting.proofs.RoleLemmas.{may_hold, part_of_role}
use Rattle.pur_nesting.proofs.TableLemmas.{in_part}

-- there is no element
abbrev pub NoElems : Nodes → Type 0
NoElems no_nodes = Unit {0}
NoElems (text_first s f) = NoElems f
NoElems (elem_first e kids f) = ⊥

-- there is at most one
abbrev pub AtMostOne : Nodes → Type 0
AtMostOne no_nodes = Unit {0}
AtMostOne (text_first s f) = AtMostOne f
AtMostOne (elem_first e kids f) = NoElems f

abbrev pub is_single : Part → Bool
is_single Captions = true
is_single Heads = true
is_single Feet = true
is_single w = false

-- what belongs to such a part has been met
abbrev met_at : Part → Met → Bool
met_at Captions m = m.caption
met_at Heads m = m.head
met_at Feet m = m.foot
met_at w m = false

pub held : (w : Part) (m : Met) (r : Role) → w ≡ (next m r).part → may_hold w r ≡ true
held w m r e = subst (λ x. may_hold x r ≡ true) (sym e) (part_of_role m r)

-- it stays met
stays_met : (w : Part) (m : Met) (r : Role) → met_at w m ≡ true → met_at w (next m r) ≡ true
stays_met Captions m Title h = refl
stays_met Heads m Header h = refl
stays_met Feet m Footer h = refl
stays_met w m r h = h

-- nothing more belongs there
none_twice : (w : Part) (m : Met) (r : Role) → met_at w m ≡ true → w ≡ (next m r).part → may_hold w r ≡ true → ⊥
none_twice Captions m Title h e k = let x = rw h at e in absurd (cc)
none_twice Heads m Header h e k = let x = rw h at e in absurd (cc)
none_twice Feet m Footer h e k = let x = rw h at e in absurd (cc)
none_twice w m r h e k = absurd (cc)

-- it is met where it belongs there
met_there : (w : Part) (m : Met) (r : Role) → is_single w ≡ true → may_hold w r ≡ true → met_at w (next m r) ≡ true
met_there Captions m Title h k = refl
met_there Heads m Header h k = refl
met_there Feet m Footer h k = refl
met_there w m r h k = absurd (cc)

NoElems-part : (w : Part) (m : Met) (f : Nodes) → met_at w m ≡ true → NoElems (part w m f)
NoElems-part w m no_nodes h = tt
NoElems-part w m (text_first s f) h =
    let r = NoElems-part w m f h in either NoElems (same_part w m.part) (text_first s (part w m f)) (part w m f) r r
NoElems-part w m (elem_first e kids f) h =
    let n : Met = next m (role_of e.name) in
    let stays = stays_met w m (role_of e.name) h in
    in_part NoElems w n.part (elem_first e kids (part w n f)) (part w n f)
    (λ there. none_twice w m (role_of e.name) h there (held w m (role_of e.name) there)) (λ other. NoElems-part w n f stays)

pub AtMostOne-part : (w : Part) (m : Met) (f : Nodes) → is_single w ≡ true → AtMostOne (part w m f)
AtMostOne-part w m no_nodes h = tt
AtMostOne-part w m (text_first s f) h =
    let r = AtMostOne-part w m f h in either AtMostOne (same_part w m.part) (text_first s (part w m f)) (part w m f) r r
AtMostOne-part w m (elem_first e kids f) h =
    let n : Met = next m (role_of e.name) in
    in_part AtMostOne w n.part (elem_first e kids (part w n f)) (part w n f)
    (λ there. NoElems-part w n f (met_there w m (role_of e.name) h (held w m (role_of e.name) there))) (λ other. AtMostOne-part w n f h)
