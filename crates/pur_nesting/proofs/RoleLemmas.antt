-- What roles and parts tell.
use Rattle.std.proofs.Common.{◌≡◌, Bool, true, false, ◌||◌, refl}
use Rattle.std.specs.Prelude.{if◌then◌else◌}
use Rattle.pur_names.specs.declared.elements.Element.{Element}
use Rattle.pur_names.specs.declared.elements.Element.TheVariants.{Caption, Col, Colgroup, Table, Tbody, Tfoot, Thead, Tr}
use Rattle.pur_names.specs.Elements.{same_element}
use Rattle.pur_names.proofs.ElementLaws.{each_element, same_element-Decides}
use Rattle.pur_nesting.specs.declared.roles.Role.{Role}
use Rattle.pur_nesting.specs.declared.roles.Role.TheVariants.{Title, Column, ColumnGroup, Header, Footer, Body, Row, Stranger}
use Rattle.pur_nesting.specs.declared.roles.Part.{Part}
use Rattle.pur_nesting.specs.declared.roles.Part.TheVariants.{Lead, Captions, Columns, Heads, Feet, Bodies, Surplus}
use Rattle.pur_nesting.specs.declared.roles.Met.{Met}
use Rattle.pur_nesting.specs.Parts.{role_of, same_role, same_part, next}

-- the element that has a role; of a stranger this says nothing
abbrev pub element_with : Role → Element
element_with Title = Caption
element_with Column = Col
element_with ColumnGroup = Colgroup
element_with Header = Thead
element_with Footer = Tfoot
element_with Body = Tbody
element_with Row = Tr
element_with Stranger = Table

has_its_name : (e : Element) → (same_role (role_of e) Stranger || same_element e (element_with (role_of e))) ≡ true
has_its_name = each_element (λ e. same_role (role_of e) Stranger || same_element e (element_with (role_of e))) refl

-- an element with a role has its name
pub of_role : (e : Element) (r : Role) → role_of e ≡ r → same_role r Stranger ≡ false → e ≡ element_with r
of_role e r is known =
    let named : (same_role r Stranger || same_element e (element_with r)) ≡ true = rw is at (has_its_name e) in
    (same_element-Decides e (element_with r)).0 (rw known at named)

pub same_part-true : (a b : Part) → same_part a b ≡ true → a ≡ b
same_part-true Lead Lead h = refl
same_part-true Captions Captions h = refl
same_part-true Columns Columns h = refl
same_part-true Heads Heads h = refl
same_part-true Feet Feet h = refl
same_part-true Bodies Bodies h = refl
same_part-true Surplus Surplus h = refl
same_part-true a b h = absurd (cc)

-- the roles that a part has
abbrev pub may_hold : Part → Role → Bool
may_hold Captions Title = true
may_hold Columns Column = true
may_hold Columns ColumnGroup = true
may_hold Heads Header = true
may_hold Feet Footer = true
may_hold Bodies Header = true
may_hold Bodies Footer = true
may_hold Bodies Body = true
may_hold Bodies Row = true
may_hold Surplus Title = true
may_hold Surplus Column = true
may_hold Surplus ColumnGroup = true
may_hold Surplus Stranger = true
may_hold place role = false

either : (b : Bool) (p q : Part) (r : Role) → may_hold p r ≡ true → may_hold q r ≡ true → may_hold (if b then p else q) r ≡ true
either true p q r h k = h
either false p q r h k = k

pub part_of_role : (m : Met) (r : Role) → may_hold (next m r).part r ≡ true
part_of_role m Title = either m.caption Surplus Captions Title refl refl
part_of_role m Column = either m.groups Surplus Columns Column refl refl
part_of_role m ColumnGroup = either m.columns Surplus Columns ColumnGroup refl refl
part_of_role m Header = either m.head Bodies Heads Header refl refl
part_of_role m Footer = either m.foot Bodies Feet Footer refl refl
part_of_role m Body = refl
part_of_role m Row = refl
part_of_role m Stranger = refl
