-- Of which names the elements of a table's parts are.
use Rattle.std.proofs.Common.{◌≡◌, ◌⊎◌, inl, inr, List, [], ◌∷◌, Bool, true, false, ◌||◌, refl, ap, ◌∙◌}
use Rattle.pur_names.specs.declared.elements.Element.{Element}
use Rattle.pur_names.specs.declared.elements.Element.TheVariants.{Tbody, Tr}
use Rattle.pur_names.specs.Elements.{same_element}
use Rattle.pur_modules.specs.declared.kinds.Content.TheVariants.{TableParts, Rows}
use Rattle.pur_modules.specs.declared.kinds.Doctype.{Doctype}
use Rattle.pur_modules.specs.Contents.{content_held}
use Rattle.pur_modules.specs.Groups.{is_among}
use Rattle.pur_tree.specs.Nodes.{PlainElem, Nodes, no_nodes, text_first, elem_first, nodes_append}
use Rattle.pur_tree.specs.Properties.{Holds, letters}
use Rattle.pur_nesting.specs.declared.roles.Role.{Role}
use Rattle.pur_nesting.specs.declared.roles.Role.TheVariants.{Title, Header, Footer, Body, Row, Stranger}
use Rattle.pur_nesting.specs.declared.roles.Part.{Part}
use Rattle.pur_nesting.specs.declared.roles.Part.TheVariants.{Captions, Heads, Feet, Bodies}
use Rattle.pur_nesting.specs.Parts.{role_of, same_role}
use Rattle.pur_nesting.specs.Tables.{has_child, from_first_element, is_head_or_foot, as_body, as_bodies, runs_in_bodies, of_one_kind}
use Rattle.pur_nesting.proofs.RoleLemmas.{element_with, of_role, may_hold}
use Rattle.pur_nesting.proofs.HoldsLemmas.{Fits}
use Rattle.pur_nesting.proofs.LetterLemmas.{only_rows, at_kind}
use Rattle.pur_nesting.proofs.OrderLemmas.{Only}
use Rattle.pur_nesting.proofs.TableLemmas.{each_body}

Only-append : (es : List Element) (f g : Nodes) → Only es f → Only es g → Only es (nodes_append f g)
Only-append es no_nodes g o p = p
Only-append es (text_first s f) g o p = Only-append es f g o p
Only-append es (elem_first e kids f) g o p = (o.0, Only-append es f g o.1 p)

-- a place for one role has its elements alone
pub Only-role : (w : Part) (role : Role) → ((r : Role) → may_hold w r ≡ true → r ≡ role) → same_role role Stranger ≡ false
    → is_among (element_with role ∷ []) (element_with role) ≡ true → (f : Nodes) → Fits w f → Only (element_with role ∷ []) f
Only-role w role only known self no_nodes fits = tt
Only-role w role only known self (text_first s f) fits = Only-role w role only known self f fits
Only-role w role only known self (elem_first e kids f) fits =
    (ap (is_among (element_with role ∷ [])) (of_role e.name role (only (role_of e.name) fits.0) known) ∙ self, Only-role w role only known self f fits.1)

pub only_Title : (r : Role) → may_hold Captions r ≡ true → r ≡ Title
only_Title Title h = refl
only_Title r h = absurd (cc)

pub only_Header : (r : Role) → may_hold Heads r ≡ true → r ≡ Header
only_Header Header h = refl
only_Header r h = absurd (cc)

pub only_Footer : (r : Role) → may_hold Feet r ≡ true → r ≡ Footer
only_Footer Footer h = refl
only_Footer r h = absurd (cc)

-- what may stand as a head or foot may stand as a body
pub Fits-heads : (f : Nodes) → Fits Heads f → Fits Bodies f
Fits-heads no_nodes fits = tt
Fits-heads (text_first s f) fits = Fits-heads f fits
Fits-heads (elem_first e kids f) fits = (ap (may_hold Bodies) (only_Header (role_of e.name) fits.0), Fits-heads f fits.1)

pub Fits-feet : (f : Nodes) → Fits Feet f → Fits Bodies f
Fits-feet no_nodes fits = tt
Fits-feet (text_first s f) fits = Fits-feet f fits
Fits-feet (elem_first e kids f) fits = (ap (may_hold Bodies) (only_Footer (role_of e.name) fits.0), Fits-feet f fits.1)

-- rows alone
Only-rows : (d : Doctype) (f : Nodes) → Holds (letters d) Rows f → Only (Tbody ∷ Tr ∷ []) f
Only-rows d no_nodes h = tt
Only-rows d (text_first s f) h = Only-rows d f h.1
Only-rows d (elem_first e kids f) h = (ap (is_among (Tbody ∷ Tr ∷ [])) (only_rows d e.name h.0), Only-rows d f h.2)

Only-from_first_element : (es : List Element) (f : Nodes) → Only es f → Only es (from_first_element f)
Only-from_first_element es no_nodes o = tt
Only-from_first_element es (text_first s f) o = Only-from_first_element es f o
Only-from_first_element es (elem_first e kids f) o = o

-- what may stand as a body, and is no head and no foot, is a body or a row
body_or_row : (e : Element) → may_hold Bodies (role_of e) ≡ true → is_head_or_foot (role_of e) ≡ false → is_among (Tbody ∷ Tr ∷ []) e ≡ true
body_or_row e fits other = go (role_of e) refl fits other
  where
    go : (r : Role) → role_of e ≡ r → may_hold Bodies r ≡ true → is_head_or_foot r ≡ false → is_among (Tbody ∷ Tr ∷ []) e ≡ true
    go Body is k h = ap (is_among (Tbody ∷ Tr ∷ [])) (of_role e Body is refl)
    go Row is k h = ap (is_among (Tbody ∷ Tr ∷ [])) (of_role e Row is refl)
    go Header is k h = absurd (cc)
    go Footer is k h = absurd (cc)
    go r is k h = absurd (cc)

Only-as_body : (d : Doctype) (tbody : Bool) (e : PlainElem) (kids : Nodes) → may_hold Bodies (role_of e.name) ≡ true
    → Holds (letters d) (content_held d e.name TableParts) kids → Only (Tbody ∷ Tr ∷ []) (as_body tbody e kids)
Only-as_body d tbody e kids fits h =
    each_body (Only (Tbody ∷ Tr ∷ [])) d tbody e kids (λ rows. (refl, tt))
    (λ rows. Only-from_first_element (Tbody ∷ Tr ∷ []) kids (Only-rows d kids (at_kind d (content_held d e.name TableParts) Rows kids rows h)))
    (λ other. (body_or_row e.name fits other, tt))

pub Only-as_bodies : (d : Doctype) (tbody : Bool) (f : Nodes) → Fits Bodies f → Holds (letters d) TableParts f → Only (Tbody ∷ Tr ∷ []) (as_bodies tbody f)
Only-as_bodies d tbody no_nodes fits h = tt
Only-as_bodies d tbody (text_first s f) fits h = Only-as_bodies d tbody f fits h.1
Only-as_bodies d tbody (elem_first e kids f) fits h =
    Only-append (Tbody ∷ Tr ∷ []) (as_body tbody e kids) (as_bodies tbody f) (Only-as_body d tbody e kids fits.0 h.1) (Only-as_bodies d tbody f fits.1 h.2)

-- a body or a row that is no row is a body
body_left : (e : Element) → same_element e Tr ≡ false → is_among (Tbody ∷ Tr ∷ []) e ≡ true → is_among (Tbody ∷ []) e ≡ true
body_left e no_row h = go (same_element e Tbody) refl (same_element e Tr) refl h
  where
    go : (b : Bool) → same_element e Tbody ≡ b → (c : Bool) → same_element e Tr ≡ c → (b || (c || false)) ≡ true → (b || false) ≡ true
    go true be c ce k = refl
    go false be true ce k = absurd (cc (ce, no_row))
    go false be false ce k = absurd (cc)

Only-runs : (in_run : Bool) (f : Nodes) → Only (Tbody ∷ Tr ∷ []) f → Only (Tbody ∷ []) (runs_in_bodies in_run f)
Only-runs in_run no_nodes o = tt
Only-runs true (text_first s f) o = Only-runs true f o
Only-runs false (text_first s f) o = Only-runs false f o
Only-runs in_run (elem_first e kids f) o = go (same_element e.name Tr) refl in_run (Only-runs true f o.1) (Only-runs false f o.1)
  where
    go : (b : Bool) → same_element e.name Tr ≡ b → (i : Bool) → Only (Tbody ∷ []) (runs_in_bodies true f) → Only (Tbody ∷ []) (runs_in_bodies false f)
        → Only (Tbody ∷ []) (runs_in_bodies i (elem_first e kids f))
    go true is true r s = rw is r
    go true is false r s = rw is (refl, r)
    go false is i r s = rw is (body_left e.name is o.0, s)

-- without a body there are rows alone
Only-no_body : (f : Nodes) → has_child (Tbody ∷ []) f ≡ false → Only (Tbody ∷ Tr ∷ []) f → Only (Tr ∷ []) f
Only-no_body no_nodes h o = tt
Only-no_body (text_first s f) h o = Only-no_body f h o
Only-no_body (elem_first e kids f) h o = go (same_element e.name Tbody) refl h o.0 (λ k. Only-no_body f k o.1)
  where
    go : (b : Bool) → same_element e.name Tbody ≡ b → ((b || false) || has_child (Tbody ∷ []) f) ≡ false → (b || (same_element e.name Tr || false)) ≡ true
        → (has_child (Tbody ∷ []) f ≡ false → Only (Tr ∷ []) f) → Only (Tr ∷ []) (elem_first e kids f)
    go true is k l r = absurd (cc)
    go false is k l r = (l, r k)

-- bodies of one kind
pub bodies_alike : (f : Nodes) → Only (Tbody ∷ Tr ∷ []) f → Only (Tbody ∷ []) (of_one_kind f) ⊎ Only (Tr ∷ []) (of_one_kind f)
bodies_alike f o = go (has_child (Tbody ∷ []) f) refl
  where
    go : (b : Bool) → has_child (Tbody ∷ []) f ≡ b → Only (Tbody ∷ []) (of_one_kind f) ⊎ Only (Tr ∷ []) (of_one_kind f)
    go true is = rw is (inl (Only-runs false f o))
    go false is = rw is (inr (Only-no_body f is o))
